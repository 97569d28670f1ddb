-- What lists that are covers cover: the labels of partial walks and of rests.
use Rattle.std.proofs.Common.{◌≡◌, ℕ, ◌<◌, ℤ, Option, None, Some, List, [], ◌∷◌, ◌++◌, length, sym, ◌∙◌, subst, arith}
use Rattle.std.proofs.lemmas.Int.{ints}
use Rattle.std.proofs.lemmas.List.Elements.{All-contains}
use Rattle.path_graph.specs.Walk.{arc_at, Leads, IsWalk}
use Rattle.label_rules.specs.Dominance.{Dominates, StatesFit}
use Rattle.label_rules.specs.Joins.{HaveJoin}
use Rattle.label_rules.specs.Labels.{Backward, CanExtend, Direction, ExtendsAlong, Forward, HasBackwardLabel, HasForwardLabel, Label, Setting, SettingFits, backward_label, cut_at, extended, forward_label, label_from, left, root}
use Rattle.label_rules.specs.Tables.{BackwardCoverLaw, Covers, ForwardCoverLaw, IsCover, NeedsDominator}
use Rattle.label_rules.proofs.LabelLemmas.{backward_vertex}
use Rattle.label_rules.proofs.CostLemmas.{root_state}
use Rattle.label_rules.proofs.DominanceLemmas.{walk_met}
use Rattle.label_rules.proofs.OrderLemmas.{transitive, extended_states, extension_law}

-- what is needed of a label is needed of its dominator
pub needed_dominator : (direction : Direction) (S : Setting) (threshold : Option ℤ) (a b : Label) → Dominates direction S a b → NeedsDominator direction S threshold b → NeedsDominator direction S threshold a
needed_dominator Forward S None a b d h = tt
needed_dominator Backward S None a b d h = tt
needed_dominator Forward S (Some t) a b d h =
    let less = d.values 0 (omega arith) in
    (omega (arith, ints, less, h.0), λ e. h.1 (sym d.vertex ∙ e))
needed_dominator Backward S (Some t) a b d h =
    let less = d.values 0 (omega arith) in
    (omega (arith, ints, less, h.0), λ e. h.1 (sym d.vertex ∙ e))

-- one extension from a label that is walk_met
covers_extended : (direction : Direction) (S : Setting) (threshold : Option ℤ) (labels : List Label) (m : Label) (a : ℕ) → SettingFits S → IsCover direction S threshold labels → StatesFit S m
    → a < length S.graph.arcs → left direction S a ≡ m.vertex → CanExtend direction S m a → NeedsDominator direction S threshold (extended direction S m a) → Covers direction S labels m → Covers direction S labels (extended direction S m a)
covers_extended direction S threshold labels m a fits closed below there from can needed covers =
    let next = extension_law direction S covers.by m a fits (All-contains (StatesFit S) labels covers.by closed.states covers.listed) below covers.dominates can in
    let wanted = needed_dominator direction S threshold (extended direction S covers.by a) (extended direction S m a) next.1 needed in
    let found = closed.extensions covers.by a covers.listed there (from ∙ sym covers.dominates.vertex) next.0 wanted in
    record { by = found.by; listed = found.listed; dominates = transitive direction S found.by (extended direction S covers.by a) (extended direction S m a) found.dominates next.1 }

pub root_states : (direction : Direction) (S : Setting) → SettingFits S → StatesFit S (root direction S)
root_states direction S fits i inside =
    subst (λ (n : ℕ). n < (cut_at S i).den) (sym (root_state direction S i)) (omega (arith, (fits.cuts i inside).denominator.0))

-- each label over arcs from a label is needed, and each label of a rest
abbrev pub NeedForward : Setting → Option ℤ → Label → List ℕ → Type 0
NeedForward S threshold l [] = Unit {0}
NeedForward S threshold l (a ∷ rest) = NeedsDominator Forward S threshold (extended Forward S l a) × NeedForward S threshold (extended Forward S l a) rest

abbrev pub NeedBackward : Setting → Option ℤ → List ℕ → Type 0
NeedBackward S threshold [] = Unit {0}
NeedBackward S threshold (a ∷ rest) = NeedsDominator Backward S threshold (backward_label S (a ∷ rest)) × NeedBackward S threshold rest

backward_states : (S : Setting) (arcs : List ℕ) → SettingFits S → StatesFit S (backward_label S arcs)
backward_states S [] fits = root_states Backward S fits
backward_states S (a ∷ rest) fits = extended_states Backward S (backward_label S rest) a fits (backward_states S rest fits)

-- where all labels are needed, the last is walk_met
pub covers_forward : (S : Setting) (threshold : Option ℤ) (labels : List Label) (l : Label) (arcs : List ℕ) (v : ℕ) → SettingFits S → IsCover Forward S threshold labels → StatesFit S l
    → Leads S.graph l.vertex arcs v → ExtendsAlong S l arcs → NeedForward S threshold l arcs → Covers Forward S labels l → Covers Forward S labels (label_from S l arcs)
covers_forward S threshold labels l [] v fits closed below leads goes needs covers = covers
covers_forward S threshold labels l (a ∷ rest) v fits closed below leads goes needs covers =
    covers_forward S threshold labels (extended Forward S l a) rest v fits closed (extended_states Forward S l a fits below) leads.2 goes.1 needs.1
    (covers_extended Forward S threshold labels l a fits closed below leads.0 leads.1 goes.0 needs.0 covers)

pub covers_backward : (S : Setting) (threshold : Option ℤ) (labels : List Label) (arcs : List ℕ) (v : ℕ) → SettingFits S → IsCover Backward S threshold labels
    → Leads S.graph v arcs S.graph.ends.sink → HasBackwardLabel S arcs → NeedBackward S threshold arcs → Covers Backward S labels (backward_label S arcs)
covers_backward S threshold labels [] v fits closed leads has needs = closed.root
covers_backward S threshold labels (a ∷ rest) v fits closed leads has needs =
    covers_extended Backward S threshold labels (backward_label S rest) a fits closed (backward_states S rest fits) leads.0
    (sym (backward_vertex S rest (arc_at S.graph.arcs a).head leads.2)) has.0 needs.0
    (covers_backward S threshold labels rest (arc_at S.graph.arcs a).head fits closed leads.2 has.1 needs.1)

-- without a threshold every label is
all_forward : (S : Setting) (l : Label) (arcs : List ℕ) → NeedForward S None l arcs
all_forward S l [] = tt
all_forward S l (a ∷ rest) = (tt, all_forward S (extended Forward S l a) rest)

all_backward : (S : Setting) (arcs : List ℕ) → NeedBackward S None arcs
all_backward S [] = tt
all_backward S (a ∷ rest) = (tt, all_backward S rest)

pub forward_law : ForwardCoverLaw
forward_law S labels arcs v fits closed leads has =
    covers_forward S None labels (root Forward S) arcs v fits closed (root_states Forward S fits) leads has (all_forward S (root Forward S) arcs) closed.root

pub backward_law : BackwardCoverLaw
backward_law S labels arcs v fits closed leads has = covers_backward S None labels arcs v fits closed leads has (all_backward S arcs)

-- a walk is cut at an arc, and labels of two lists dominate those of its parts: so the lists have a join over the arc
pub lists_join : (S : Setting) (fore back : List Label) (front : List ℕ) (a : ℕ) (rest : List ℕ) → SettingFits S → IsWalk S.graph (front ++ a ∷ rest) → HasForwardLabel S (front ++ a ∷ rest)
    → Covers Forward S fore (forward_label S front) → Covers Backward S back (backward_label S rest) → HaveJoin S fore back a (forward_label S (front ++ a ∷ rest)).cost
lists_join S fore back front a rest fits walk has f b =
    let met = walk_met S front a rest f.by b.by fits walk has f.dominates b.dominates in
    record { front = f.by; rest = b.by; join = record { in_fore = f.listed; in_back = b.listed; joins = met.joins }; cost = met.cost }
