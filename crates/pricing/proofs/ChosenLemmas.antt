-- Choices from the root of the space of partial walks are feasible partial walks, arc by arc.
use Rattle.std.proofs.Common.{◌≡◌, ℕ, ◌<◌, ℤ, Option, Some, None, List, [], ◌∷◌, length, get_or, reverse, refl, sym, ◌∙◌, ap, subst}
use Rattle.std.specs.Prelude.{slice_get, slice_index}
use Rattle.std.proofs.lemmas.List.{reverse-reverse}
use Rattle.path_graph.specs.Parts.{arcs_from}
use Rattle.path_graph.specs.Rest.{IsPartial}
use Rattle.path_graph.specs.Walk.{GraphParts, IsFeasibleWalk, Leads, Passes, arc_at, values_at_end}
use Rattle.path_graph.proofs.IndexLemmas.{from_at}
use Rattle.label_space.specs.Rules.{Rules}
use Rattle.label_core.specs.declared.table.Entry.{Entry}
use Rattle.label_core.specs.declared.table.Origin.{Origin}
use Rattle.label_core.specs.declared.table.Place.{Place}
use Rattle.label_core.specs.Points.{IsSound}
use Rattle.label_core.specs.Tables.{Cells, StandsAt, place}
use Rattle.label_core.specs.Walks.{AreDifferentWalks, IsWalkOf, LeadsBack, Reaches}
use Rattle.label_rules.specs.declared.label.Label.{Label}
use Rattle.label_rules.specs.Labels.{Forward, Setting, extended, root}
use Rattle.label_rules.specs.Spaces.{onward, rules}
use Rattle.label_rules.proofs.TestLemmas.{extension_is}
use Rattle.route_model.specs.declared.plan.Taken.{Taken}
use Rattle.pricing.specs.declared.ranking.Ranked.{Ranked}
use Rattle.pricing.specs.Cheap.{IsCheap, IsTakenFrom}
use Rattle.pricing.specs.Walks.{AreChoices, HasPartialWalk, HasPartialWalks, arcs_chosen}

-- what choices from a label show
record AreOn (S : Setting) (l : Label) (choices : List ℕ) (m : Label) : Type 0 where
  are : AreChoices S.graph l.vertex choices
  leads : Leads S.graph l.vertex (arcs_chosen S.graph l.vertex choices) m.vertex
  passes : Passes S.graph l.values (arcs_chosen S.graph l.vertex choices)
  values : m.values ≡ values_at_end S.graph l.values (arcs_chosen S.graph l.vertex choices)

module _ (S : Setting) (threshold : Option ℤ) (cells : ℕ) (cell_of : ℕ → ℤ → ℤ → ℕ) where
  abbrev r : Rules Label
  r = rules Forward S threshold cells cell_of

  chosen_on : (l : Label) (choices : List ℕ) (m : Label) → Reaches r l choices m → AreOn S l choices m
  chosen_on l [] m h = record { are = tt; leads = ap (λ (x : Label). x.vertex) h; passes = tt; values = sym (ap (λ (x : Label). x.values) h) }
  chosen_on l (k ∷ choices) m h =
      let a : ℕ = slice_index (arcs_from S.graph.arcs l.vertex) k in
      let at = from_at S.graph.arcs l.vertex k h.1.0 in
      let is = extension_is Forward S threshold l a h.0 h.1.1 in
      let more = chosen_on (extended Forward S l a) choices m (subst (λ (x : Label). Reaches r x choices m) (sym is.is) h.2) in
      record {
        are = (h.1.0, more.are);
        leads = (at.0, at.1, more.leads);
        passes = (is.defined.values, more.passes);
        values = more.values;
      }

  -- so the choices of each entry are a feasible partial walk
  pub table_walks : (t : Cells Label) → IsSound r t → AreDifferentWalks r t → HasPartialWalks S.graph t
  table_walks t sound walks = record {
    origins = sound.origins;
    each = λ p e stands.
        let walk = walks.walk p e stands in
        let on = chosen_on (root Forward S) walk.0 e.label walk.2 in
        record { choices = walk.0; walk = walk.1; are = on.are; partial = record { leads = on.leads; passes = on.passes; values = on.values } };
  }

-- an entry has one walk
entry_one : {L : Type 0} (t : Cells L) (p : Place) (d e : Entry L) → StandsAt t p d → StandsAt t p e → d ≡ e
entry_one t p d e f g = cc

abbrev parent_or : Place → Option Origin → Place
parent_or q None = q
parent_or q (Some o) = o.parent

abbrev arc_or : ℕ → Option Origin → ℕ
arc_or k None = k
arc_or k (Some o) = o.arc

back_one : {L : Type 0} (t : Cells L) (p : Place) (xs ys : List ℕ) → LeadsBack t p xs → LeadsBack t p ys → xs ≡ ys
back_one t p [] [] g h = refl
back_one {L} t p [] (y ∷ ys) g h =
    let none = sym g.2 ∙ (ap (λ (e : Entry L). e.origin) (entry_one t p g.0 h.0 g.1 h.1) ∙ h.3) in
    absurd (cc)
back_one {L} t p (x ∷ xs) [] g h =
    let none = sym h.2 ∙ (ap (λ (e : Entry L). e.origin) (entry_one t p h.0 g.0 h.1 g.1) ∙ g.3) in
    absurd (cc)
back_one {L} t p (x ∷ xs) (y ∷ ys) g h =
    let same = sym g.3 ∙ (ap (λ (e : Entry L). e.origin) (entry_one t p g.0 h.0 g.1 h.1) ∙ h.3) in
    let parent : g.2 ≡ h.2 = ap (parent_or g.2) same in
    let arc : x ≡ y = ap (arc_or x) same in
    λ i. arc i ∷ back_one t g.2 xs ys g.4 (subst (λ (q : Place). LeadsBack t q ys) (sym parent) h.4) i

pub walk_one : {L : Type 0} (t : Cells L) (p : Place) (xs ys : List ℕ) → IsWalkOf t p xs → IsWalkOf t p ys → xs ≡ ys
walk_one t p xs ys g h = sym (reverse-reverse xs) ∙ (ap reverse (back_one t p (reverse xs) (reverse ys) g h) ∙ reverse-reverse ys)

-- so the choices that are read of an entry are those of its partial walk
pub choices_on : (g : GraphParts) (t : Cells Label) (p : Place) (e : Entry Label) (choices : List ℕ) → HasPartialWalks g t → StandsAt t p e → IsWalkOf t p choices
    → AreChoices g g.ends.source choices × IsPartial g (arcs_chosen g g.ends.source choices) e.label.vertex e.label.values
choices_on g t p e choices made stands walk =
    let has = made.each p e stands in
    subst (λ (xs : List ℕ). AreChoices g g.ends.source xs × IsPartial g (arcs_chosen g g.ends.source xs) e.label.vertex e.label.values)
    (walk_one t p has.choices choices has.walk walk) (has.are, has.partial)

pub taken_from : (g : GraphParts) (number : ℕ) (t : Cells Label) (r : Ranked) (choices : List ℕ) (taken : Taken) → HasPartialWalks g t → IsCheap g.ends.sink t r → IsWalkOf t (place r.cell r.index) choices
    → taken.graph ≡ number → taken.count ≡ 1 → taken.arcs ≡ arcs_chosen g g.ends.source choices → IsTakenFrom g number t r taken
taken_from g number t r choices taken made cheap walk graph_is once arcs_are =
    let on = choices_on g t (place r.cell r.index) cheap.entry choices made cheap.stands walk in
    let leads = subst (Leads g g.ends.source (arcs_chosen g g.ends.source choices)) cheap.at_sink on.1.leads in
    record {
      graph = graph_is;
      once = once;
      choices = choices;
      walk = walk;
      arcs = arcs_are;
      feasible = subst (IsFeasibleWalk g) (sym arcs_are) (record { walk = leads; passes = on.1.passes });
    }
