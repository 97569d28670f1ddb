-- What tables show of each admitted walk: a least cost, and joins over its arcs.
use Rattle.std.proofs.Common.{◌≡◌, ℕ, zero, suc, ◌<◌, nat_lt, ℤ, ◌≤ℤ◌, Option, None, Some, List, [], ◌∷◌, ◌++◌, length, get_or, sym, ◌∙◌, ap, subst, arith}
use Rattle.std.specs.Prelude.{Contains}
use Rattle.std.proofs.lemmas.Int.{ints}
use Rattle.path_graph.specs.Walk.{arc_at}
use Rattle.path_graph.proofs.WalkLemmas.{leads_split}
use Rattle.path_graph.specs.Bounds.{IsAbove, IsAtLeast, IsAtMost, IsNoGreater}
use Rattle.label_rules.specs.Admitted.{IsAdmitted}
use Rattle.label_rules.specs.Dominance.{Dominates}
use Rattle.label_rules.specs.Joins.{HaveJoin, IsJoinOf, join_cost}
use Rattle.label_rules.specs.Labels.{Forward, Label, Setting, SettingFits, forward_label, one_if, root, state_at}
use Rattle.label_rules.specs.Leasts.{ArcJoinLaw, Both, Full, Half, LeastLaw, LimitFallsLaw, TableCoversLaw, UnusedArcLaw}
use Rattle.label_rules.specs.Tables.{AreCovers, IsCover}
use Rattle.label_rules.proofs.LabelLemmas.{cut_point, forward_vertex}
use Rattle.label_rules.proofs.ChargeLemmas.{charges-none, charges-≤}
use Rattle.label_rules.proofs.AdmittedLemmas.{admitted_label}
use Rattle.label_rules.proofs.TableLemmas.{forward_law, backward_law, lists_join}
use Rattle.label_rules.proofs.HalfPairLemmas.{half_pair_law}

-- a closed table covers
pub table_covers : TableCoversLaw
table_covers S Full fore back h = h.cover
table_covers S Both fore back h = record { partial_walks = h.0.cover; rests = h.1.cover }
table_covers S (Half t) fore back h = record { partial_walks = h.1.cover; rests = h.2.cover }

-- a dominator costs no more
pub cost_no_more : (S : Setting) (l m : Label) → Dominates Forward S l m → l.cost ≤ℤ m.cost
cost_no_more S l m d =
    let some = charges-≤ S (λ i. 0) (λ i. one_if (nat_lt (state_at m i) (state_at l i))) (λ i below. omega arith) in
    let none = charges-none S in
    omega (arith, ints, some, none, d.cost)

-- what is at most a cost is so of a greater
pub at_least_more : (least : Option ℤ) (x y : ℤ) → IsAtLeast least x → x ≤ℤ y → IsAtLeast least y
at_least_more None x y h less = h
at_least_more (Some l) x y h less = omega (arith, ints, h, less)

-- at the sink
sink_least : (S : Setting) (fore : List Label) (least : Option ℤ) (walk : List ℕ) → SettingFits S → IsCover Forward S None fore
    → ((l : Label) → Contains fore l → l.vertex ≡ S.graph.ends.sink → IsAtLeast least l.cost) → IsAdmitted S walk → IsAtLeast least (forward_label S walk).cost
sink_least S fore least walk fits cover each is =
    let at = forward_law S fore walk S.graph.ends.sink fits cover is.feasible.walk (admitted_label S walk is) in
    let here = at.dominates.vertex ∙ forward_vertex S (root Forward S) walk S.graph.ends.sink is.feasible.walk in
    at_least_more least at.by.cost (forward_label S walk).cost (each at.by at.listed here) (cost_no_more S at.by (forward_label S walk) at.dominates)

-- over a join
half_least : (S : Setting) (t : ℤ) (fore back : List Label) (least : Option ℤ) (walk : List ℕ) → SettingFits S → AreCovers S (Some t) fore back
    → ((f : Label) (a : ℕ) (b : Label) → IsJoinOf S fore back f a b → IsAtLeast least (join_cost S f a b)) → IsAdmitted S walk → IsAtLeast least (forward_label S walk).cost
half_least S t fore back least walk fits pair each is =
    let at = half_pair_law S t fore back walk fits pair is in
    at_least_more least (join_cost S at.join.front at.arc at.join.rest) (forward_label S walk).cost (each at.join.front at.arc at.join.rest at.join.join) at.join.cost

pub least_law : LeastLaw
least_law S Full fore back least walk fits table each is = sink_least S fore least walk fits table each is
least_law S Both fore back least walk fits table each is = sink_least S fore least walk fits table.partial_walks each is
least_law S (Half t) fore back least walk fits table each is = half_least S t fore back least walk fits table each is

-- arcs that contain one are cut at it
pub record IsCutAt (arcs : List ℕ) (a : ℕ) : Type 0 where
  pub front : List ℕ
  pub rest : List ℕ
  pub split : arcs ≡ front ++ a ∷ rest

cut_from : (arcs : List ℕ) (a k : ℕ) → k < length arcs → get_or arcs k a ≡ a → IsCutAt arcs a
cut_from [] a k l e = absurd (omega (arith, l))
cut_from (b ∷ rest) a zero l e = record { front = []; rest = rest; split = ap (λ (n : ℕ). n ∷ rest) e }
cut_from (b ∷ rest) a (suc k) l e =
    let more = cut_from rest a k (omega (arith, l)) e in
    record { front = b ∷ more.front; rest = more.rest; split = ap (λ (xs : List ℕ). b ∷ xs) more.split }

pub cut_at_arc : (arcs : List ℕ) (a : ℕ) → Contains arcs a → IsCutAt arcs a
cut_at_arc arcs a h = cut_from arcs a h.0 h.1 h.2

join_at : (S : Setting) (fore back : List Label) (front : List ℕ) (a : ℕ) (rest : List ℕ) → SettingFits S → AreCovers S None fore back → IsAdmitted S (front ++ a ∷ rest)
    → HaveJoin S fore back a (forward_label S (front ++ a ∷ rest)).cost
join_at S fore back front a rest fits pair is =
    let g = S.graph in
    let has = admitted_label S (front ++ a ∷ rest) is in
    let parts = (cut_point S front a rest fits is.feasible.walk).0 has in
    let leads = leads_split g g.ends.source front (a ∷ rest) g.ends.sink is.feasible.walk in
    lists_join S fore back front a rest fits is.feasible.walk has
    (forward_law S fore front leads.0 fits pair.partial_walks leads.1 parts.0)
    (backward_law S back rest (arc_at g.arcs a).head fits pair.rests leads.2.2 parts.1)

pub arc_join_law : ArcJoinLaw
arc_join_law S fore back walk a fits pair is h =
    let cut = cut_at_arc walk a h in
    let join = join_at S fore back cut.front a cut.rest fits pair (subst (IsAdmitted S) cut.split is) in
    subst (λ (arcs : List ℕ). HaveJoin S fore back a (forward_label S arcs).cost) (sym cut.split) join

-- no cost is both within a limit and above it
within_not_above : (limit : Option ℤ) (x y : ℤ) → x ≤ℤ y → IsAtMost limit y → ¬ (IsAbove limit x)
within_not_above None x y less within above = within
within_not_above (Some l) x y less within above = omega (arith, ints, less, within, above)

pub unused_arc : UnusedArcLaw
unused_arc S fore back limit a walk fits pair above is within h =
    let at = arc_join_law S fore back walk a fits pair is h in
    within_not_above limit (join_cost S at.front a at.rest) (forward_label S walk).cost at.cost within (above at.front at.rest at.join)

above_less : (less limit : Option ℤ) (x : ℤ) → IsNoGreater less limit → IsAbove limit x → IsAbove less x
above_less None limit x falls h = tt
above_less (Some l) None x falls h = absurd falls
above_less (Some l) (Some m) x falls h = omega (arith, ints, falls, h)

pub limit_falls : LimitFallsLaw
limit_falls S fore back less limit a falls above f b is = above_less less limit (join_cost S f a b) falls (above f b is)
