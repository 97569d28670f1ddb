-- Dominance is an order, which every extension keeps.
use Rattle.std.proofs.Common.{pos, ◌≡◌, ℕ, ◌+◌, ◌-◌, ◌<◌, ◌≤◌, ◌&&◌, nat_lt, Bool, true, ℤ, ◌≤ℤ◌, ◌+ℤ◌, ◌-ℤ◌, Option, None, Some, inl, inr, refl, sym, ◌∙◌, ap, subst, arith}
use Rattle.std.specs.Prelude.{nat_le, if◌then◌else◌}
use Rattle.std.specs.Int.{int_max, int_min}
use Rattle.std.proofs.lemmas.Bool.{cases_Bool, or_cases, and_parts}
use Rattle.std.proofs.lemmas.Bool.Decides.{nat_tests}
use Rattle.std.proofs.lemmas.Int.{ints, clamps}
use Rattle.path_graph.specs.declared.set_bits.SetBits.{SetBits}
use Rattle.path_graph.specs.declared.parts.Values.{Values}
use Rattle.path_graph.specs.Fit.{int_at, window_at, vertex_at}
use Rattle.path_graph.specs.SetBits.{has_set, IsSubset}
use Rattle.path_graph.specs.Walk.{IsGraph, arc_at}
use Rattle.path_graph.proofs.WalkLemmas.{at_each}
use Rattle.rank1_cuts.specs.declared.cut.Cut.{Cut}
use Rattle.rank1_cuts.specs.Fit.{CutFits}
use Rattle.rank1_cuts.specs.Visits.{numerator_of, rises, state_after}
use Rattle.rank1_cuts.proofs.VisitsLemmas.{numerator_of-below, state_after-below}
use Rattle.ng_sets.specs.Memory.{IsRemembered, is_visited}
use Rattle.label_rules.specs.Dominance.{ExtensionLaw, IsNoWorse, ReflexiveLaw, StatesFit, TransitiveLaw, excess}
use Rattle.label_rules.specs.Labels.{Backward, Direction, Forward, Label, Setting, SettingFits, WindowsTake, cut_at, entered, extended, memory_after, one_if, risen, state_at, values_over, visit_at, visit_of}
use Rattle.label_rules.specs.Memories.{remembered}
use Rattle.label_rules.proofs.MemoryLemmas.{remembered_old, remembered_new}
use Rattle.label_rules.proofs.LabelLemmas.{memory_recalls}
use Rattle.label_rules.proofs.CostLemmas.{extended_state}
use Rattle.label_rules.proofs.ChargeLemmas.{charges-same, charges-add, charges-none, charges-≤}

-- one after the other
no_worse_trans : (direction : Direction) (x y z : ℤ) → IsNoWorse direction x y → IsNoWorse direction y z → IsNoWorse direction x z
no_worse_trans Forward x y z p q = omega (arith, ints, p, q)
no_worse_trans Backward x y z p q = omega (arith, ints, p, q)

greater_trans : (x y z : ℕ) → one_if (nat_lt z x) ≤ one_if (nat_lt y x) + one_if (nat_lt z y)
greater_trans x y z = grind (arith, nat_tests)

excess_trans : (S : Setting) (a b c : Label) → excess S a c ≤ℤ (excess S a b +ℤ excess S b c)
excess_trans S a b c =
    let first : ℕ → ℕ = λ i. one_if (nat_lt (state_at b i) (state_at a i)) in
    let second : ℕ → ℕ = λ i. one_if (nat_lt (state_at c i) (state_at b i)) in
    let most = charges-≤ S (λ i. one_if (nat_lt (state_at c i) (state_at a i))) (λ i. first i + second i)
    (λ i l. greater_trans (state_at a i) (state_at b i) (state_at c i)) in
    let both = charges-add S first second in
    omega (arith, ints, most, both)

pub transitive : TransitiveLaw
transitive direction S a b c p q = record {
  vertex = p.vertex ∙ q.vertex;
  values = λ k l. no_worse_trans direction (int_at a.values.at k) (int_at b.values.at k) (int_at c.values.at k) (p.values k l) (q.values k l);
  memory = λ s m. q.memory s (p.memory s m);
  cost = let less = excess_trans S a b c in omega (arith, ints, less, p.cost, q.cost);
}

-- values that are no worse stay so over an arc, and are taken where the worse are
over_no_worse : (x y q low : ℤ) → x ≤ℤ y → (int_max low (x +ℤ q)) ≤ℤ (int_max low (y +ℤ q))
over_no_worse x y q low h = omega (arith, ints, clamps, h)

back_no_worse : (x y q high : ℤ) → y ≤ℤ x → (int_min high (y -ℤ q)) ≤ℤ (int_min high (x -ℤ q))
back_no_worse x y q high h = omega (arith, ints, clamps, h)

values_step : (direction : Direction) (S : Setting) (x y : Values) (a : ℕ) → ((k : ℕ) → k < 6 → IsNoWorse direction (int_at x.at k) (int_at y.at k))
    → (k : ℕ) → k < 6 → IsNoWorse direction (int_at (values_over direction S x a).at k) (int_at (values_over direction S y a).at k)
values_step Forward S x y a h =
    let arc = arc_at S.graph.arcs a in
    let one = λ (k : ℕ) (l : k < 6). over_no_worse (int_at x.at k) (int_at y.at k) (int_at arc.needs k) (window_at (vertex_at S.graph.vertices arc.head).windows k).low (h k l) in
    at_each _ (one 0 (omega arith)) (one 1 (omega arith)) (one 2 (omega arith)) (one 3 (omega arith)) (one 4 (omega arith)) (one 5 (omega arith))
values_step Backward S x y a h =
    let arc = arc_at S.graph.arcs a in
    let one = λ (k : ℕ) (l : k < 6). back_no_worse (int_at x.at k) (int_at y.at k) (int_at arc.needs k) (window_at (vertex_at S.graph.vertices arc.tail).windows k).high (h k l) in
    at_each _ (one 0 (omega arith)) (one 1 (omega arith)) (one 2 (omega arith)) (one 3 (omega arith)) (one 4 (omega arith)) (one 5 (omega arith))

taken_step : (direction : Direction) (S : Setting) (x y : Values) (a : ℕ) → ((k : ℕ) → k < 6 → IsNoWorse direction (int_at x.at k) (int_at y.at k)) → WindowsTake direction S y a → WindowsTake direction S x a
taken_step Forward S x y a h t = λ k l. let less = values_step Forward S x y a h k l in let room = t k l in omega (arith, ints, less, room)
taken_step Backward S x y a h t = λ k l. let less = values_step Backward S x y a h k l in let room = t k l in omega (arith, ints, less, room)

-- memories within each other stay so over a visit, and the greater refuses what the lesser does
memory_step : (S : Setting) (a b : SetBits) (v : ℕ) → IsGraph S.graph → IsSubset a b → IsSubset (memory_after a (visit_at S v)) (memory_after b (visit_at S v))
memory_step S a b v graph sub s m =
    let visit = visit_at S v in
    let here : remembered (has_set a) visit s ≡ true = subst (λ (f : ℕ → Bool). f s ≡ true) (memory_recalls S a v graph) m in
    let there : remembered (has_set b) visit s ≡ true = elim (or_cases (has_set a s && visit.near s) (is_visited visit.set s) here) [
      | inl old ↦
          let parts = and_parts (has_set a s) (visit.near s) old in
          remembered_old (has_set b) visit s (sub s parts.0) parts.1
      | inr new ↦ remembered_new (has_set b) visit s new
    ] in
    subst (λ (f : ℕ → Bool). f s ≡ true) (sym (memory_recalls S b v graph)) there

remembered_step : (a b : SetBits) (set : Option ℕ) → IsSubset a b → IsRemembered a set → IsRemembered b set
remembered_step a b None sub h = h
remembered_step a b (Some s) sub h = sub s h

-- a visit: where the one state is the greater afterwards, or rises, it was the greater, or the other rises too
abbrev left : ℕ → ℕ → ℕ
left den n = if nat_le den n then n - den else n

added_step : (den s t p : ℕ) → s < den → t < den → p < den
    → one_if (nat_lt (left den (t + p)) (left den (s + p))) + one_if (nat_le den (s + p)) ≤ one_if (nat_lt t s) + one_if (nat_le den (t + p))
added_step den s t p a b c = grind (arith, nat_tests, a, b, c)

kept_step : (den s t : ℕ) → s < den → t < den
    → one_if (nat_lt (left den t) (left den s)) + one_if (nat_le den s) ≤ one_if (nat_lt t s) + one_if (nat_le den t)
kept_step den s t a b = grind (arith, nat_tests, a, b)

forgot_step : (den s t : ℕ) → s < den → t < den
    → one_if (nat_lt (left den 0) (left den 0)) + one_if (nat_le den 0) ≤ one_if (nat_lt t s) + one_if (nat_le den 0)
forgot_step den s t a b = grind (arith, nat_tests, a, b)

pub state_step : (cut : Cut) (s t : ℕ) (visit : Option ℕ) → CutFits cut → s < cut.den → t < cut.den
    → one_if (nat_lt (state_after cut t visit) (state_after cut s visit)) + one_if (rises cut s visit) ≤ one_if (nat_lt t s) + one_if (rises cut t visit)
state_step cut s t None fits a b = kept_step cut.den s t a b
state_step cut s t (Some set) fits a b =
    let p : ℕ = numerator_of cut.sets set in
    let small : p < cut.den = numerator_of-below cut.den cut.sets set (omega arith) (λ k l. (fits.numerators k l).1) in
    elim (cases_Bool (has_set cut.memory set)) [
      | inl e ↦ rw e (added_step cut.den s t p a b small)
      | inr e ↦ rw e (forgot_step cut.den s t a b)
    ]

-- the states stay below the denominators
pub extended_states : (direction : Direction) (S : Setting) (l : Label) (a : ℕ) → SettingFits S → StatesFit S l → StatesFit S (extended direction S l a)
extended_states direction S l a fits below i inside =
    subst (λ (n : ℕ). n < (cut_at S i).den) (sym (extended_state direction S l a i inside))
    (state_after-below (cut_at S i) (state_at l i) (visit_of direction S a).set (fits.cuts i inside) (below i inside))

excess_step : (direction : Direction) (S : Setting) (a b : Label) (arc : ℕ) → SettingFits S → StatesFit S a → StatesFit S b
    → (excess S (extended direction S a arc) (extended direction S b arc) +ℤ risen S a (visit_of direction S arc).set) ≤ℤ (excess S a b +ℤ risen S b (visit_of direction S arc).set)
excess_step direction S a b arc fits below other =
    let set = (visit_of direction S arc).set in
    let before : ℕ → ℕ = λ i. one_if (nat_lt (state_at b i) (state_at a i)) in
    let after : ℕ → ℕ = λ i. one_if (nat_lt (state_after (cut_at S i) (state_at b i) set) (state_after (cut_at S i) (state_at a i) set)) in
    let rises_a : ℕ → ℕ = λ i. one_if (rises (cut_at S i) (state_at a i) set) in
    let rises_b : ℕ → ℕ = λ i. one_if (rises (cut_at S i) (state_at b i) set) in
    let moved = charges-same S (λ i. one_if (nat_lt (state_at (extended direction S b arc) i) (state_at (extended direction S a arc) i))) after
    (λ i l. ap (λ (n : ℕ). one_if (nat_lt n (state_at (extended direction S a arc) i))) (extended_state direction S b arc i l)
    ∙ ap (λ (n : ℕ). one_if (nat_lt (state_after (cut_at S i) (state_at b i) set) n)) (extended_state direction S a arc i l)) in
    let most = charges-≤ S (λ i. after i + rises_a i) (λ i. before i + rises_b i)
    (λ i l. state_step (cut_at S i) (state_at a i) (state_at b i) set (fits.cuts i l) (below i l) (other i l)) in
    let left_sum = charges-add S after rises_a in
    let right_sum = charges-add S before rises_b in
    omega (arith, ints, moved, most, left_sum, right_sum)

pub extension_law : ExtensionLaw
extension_law direction S a b arc fits below other d can = (
  record {
    open_arc = can.open_arc;
    values = taken_step direction S a.values b.values arc d.values can.values;
    memory = λ h. can.memory (remembered_step a.memory b.memory (visit_of direction S arc).set d.memory h);
  },
  record {
    vertex = refl;
    values = values_step direction S a.values b.values arc d.values;
    memory = memory_step S a.memory b.memory (entered direction S arc) fits.graph d.memory;
    cost = let less = excess_step direction S a b arc fits below other in omega (arith, ints, less, d.cost);
  },
)

-- a label dominates itself
no_worse_refl : (direction : Direction) (x : ℤ) → IsNoWorse direction x x
no_worse_refl Forward x = omega (arith, ints)
no_worse_refl Backward x = omega (arith, ints)

greater_itself : (x : ℕ) → one_if (nat_lt x x) ≡ 0
greater_itself x = grind (arith, nat_tests)

pub reflexive : ReflexiveLaw
reflexive direction S a =
    let none : excess S a a ≡ pos 0 = charges-same S (λ i. one_if (nat_lt (state_at a i) (state_at a i))) (λ i. 0) (λ i l. greater_itself (state_at a i)) ∙ charges-none S in
    record {
      vertex = refl;
      values = λ k l. no_worse_refl direction (int_at a.values.at k);
      memory = λ s m. m;
      cost = omega (arith, ints, none);
    }
