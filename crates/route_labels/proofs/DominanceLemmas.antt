-- What is said of memories and costs where a label dominates another.
use Rattle.std.proofs.Common.{◌≡◌, ℕ, zero, suc, ◌*◌, pos, ◌+ℤ◌, ◌≤ℤ◌, length, get_or, refl, arith}
use Rattle.std.specs.Prelude.{nat_lt}
use Rattle.std.proofs.lemmas.Int.{ints}
use Rattle.path_graph.specs.SetBits.{IsSubset}
use Rattle.path_graph.specs.Sums.{sum_below}
use Rattle.label_rules.specs.Dominance.{excess, Dominates}
use Rattle.label_rules.specs.declared.label.Label.{Label}
use Rattle.label_rules.specs.Labels.{Direction, Setting, one_if, state_at}
use Rattle.route_labels.specs.Arrival.{weight_over}

abbrev pub CostsNoMore : Setting → Label → Label → Type 0
CostsNoMore S a b = IsSubset a.memory b.memory × ((a.cost +ℤ weight_over S.weights a.states b.states (length S.cuts)) ≤ℤ b.cost)

excess_is : (S : Setting) (a b : Label) → excess S a b ≡ weight_over S.weights a.states b.states (length S.cuts)
excess_is S a b = refl

weights_not_negative : (n : ℕ) (f : ℕ → ℕ) → pos 0 ≤ℤ sum_below n (λ i. pos (f i))
weights_not_negative zero f = omega (arith, ints)
weights_not_negative (suc n) f =
    let before = weights_not_negative n f in
    omega (arith, ints, before)

pub costs_of : (direction : Direction) (S : Setting) (a b : Label) → Dominates direction S a b → CostsNoMore S a b
costs_of direction S a b d =
    let same = excess_is S a b in
    let cost = d.cost in
    (d.memory, omega (arith, ints, same, cost))

pub cost_from : (S : Setting) (a b : Label) → CostsNoMore S a b → (a.cost +ℤ excess S a b) ≤ℤ b.cost
cost_from S a b h =
    let same = excess_is S a b in
    let cost = h.1 in
    omega (arith, ints, same, cost)

-- a dominator costs no more
pub costs_least : (direction : Direction) (S : Setting) (a b : Label) → Dominates direction S a b → a.cost ≤ℤ b.cost
costs_least direction S a b d =
    let cost = d.cost in
    let some = weights_not_negative (length S.cuts) (λ i. get_or S.weights i 0 * one_if (nat_lt (state_at b i) (state_at a i))) in
    omega (arith, ints, cost, some)
