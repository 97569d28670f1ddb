-- Dominance keeps joins and their costs.
use Rattle.std.proofs.Common.{◌∙◌, sym, ℤ, ℕ, ◌+◌, ◌≤◌, nat_lt, ◌≤ℤ◌, subst, arith}
use Rattle.std.specs.Prelude.{nat_le}
use Rattle.std.proofs.lemmas.Bool.Decides.{nat_tests}
use Rattle.std.proofs.lemmas.Int.{ints}
use Rattle.label_rules.specs.Dominance.{Dominates, DominatorsJoinLaw, WalkMetLaw}
use Rattle.label_rules.specs.Joins.{JoinsWithin, join_cost, reached}
use Rattle.label_rules.specs.Labels.{Backward, Forward, Label, Setting, backward_label, cut_at, forward_label, one_if, state_at}
use Rattle.label_rules.proofs.LabelLemmas.{cut_point}
use Rattle.label_rules.proofs.CostLemmas.{join_cost_law}
use Rattle.label_rules.proofs.ChargeLemmas.{charges-add, charges-≤}

-- of two states that reach the denominator together, two lesser ones do not, or one of them is no lesser
reach_most : (den f r x y : ℕ) → one_if (nat_le den (f + r)) ≤ (one_if (nat_le den (x + y)) + one_if (nat_lt x f)) + one_if (nat_lt y r)
reach_most den f r x y = grind (arith, nat_tests)

cost_most : (S : Setting) (f r x y : Label) (a : ℕ) → Dominates Forward S f x → Dominates Backward S r y → join_cost S f a r ≤ℤ join_cost S x a y
cost_most S f r x y a p q =
    let here : ℕ → ℕ = λ i. reached S x y i in
    let front : ℕ → ℕ = λ i. one_if (nat_lt (state_at x i) (state_at f i)) in
    let rest : ℕ → ℕ = λ i. one_if (nat_lt (state_at y i) (state_at r i)) in
    let most = charges-≤ S (λ i. reached S f r i) (λ i. (here i + front i) + rest i)
    (λ i l. reach_most (cut_at S i).den (state_at f i) (state_at r i) (state_at x i) (state_at y i)) in
    let outer = charges-add S (λ i. here i + front i) rest in
    let inner = charges-add S here front in
    omega (arith, ints, most, outer, inner, p.cost, q.cost)

pub dominators_join : DominatorsJoinLaw
dominators_join S f r x y a p q h = record {
  joins = record {
    there = h.there;
    leaves = h.leaves ∙ sym p.vertex;
    enters = h.enters ∙ sym q.vertex;
    open_arc = h.open_arc;
    values = λ k l.
        let front = p.values k l in
        let rest = q.values k l in
        let middle = h.values k l in
        omega (arith, ints, front, rest, middle);
    memories = λ s m n. h.memories s (p.memory s m) (q.memory s n);
  };
  cost = cost_most S f r x y a p q;
}

-- with the two parts of a walk
pub walk_met : WalkMetLaw
walk_met S front a rest f r fits walk h p q =
    let parts = (cut_point S front a rest fits walk).0 h in
    let same = join_cost_law S front a rest fits walk in
    subst (λ (most : ℤ). JoinsWithin S f a r most) same (dominators_join S f r (forward_label S front) (backward_label S rest) a p q parts.2)
