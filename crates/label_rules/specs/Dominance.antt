-- Dominance of labels: an order that extensions and joins keep.
use Rattle.std.specs.Prelude.{◌≡◌, ℕ, ◌<◌, nat_lt, ℤ, ◌+ℤ◌, ◌≤ℤ◌, List, ◌∷◌, ◌++◌, length}
use Rattle.path_graph.specs.Fit.{int_at}
use Rattle.path_graph.specs.SetBits.{IsSubset}
use Rattle.path_graph.specs.Sums.{sum_below}
use Rattle.path_graph.specs.Walk.{IsWalk}
use Rattle.label_rules.specs.Labels.{Setting, Label, Direction, Forward, Backward, SettingFits, cut_at, state_at, charge, one_if, CanExtend, extended, HasForwardLabel, forward_label, backward_label}
use Rattle.label_rules.specs.Joins.{Joins, join_cost, JoinsWithin}

-- a value leaves as much room as another: forward it is at most the other, backward at least
abbrev pub IsNoWorse : Direction → ℤ → ℤ → Type 0
IsNoWorse Forward x y = x ≤ℤ y
IsNoWorse Backward x y = y ≤ℤ x

-- the weights of the cuts whose state is greater in the one label than in the other
abbrev pub excess : Setting → Label → Label → ℤ
excess S a b = sum_below (length S.cuts) (λ i. charge S i (one_if (nat_lt (state_at b i) (state_at a i))))

-- the one label dominates the other
pub record Dominates (direction : Direction) (S : Setting) (a b : Label) : Type 0 where
  pub vertex : a.vertex ≡ b.vertex
  pub values : (k : ℕ) → k < 6 → IsNoWorse direction (int_at a.values.at k) (int_at b.values.at k)
  pub memory : IsSubset a.memory b.memory
  pub cost : (a.cost +ℤ excess S a b) ≤ℤ b.cost

-- each state is below the denominator of its cut
abbrev pub StatesFit : Setting → Label → Type 0
StatesFit S l = (i : ℕ) → i < length S.cuts → state_at l i < (cut_at S i).den

-- dominance is reflexive and transitive
abbrev pub ReflexiveLaw : Type 0
ReflexiveLaw = (direction : Direction) (S : Setting) (a : Label) → Dominates direction S a a

abbrev pub TransitiveLaw : Type 0
TransitiveLaw = (direction : Direction) (S : Setting) (a b c : Label) → Dominates direction S a b → Dominates direction S b c → Dominates direction S a c

-- where a label extends over an arc, so does its dominator, to a dominator
abbrev pub ExtensionLaw : Type 0
ExtensionLaw = (direction : Direction) (S : Setting) (a b : Label) (arc : ℕ) → SettingFits S → StatesFit S a → StatesFit S b
    → Dominates direction S a b → CanExtend direction S b arc
    → CanExtend direction S a arc × Dominates direction S (extended direction S a arc) (extended direction S b arc)

-- where labels join, those that dominate them do, and cost no more
abbrev pub DominatorsJoinLaw : Type 0
DominatorsJoinLaw = (S : Setting) (f b x y : Label) (a : ℕ) → Dominates Forward S f x → Dominates Backward S b y → Joins S x a y
    → JoinsWithin S f a b (join_cost S x a y)

-- so, cut at any of its arcs, a walk is met by labels that dominate those of its parts
abbrev pub WalkMetLaw : Type 0
WalkMetLaw = (S : Setting) (front : List ℕ) (a : ℕ) (rest : List ℕ) (f b : Label) → SettingFits S → IsWalk S.graph (front ++ a ∷ rest)
    → HasForwardLabel S (front ++ a ∷ rest) → Dominates Forward S f (forward_label S front) → Dominates Backward S b (backward_label S rest)
    → JoinsWithin S f a b (forward_label S (front ++ a ∷ rest)).cost
