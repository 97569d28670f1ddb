-- Joins of the label of a partial walk and the label of a rest over the arc between them.
use Rattle.std.specs.Prelude.{◌≡◌, ◌↔◌, ℕ, ◌<◌, ◌+◌, nat_le, false, ℤ, ◌+ℤ◌, ◌≤ℤ◌, List, ◌∷◌, ◌++◌, length, Contains}
use Rattle.path_graph.specs.SetBits.{has_set}
use Rattle.path_graph.specs.Sums.{sum_below}
use Rattle.path_graph.specs.Walk.{arc_at, IsWalk}
use Rattle.path_graph.specs.Rest.{Join}
use Rattle.label_rules.specs.Memories.{AreDisjoint}
use Rattle.label_rules.specs.Labels.{Setting, Label, SettingFits, cut_at, state_at, charge, one_if, forward_label, HasForwardLabel, backward_label, HasBackwardLabel}

-- a forward label at the tail of an arc that is not shut and a backward label at its head join over it: each forward value
-- and the need are at most the backward value, and the memories are disjoint
pub record Joins (S : Setting) (f : Label) (a : ℕ) (b : Label) : Type 0 where
  pub there : a < length S.graph.arcs
  pub leaves : (arc_at S.graph.arcs a).tail ≡ f.vertex
  pub enters : (arc_at S.graph.arcs a).head ≡ b.vertex
  pub open_arc : S.is_shut a ≡ false
  pub values : Join S.graph f.values a b.values
  pub memories : AreDisjoint (has_set f.memory) (has_set b.memory)

-- the cost of a join: both costs, the arc's, and the weight of each cut whose two states sum to at least the denominator
abbrev pub reached : Setting → Label → Label → ℕ → ℕ
reached S f b i = one_if (nat_le (cut_at S i).den (state_at f i + state_at b i))

abbrev pub join_cost : Setting → Label → ℕ → Label → ℤ
join_cost S f a b = ((f.cost +ℤ b.cost) +ℤ S.arc_cost a) +ℤ sum_below (length S.cuts) (λ i. charge S i (reached S f b i))

-- labels join over an arc at no more than a cost
pub record JoinsWithin (S : Setting) (f : Label) (a : ℕ) (b : Label) (most : ℤ) : Type 0 where
  pub joins : Joins S f a b
  pub cost : join_cost S f a b ≤ℤ most

-- labels of two lists join over an arc
pub record IsJoinOf (S : Setting) (fore back : List Label) (f : Label) (a : ℕ) (b : Label) : Type 0 where
  pub in_fore : Contains fore f
  pub in_back : Contains back b
  pub joins : Joins S f a b

-- at no more than a cost, some labels of the lists do
pub record HaveJoin (S : Setting) (fore back : List Label) (a : ℕ) (most : ℤ) : Type 0 where
  pub front : Label
  pub rest : Label
  pub join : IsJoinOf S fore back front a rest
  pub cost : join_cost S front a rest ≤ℤ most

-- the label of a walk is defined exactly where those of both its parts are and they join, whichever arc it is cut at
abbrev pub CutPointLaw : Type 0
CutPointLaw = (S : Setting) (front : List ℕ) (a : ℕ) (rest : List ℕ) → SettingFits S → IsWalk S.graph (front ++ a ∷ rest)
    → (HasForwardLabel S (front ++ a ∷ rest)
    ↔ (HasForwardLabel S front × HasBackwardLabel S rest × Joins S (forward_label S front) a (backward_label S rest)))

-- and the join costs as much as the walk
abbrev pub JoinCostLaw : Type 0
JoinCostLaw = (S : Setting) (front : List ℕ) (a : ℕ) (rest : List ℕ) → SettingFits S → IsWalk S.graph (front ++ a ∷ rest)
    → join_cost S (forward_label S front) a (backward_label S rest) ≡ (forward_label S (front ++ a ∷ rest)).cost
