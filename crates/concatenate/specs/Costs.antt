-- The costs of joins, and the least of them.
use Rattle.std.specs.Prelude.{◌≡◌, ℕ, ◌<◌, ◌+◌, ◌*◌, nat_le, ℤ, pos, ◌≤ℤ◌, if◌then◌else◌, Option, None, Some, List, Contains, slice_index}
use lib.Signed.{le_z}
use Rattle.path_graph.specs.Bounds.{IsAtLeast}
use Rattle.path_graph.specs.Sums.{sum_below}
use Rattle.rank1_cuts.specs.declared.cut.Cut.{Cut}
use Rattle.multipliers.specs.Quantities.{cut_at}
use Rattle.label_rules.specs.Admitted.{IsAdmitted}
use Rattle.label_rules.specs.Joins.{Joins, join_cost}
use Rattle.label_rules.specs.declared.label.Label.{Label}
use Rattle.label_rules.specs.Labels.{Setting, forward_label, one_if}
use Rattle.label_rules.specs.Tables.{AreCovers}

-- the weights of the cuts below n of which the two states sum to at least the denominator
abbrev pub weight_reached : List Cut → List ℕ → List ℕ → List ℕ → ℕ → ℤ
weight_reached cuts y front rest n = sum_below n (λ i. pos (slice_index y i * one_if (nat_le (cut_at cuts i).den (slice_index front i + slice_index rest i))))

-- two labels join over an arc, at this cost
pub record IsCostOf (S : Setting) (f : Label) (a : ℕ) (b : Label) (cost : ℤ) : Type 0 where
  pub joins : Joins S f a b
  pub same : join_cost S f a b ≡ cost

-- a label and one of a list do
pub record IsCostWith (S : Setting) (f : Label) (a : ℕ) (back : List Label) (cost : ℤ) : Type 0 where
  pub rest : Label
  pub in_back : Contains back rest
  pub join : IsCostOf S f a rest cost

-- labels of two lists do
pub record IsCostOver (S : Setting) (fore back : List Label) (a : ℕ) (cost : ℤ) : Type 0 where
  pub front : Label
  pub in_fore : Contains fore front
  pub join : IsCostWith S front a back cost

-- they do over some arc
pub record IsJoinCost (S : Setting) (fore back : List Label) (cost : ℤ) : Type 0 where
  pub arc : ℕ
  pub join : IsCostOver S fore back arc cost

-- they do over an arc below a number
pub record IsCostBelow (S : Setting) (fore back : List Label) (n : ℕ) (cost : ℤ) : Type 0 where
  pub arc : ℕ
  pub below : arc < n
  pub join : IsCostOver S fore back arc cost

-- the least number with a property; none where no number has it
abbrev pub IsLeastWith : (ℤ → Type 0) → Option ℤ → Type 0
IsLeastWith P None = (x : ℤ) → ¬ (P x)
IsLeastWith P (Some least) = P least × ((x : ℤ) → P x → least ≤ℤ x)

-- the lesser of two numbers that may be missing
abbrev pub lesser_of : Option ℤ → Option ℤ → Option ℤ
lesser_of None y = y
lesser_of (Some x) None = Some x
lesser_of (Some x) (Some y) = Some (if le_z x y then x else y)

-- the least join of a half pair is at most the cost of each admitted walk
abbrev pub BoundsWalks : Setting → List Label → List Label → Option ℤ → Type 0
BoundsWalks S fore back least = (threshold : ℤ) (walk : List ℕ) → AreCovers S (Some threshold) fore back → IsAdmitted S walk → IsAtLeast least (forward_label S walk).cost
