-- Which rank-1 cuts fit, the first fault of one that does not, and the right side.
use Rattle.std.specs.Prelude.{◌≡◌, ℕ, ◌/◌, ◌<◌, ◌≤◌, List, length, slice_index_or, sum_by}
use Rattle.path_graph.specs.First.{EachBelow}
use Rattle.rank1_cuts.specs.declared.cut.Cut.{Cut}
use Rattle.rank1_cuts.specs.declared.cut.CutSet.{CutSet}
use Rattle.rank1_cuts.specs.declared.cut.CutFault.{CutFault}
use Rattle.rank1_cuts.specs.declared.cut.CutFault.TheVariants.{Denominator, Empty, Long, Repeated, Numerator}

abbrev pub item_at : List CutSet → ℕ → CutSet
item_at sets k = slice_index_or sets k (record { set = 0; num = 0 })

-- a denominator is from 2 to 8
abbrev pub IsDenominator : ℕ → Type 0
IsDenominator den = (2 ≤ den) × (den ≤ 8)

-- the set stands at a place before this one
abbrev pub Stands : List CutSet → ℕ → ℕ → Type 0
Stands sets place set = (j : ℕ) × (j < place) × ((item_at sets j).set ≡ set)

-- the set at the place stands at an earlier place too
abbrev pub IsRepeated : List CutSet → ℕ → Type 0
IsRepeated sets k = Stands sets k (item_at sets k).set

-- a numerator is from 1 to the denominator less 1
abbrev pub IsNumerator : ℕ → ℕ → Type 0
IsNumerator den num = (1 ≤ num) × (num < den)

-- there is one at the place
abbrev pub HasNumerator : ℕ → List CutSet → ℕ → Type 0
HasNumerator den sets k = IsNumerator den (item_at sets k).num

-- k is the first number below n at which P holds
pub record IsFirst (n : ℕ) (P : ℕ → Type 0) (k : ℕ) : Type 0 where
  pub within : k < n
  pub here : P k
  pub before : (j : ℕ) → j < k → ¬ (P j)

-- the cut fits
pub record CutFits (cut : Cut) : Type 0 where
  pub denominator : IsDenominator cut.den
  pub some : 1 ≤ length cut.sets
  pub few : length cut.sets ≤ 16
  pub once : EachBelow (length cut.sets) (λ k. ¬ (IsRepeated cut.sets k))
  pub numerators : EachBelow (length cut.sets) (HasNumerator cut.den cut.sets)

-- the first fault of the cut, in the order of the faults, then of the list
abbrev pub IsFault : Cut → CutFault → Type 0
IsFault cut Denominator = ¬ (IsDenominator cut.den)
IsFault cut Empty = IsDenominator cut.den × (length cut.sets ≡ 0)
IsFault cut Long = IsDenominator cut.den × (16 < length cut.sets)
IsFault cut (Repeated set) =
    IsDenominator cut.den × (1 ≤ length cut.sets) × (length cut.sets ≤ 16)
    × ((k : ℕ) × IsFirst (length cut.sets) (IsRepeated cut.sets) k × ((item_at cut.sets k).set ≡ set))
IsFault cut (Numerator set) =
    IsDenominator cut.den × (1 ≤ length cut.sets) × (length cut.sets ≤ 16)
    × EachBelow (length cut.sets) (λ k. ¬ (IsRepeated cut.sets k))
    × ((k : ℕ) × IsFirst (length cut.sets) (λ j. ¬ (HasNumerator cut.den cut.sets j)) k × ((item_at cut.sets k).set ≡ set))

-- the sum of the numerators over the denominator, rounded down
abbrev pub right_side_of : Cut → ℕ
right_side_of cut = sum_by (λ each. each.num) cut.sets / cut.den
