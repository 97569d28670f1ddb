-- The half pair of labels of a graph, with exactly its least.
use Rattle.std.specs.Prelude.{◌≡◌, ℕ, ◌<◌, ℤ, Bool, Some, List}
use Rattle.label_core.specs.declared.table.Entry.{Entry}
use Rattle.label_core.specs.declared.table.Place.{Place}
use Rattle.label_core.specs.declared.table.Table.{Table}
use Rattle.label_core.specs.Points.{IsSound}
use Rattle.label_core.specs.Tables.{Cells, StandsAt}
use Rattle.label_rules.specs.declared.label.Label.{Label}
use Rattle.label_rules.specs.declared.table.Form.TheVariants as text
use Rattle.label_rules.specs.declared.table.ProofTable.{ProofTable}
use Rattle.label_rules.specs.Labels.{Backward, Forward, Setting}
use Rattle.route_labels.specs.Rules.{rules_of}
use Rattle.proof_rules.specs.TableWalls.{IsTableOver}
use Rattle.concatenate.specs.Fit.{MayJoin}
use Rattle.pricing.specs.declared.half_table.HalfOut.{HalfOut}
use Rattle.pricing.specs.declared.half_table.HalfOut.TheVariants as half
use Rattle.pricing.specs.declared.half_table.HalfPair.{HalfPair}
use Rattle.pricing.specs.declared.halves.HalvesOut.{HalvesOut}
use Rattle.pricing.specs.declared.halves.HalvesOut.TheVariants.{Halves, Wall, Memory}
use Rattle.pricing.specs.Outcomes.{EachHas, IsWallIn, direction_of}
use Rattle.pricing.specs.Tables.{IsTableIn}

-- the label of each entry may be joined
abbrev pub MayEachJoin : Setting → Cells Label → Type 0
MayEachJoin S t = (p : Place) (e : Entry Label) → StandsAt t p e → MayJoin S e.label

-- the two tables as they were filled up to a threshold and above it
pub record IsPairIn (S : Setting) (threshold : ℤ) (pair : HalfPair) : Type 0 where
  pub fore : IsSound (rules_of Forward S (Some threshold)) pair.fore.cells
  pub back : IsSound (rules_of Backward S (Some threshold)) pair.back.cells
  pub fore_joins : MayEachJoin S pair.fore.cells
  pub back_joins : MayEachJoin S pair.back.cells

-- a half pair of graph g, with its tables as they were filled
pub record IsHalfIn (S : Setting) (g : ℕ) (t : ProofTable) (pair : HalfPair) : Type 0 where
  pub table : IsTableIn S g t
  pub threshold : ℤ
  pub form : t.form ≡ text.Half threshold
  pub pair_is : IsPairIn S threshold pair

-- what comes of one graph
abbrev pub IsHalfOutcome : Setting → ℕ → ℕ → HalfOut → Type 0
IsHalfOutcome S g limit (half.Pair t pair) = IsHalfIn S g t pair
IsHalfOutcome S g limit (half.Wall is_backward t) = IsTableOver limit (direction_of is_backward) S t.cells
IsHalfOutcome S g limit half.Memory = Unit {0}

-- half pairs of the first graphs, with their tables as they were filled
pub record AreHalves (n : ℕ) (setting : ℕ → Setting) (tables : List ProofTable) (pairs : List HalfPair) : Type 0 where
  pub each_table : EachHas n tables (λ g t. IsTableIn (setting g) g t × ((threshold : ℤ) × (t.form ≡ text.Half threshold)))
  pub each_pair : EachHas n pairs (λ g pair. (threshold : ℤ) × IsPairIn (setting g) threshold pair)

abbrev pub IsHalvesOutcome : ℕ → (ℕ → Setting) → ℕ → HalvesOut → Type 0
IsHalvesOutcome n setting limit (Halves tables pairs) = AreHalves n setting tables pairs
IsHalvesOutcome n setting limit (Wall g is_backward t) = IsWallIn n setting limit g is_backward t
IsHalvesOutcome n setting limit Memory = Unit {0}
