-- When the parts of a place of the tests fit together, and what is known of its tables.
use Rattle.std.specs.Prelude.{◌≡◌, ℕ, ℤ, List, length, slice_get, Some}
use Rattle.label_rules.specs.Labels.{Setting}
use Rattle.pricing.specs.declared.half_table.HalfPair.{HalfPair}
use Rattle.pricing.specs.Fields.{PlaceFits, setting_in}
use Rattle.pricing.specs.Halves.{IsPairIn}
use Rattle.pricing_tests.specs.declared.parts.Place.{Place}

abbrev pub FitsTogether : Place → Type 0
FitsTogether p = PlaceFits p.model.now p.spot.now p.priced.now p.near.now p.cuts.now p.y.now

-- how many graphs there are, and what the labels of each see
abbrev pub graphs_of : Place → ℕ
graphs_of p = length p.model.now.graphs

abbrev pub settings_of : Place → ℕ → Setting
settings_of p = setting_in p.model.now p.spot.now p.priced.now p.near.now p.cuts.now p.y.now

-- each is a half pair of its graph
abbrev pub ArePairs : (ℕ → Setting) → List HalfPair → Type 0
ArePairs setting pairs = (g : ℕ) (pair : HalfPair) → slice_get pairs g ≡ Some pair → (threshold : ℤ) × IsPairIn (setting g) threshold pair
