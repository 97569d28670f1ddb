-- The cheap entries of a table in the order of their places.
use Rattle.std.specs.Prelude.{ℕ, suc, ◌&&◌, ◌==◌, Bool, if◌then◌else◌, pos, List, [], ◌∷◌, ◌++◌}
use lib.Signed.{lt_z}
use Rattle.label_core.specs.declared.table.Entry.{Entry}
use Rattle.label_core.specs.Puts.{is_none}
use Rattle.label_core.specs.Tables.{Cells}
use Rattle.label_rules.specs.declared.label.Label.{Label}
use Rattle.pricing.specs.declared.ranking.Ranked.{Ranked}

-- a kept entry at the sink whose cost is below 0
abbrev pub is_cheap : ℕ → Entry Label → Bool
is_cheap sink e = is_none e.gone && ((e.label.vertex == sink) && lt_z e.label.cost (pos 0))

abbrev pub ranked_at : ℕ → ℕ → Entry Label → Ranked
ranked_at c i e = record { cost = e.label.cost; cell = c; index = i }

-- those of a cell, whose first entry has this index, and those of the cells from one on
abbrev pub cheap_in : ℕ → ℕ → ℕ → List (Entry Label) → List Ranked
cheap_in sink c i [] = []
cheap_in sink c i (e ∷ rest) = if is_cheap sink e then ranked_at c i e ∷ cheap_in sink c (suc i) rest else cheap_in sink c (suc i) rest

abbrev pub cheap_from : ℕ → ℕ → Cells Label → List Ranked
cheap_from sink c [] = []
cheap_from sink c (entries ∷ rest) = cheap_in sink c 0 entries ++ cheap_from sink (suc c) rest
