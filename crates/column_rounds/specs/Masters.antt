-- The rows of the master of a place, and what it gives.
use Rattle.std.specs.Prelude.{◌≡◌, ℕ, ◌+◌, [], length}
use Rattle.route_model.specs.Parts.{ModelParts}
use Rattle.multipliers.specs.Ranges.{MultFits}
use Rattle.column_rounds.specs.declared.master.Master.{Master}

-- one row for each variable, row of the model, packing set and path count
abbrev pub row_count : ModelParts → ℕ
row_count m = ((length m.vars + length m.rows) + m.sets) + length m.graphs

-- multipliers in their ranges, none of a cut, and a value for each row
pub record IsMaster (m : ModelParts) (r : Master) : Type 0 where
  pub mult : MultFits m r.mult
  pub no_cuts : r.mult.cuts ≡ []
  pub values : length r.values.items ≡ row_count m
