-- The column of a walk: its cost, and what it has of each quantity.
use Rattle.std.specs.Prelude.{ℕ, ◌+◌, ℤ, pos, List, [], ◌∷◌, ◌++◌, length, map, if◌then◌else◌}
use Rattle.std.specs.Ordering.{int_eq}
use Rattle.std.specs.List.{range_with_len}
use Rattle.fixed_master.specs.declared.parts.Column.{Column}
use Rattle.fixed_master.specs.declared.parts.Entry.{Entry}
use Rattle.multipliers.specs.Quantities.{amount, cost_along, quantities}
use Rattle.rank1_cuts.specs.declared.cut.Cut.{Cut}
use Rattle.route_model.specs.declared.multipliers.Quantity.{Quantity}
use Rattle.route_model.specs.declared.multipliers.Quantity.TheVariants.{Var as OfVar, Row as OfRow, Set as OfSet}
use Rattle.route_model.specs.Parts.{ModelParts}

-- an entry for each amount of a list that is not 0, by rows, the first amount being that of a row
abbrev pub entries_from : ℕ → List ℤ → List Entry
entries_from row [] = []
entries_from row (x ∷ xs) = (if int_eq x (pos 0) then [] else record { row = row; value = x } ∷ []) ++ entries_from (row + 1) xs

-- what a walk has of quantities
abbrev pub amounts_of : ModelParts → List Cut → List Quantity → ℕ → List ℕ → List ℤ
amounts_of m cuts qs g arcs = map (λ q. amount m cuts q g arcs) qs

-- its cost, and an entry for each quantity of which it has some: the row is the place of the quantity among all
abbrev pub column_of : ModelParts → List Cut → ℕ → List ℕ → Column
column_of m cuts g arcs = record { cost = cost_along m g arcs; entries = entries_from 0 (amounts_of m cuts (quantities m cuts) g arcs) }

-- the quantities that come before all cuts: variables, rows and packing sets
abbrev pub first_quantities : ModelParts → List Quantity
first_quantities m =
    map (λ j. OfVar j) (range_with_len 0 (length m.vars))
    ++ (map (λ i. OfRow i) (range_with_len 0 (length m.rows))
    ++ map (λ s. OfSet s) (range_with_len 0 m.sets))

-- the entries of these, which no cut changes
abbrev pub first_entries : ModelParts → ℕ → List ℕ → List Entry
first_entries m g arcs = entries_from 0 (amounts_of m [] (first_quantities m) g arcs)
