-- Sums and entries for so many uses of each variable.
use Rattle.std.specs.Prelude.{ℕ, ◌+◌, ℤ, pos, ◌*ℤ◌, Option, List, ◌++◌, length, map, slice_index}
use Rattle.std.specs.List.{range_with_len}
use Rattle.fixed_master.specs.declared.parts.Entry.{Entry}
use Rattle.path_graph.specs.Visits.{visit_count}
use Rattle.column_pool.specs.Columns.{entries_from}
use Rattle.path_graph.specs.Sums.{sum_below}
use Rattle.route_model.specs.declared.parts.RowTerm.{RowTerm}
use Rattle.route_model.specs.declared.parts.Var.{Var}
use Rattle.route_model.specs.Parts.{ModelParts, term_at, var_at}

-- the cost of the variables, each used so often
abbrev pub cost_with : (ℕ → ℕ) → List Var → ℤ
cost_with uses vars = sum_below (length vars) (λ j. (var_at vars j).cost *ℤ pos (uses j))

-- the sum of the terms of a row
abbrev pub sum_with : (ℕ → ℕ) → List RowTerm → ℤ
sum_with uses terms = sum_below (length terms) (λ k. (term_at terms k).coef *ℤ pos (uses (term_at terms k).var))

-- the entries of variables, rows and packing sets, where the variables are used so often and the visits are these
abbrev pub entries_with : ModelParts → List ℕ → List (Option ℕ) → List Entry
entries_with m uses visits =
    entries_from 0 (map (λ n. pos n) uses)
    ++ (entries_from (length m.vars) (map (λ row. sum_with (slice_index uses) row.terms) m.rows)
    ++ entries_from (length m.vars + length m.rows) (map (λ s. pos (visit_count s visits)) (range_with_len 0 m.sets)))
