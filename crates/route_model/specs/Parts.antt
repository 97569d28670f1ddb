-- What a model is made of.
use Rattle.std.specs.Prelude.{ℕ, pos, List, [], slice_index_or, None}
use Rattle.path_graph.specs.Walk.{GraphParts}
use Rattle.route_model.specs.declared.parts.Var.{Var}
use Rattle.route_model.specs.declared.parts.RowTerm.{RowTerm}
use Rattle.route_model.specs.declared.parts.Row.{Row}
use Rattle.route_model.specs.declared.plan.Taken.{Taken}
use Rattle.route_model.specs.declared.plan.Plan.{Plan}

-- variables, rows, the number of packing sets, graphs, and for each graph and each of its arcs the variables of the arc
pub record ModelParts : Type 0 where
  pub vars : List Var
  pub rows : List Row
  pub sets : ℕ
  pub graphs : List GraphParts
  pub maps : List (List (List ℕ))

-- items by number; nothing is said of a number past the end
abbrev pub var_at : List Var → ℕ → Var
var_at vars j = slice_index_or vars j (record { low = pos 0; high = pos 0; cost = pos 0 })

abbrev pub row_at : List Row → ℕ → Row
row_at rows i = slice_index_or rows i (record { low = None; high = None; terms = [] })

abbrev pub term_at : List RowTerm → ℕ → RowTerm
term_at terms k = slice_index_or terms k (record { var = 0; coef = pos 0 })

abbrev pub graph_in : List GraphParts → ℕ → GraphParts
graph_in graphs g =
    slice_index_or graphs g
    (record { ends = record { source = 0; sink = 0; low = 0; high = 0; mains = 0; seconds = 0 }; vertices = []; arcs = [] })

abbrev pub graph_at : ModelParts → ℕ → GraphParts
graph_at m g = graph_in m.graphs g

-- the variables of each arc of a graph, and those that one arc maps
abbrev pub maps_in : List (List (List ℕ)) → ℕ → List (List ℕ)
maps_in maps g = slice_index_or maps g []

abbrev pub mapped_vars : List (List (List ℕ)) → ℕ → ℕ → List ℕ
mapped_vars maps g a = slice_index_or (maps_in maps g) a []

abbrev pub taken_at : List Taken → ℕ → Taken
taken_at paths i = slice_index_or paths i (record { graph = 0; count = 0; arcs = [] })

-- the plan of these paths
abbrev pub plan_with : List Taken → Plan
plan_with paths = record { paths = paths }
