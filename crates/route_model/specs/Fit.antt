-- The limits and orders that a model keeps.
use Rattle.std.specs.Prelude.{◌≡◌, ℕ, ◌*◌, ◌<◌, ◌≤◌, ℤ, pos, ◌≤ℤ◌, List, length, sum_by, All, Option, IfSome, if◌then◌else◌, ◌==◌, unsigned_abs, EachIndex}
use Rattle.std.specs.List.{AllAdjacentBelow}
use Rattle.path_graph.specs.declared.parts.Vertex.{Vertex}
use Rattle.path_graph.specs.Walk.{GraphParts, IsGraph}
use Rattle.path_graph.specs.Within.{IsWithin}
use Rattle.path_graph.specs.declared.limits.TheConstants.{MAX_SETS, MAX_PATHS}
use Rattle.route_model.specs.declared.limits.TheConstants.{MAX_VARS, MAX_ROWS, MAX_TERMS, MAX_GRAPHS, MAX_ALL_ARCS, MAX_MAPPED, MAX_VALUE, MAX_COST, MAX_COEF, MAX_SIDE, MAX_COEF_SUM, MAX_COST_RANGE}
use Rattle.route_model.specs.declared.parts.Var.{Var}
use Rattle.route_model.specs.declared.parts.RowTerm.{RowTerm}
use Rattle.route_model.specs.declared.parts.Row.{Row}
use Rattle.route_model.specs.Parts.{ModelParts, graph_in, maps_in}

-- a box within 0..MAX_VALUE and a cost within MAX_COST of 0
pub record VarFits (v : Var) : Type 0 where
  pub low : (pos 0) ≤ℤ v.low
  pub sides : v.low ≤ℤ v.high
  pub high : v.high ≤ℤ MAX_VALUE
  pub cost : IsWithin MAX_COST v.cost

-- a declared variable with a coefficient within MAX_COEF of 0
pub record TermFits (count : ℕ) (t : RowTerm) : Type 0 where
  pub var : t.var < count
  pub coef : IsWithin MAX_COEF t.coef

-- sides within MAX_SIDE of 0, the high one not below the low one
pub record SidesFit (low high : Option ℤ) : Type 0 where
  pub low_side : IfSome low (IsWithin MAX_SIDE)
  pub high_side : IfSome high (IsWithin MAX_SIDE)
  pub order : IfSome low (λ l. IfSome high (λ h. l ≤ℤ h))

-- each key is below the next
abbrev pub Ascends : {X : Type 0} → (X → ℕ) → List X → Type 0
Ascends key xs = AllAdjacentBelow (λ x y. key x < key y) xs (length xs)

-- terms of declared variables, which ascend
pub record RowFits (count : ℕ) (row : Row) : Type 0 where
  pub sides : SidesFit row.low row.high
  pub each : All (TermFits count) row.terms
  pub ascend : Ascends (λ t. t.var) row.terms

-- the absolute coefficients of a variable in a row, and in all rows
abbrev pub row_coef : ℕ → List RowTerm → ℕ
row_coef j terms = sum_by (λ t. if t.var == j then unsigned_abs t.coef else 0) terms

abbrev pub total_coef : List Row → ℕ → ℕ
total_coef rows j = sum_by (λ row. row_coef j row.terms) rows

-- at most MAX_MAPPED declared variables, which ascend
pub record MapFits (count : ℕ) (vars : List ℕ) : Type 0 where
  pub few : length vars ≤ MAX_MAPPED
  pub each : All (λ j. j < count) vars
  pub ascend : Ascends (λ j. j) vars

-- one list of variables for each arc
pub record GraphMapsFit (count : ℕ) (g : GraphParts) (maps : List (List ℕ)) : Type 0 where
  pub arcs : length maps ≡ length g.arcs
  pub each : All (MapFits count) maps

-- the set of a vertex, if it is in one, is declared
abbrev pub IsDeclared : ℕ → Vertex → Type 0
IsDeclared sets v = IfSome v.set (λ s. s < sets)

pub record GraphFits (sets : ℕ) (g : GraphParts) : Type 0 where
  pub graph : IsGraph g
  pub declared : All (IsDeclared sets) g.vertices

pub record VarsFit (vars : List Var) : Type 0 where
  pub few : length vars ≤ MAX_VARS
  pub each : All VarFits vars

pub record RowsFit (count : ℕ) (rows : List Row) : Type 0 where
  pub few : length rows ≤ MAX_ROWS
  pub each : All (RowFits count) rows
  pub few_terms : sum_by (λ row. length row.terms) rows ≤ MAX_TERMS
  pub coefs : (j : ℕ) → j < count → total_coef rows j ≤ MAX_COEF_SUM

pub record GraphsFit (sets : ℕ) (graphs : List GraphParts) : Type 0 where
  pub few : length graphs ≤ MAX_GRAPHS
  pub each : All (GraphFits sets) graphs
  pub few_arcs : sum_by (λ g. length g.arcs) graphs ≤ MAX_ALL_ARCS
  pub few_paths : sum_by (λ g. g.ends.high) graphs ≤ MAX_PATHS

pub record MapsFit (count : ℕ) (graphs : List GraphParts) (maps : List (List (List ℕ))) : Type 0 where
  pub graphs_mapped : length maps ≡ length graphs
  pub each : EachIndex graphs (λ g. GraphMapsFit count (graph_in graphs g) (maps_in maps g))

-- the parts of a model keep the limits and orders, but for the cost range
pub record ModelFits (m : ModelParts) : Type 0 where
  pub vars : VarsFit m.vars
  pub rows : RowsFit (length m.vars) m.rows
  pub few_sets : m.sets ≤ MAX_SETS
  pub graphs : GraphsFit m.sets m.graphs
  pub maps : MapsFit (length m.vars) m.graphs m.maps

-- the absolute cost × high of a variable, and the sum over the variables
abbrev pub cost_range_of : Var → ℕ
cost_range_of v = unsigned_abs v.cost * unsigned_abs v.high

abbrev pub cost_range : List Var → ℕ
cost_range vars = sum_by cost_range_of vars

-- a model: its parts fit, and its costs are in range
pub record IsModel (m : ModelParts) : Type 0 where
  pub fits : ModelFits m
  pub costs : cost_range m.vars ≤ MAX_COST_RANGE
