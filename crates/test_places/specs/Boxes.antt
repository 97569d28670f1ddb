-- Boxes and marks of a place, list by list.
use Rattle.std.specs.Prelude.{◌≡◌, Bool, List, length}
use Rattle.path_graph.specs.First.{EachBelow}
use Rattle.path_graph.specs.Walk.{GraphParts}
use Rattle.route_model.specs.declared.parts.Var.{Var}
use Rattle.route_model.specs.declared.places.Span.{Span}
use Rattle.route_model.specs.Parts.{graph_in, var_at}
use Rattle.route_model.specs.Places.{IsPartOf, marks_of, path_span, span_at, var_span}

-- a box for each variable, none empty or outside the variable's
pub record HaveVars (vars : List Var) (spans : List Span) : Type 0 where
  pub count : length spans ≡ length vars
  pub each : EachBelow (length vars) (λ j. IsPartOf (var_span (var_at vars j)) (span_at spans j))

-- the same of the path counts
pub record HavePaths (graphs : List GraphParts) (spans : List Span) : Type 0 where
  pub count : length spans ≡ length graphs
  pub each : EachBelow (length graphs) (λ g. IsPartOf (path_span (graph_in graphs g)) (span_at spans g))

-- one mark for each arc of each graph
pub record HaveMarks (graphs : List GraphParts) (fixed : List (List Bool)) : Type 0 where
  pub count : length fixed ≡ length graphs
  pub each : EachBelow (length graphs) (λ g. length (marks_of fixed g) ≡ length (graph_in graphs g).arcs)
