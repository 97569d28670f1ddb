-- Marks for the arcs of graphs.
use Rattle.std.specs.Prelude.{◌≡◌, Bool, List, length}
use Rattle.path_graph.specs.First.{EachBelow}
use Rattle.path_graph.specs.Walk.{GraphParts}
use Rattle.route_model.specs.Parts.{graph_in}
use Rattle.route_model.specs.Places.{marks_of}

-- one mark for each arc of each graph
pub record HaveMarks (graphs : List GraphParts) (fixed : List (List Bool)) : Type 0 where
  pub count : length fixed ≡ length graphs
  pub each : EachBelow (length graphs) (λ g. length (marks_of fixed g) ≡ length (graph_in graphs g).arcs)
