-- Arcs that are there: what the arithmetic of a plan may look up once its paths are found to be walks.
use Rattle.std.specs.Prelude.{ℕ, ◌<◌, List, All, length}
use Rattle.path_graph.specs.Walk.{GraphParts}
use Rattle.route_model.specs.Parts.{graph_in, maps_in}

-- the graph is there, and the arcs are arcs of it
pub record AreArcsOf (graphs : List GraphParts) (g : ℕ) (arcs : List ℕ) : Type 0 where
  pub graph : g < length graphs
  pub each : All (λ a. a < length (graph_in graphs g).arcs) arcs

-- the graph is there, and each arc has its list of variables
pub record AreMapped (maps : List (List (List ℕ))) (g : ℕ) (arcs : List ℕ) : Type 0 where
  pub graph : g < length maps
  pub each : All (λ a. a < length (maps_in maps g)) arcs
