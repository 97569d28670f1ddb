-- What a graph keeps beside its parts.
use Rattle.std.specs.Prelude.{◌≡◌, ℕ, List, length, map}
use Rattle.std.specs.List.{range_with_len}
use Rattle.path_graph.specs.Parts.{GraphParts, arcs_from, arcs_into}
use Rattle.path_graph.specs.Free.{rank_of}
use Rattle.path_graph.specs.Graph.{IsGraph}

-- a graph with the arcs at each of its vertices and the ranks of the vertices
pub record IsIndexed (g : GraphParts) (from into : List (List ℕ)) (ranks : List ℕ) : Type 0 where
  pub graph : IsGraph g
  pub from_each : from ≡ map (arcs_from g.arcs) (range_with_len 0 (length g.vertices))
  pub into_each : into ≡ map (arcs_into g.arcs) (range_with_len 0 (length g.vertices))
  pub ranked : ranks ≡ map (rank_of g) (range_with_len 0 (length g.vertices))
