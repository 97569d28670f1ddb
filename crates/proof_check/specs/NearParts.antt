-- Near lists vertex by vertex.
use Rattle.std.specs.Prelude.{◌≡◌, ℕ, ◌<◌, List, length}
use Rattle.path_graph.specs.declared.set_bits.SetBits.{SetBits}
use Rattle.path_graph.specs.SetBits.{set_of}
use Rattle.route_model.specs.Parts.{ModelParts, graph_in}
use Rattle.ng_sets.specs.Near.{FitsGraphs, near_at}
use Rattle.label_rules.specs.Memories.{nothing}

-- nothing is near any vertex
abbrev pub nothing_near : ℕ → ℕ → SetBits
nothing_near g v = set_of nothing

-- there is one list for each vertex of each graph, and it is this one
pub record AreNear (m : ModelParts) (near : List (List SetBits)) (sets : ℕ → ℕ → SetBits) : Type 0 where
  pub fits : FitsGraphs near m.graphs
  pub each : (g v : ℕ) → g < length m.graphs → v < length (graph_in m.graphs g).vertices → near_at near g v ≡ sets g v

-- nothing is near the first vertices of a graph
abbrev pub IsClearedAt : List (List SetBits) → ℕ → ℕ → Type 0
IsClearedAt near g count = (v : ℕ) → v < count → near_at near g v ≡ set_of nothing
