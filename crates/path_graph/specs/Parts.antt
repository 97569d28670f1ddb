-- What a graph is made of, and the arcs at its vertices.
use Rattle.std.specs.Prelude.{ℕ, ◌<◌, List, [], length, filter, slice_index_or, ◌==◌, All}
use Rattle.std.specs.List.{range_with_len}
use Rattle.path_graph.specs.declared.parts.Vertex.{Vertex}
use Rattle.path_graph.specs.declared.parts.GraphArc.{GraphArc}
use Rattle.path_graph.specs.declared.parts.Ends.{Ends}

pub record GraphParts : Type 0 where
  pub ends : Ends
  pub vertices : List Vertex
  pub arcs : List GraphArc

-- an arc by number; nothing is said of a number past the end
abbrev pub arc_at : List GraphArc → ℕ → GraphArc
arc_at arcs a = slice_index_or arcs a (record { tail = 0; head = 0; needs = [] })

-- the arcs out of a vertex, and those into it, by number, ascending
abbrev pub arcs_from : List GraphArc → ℕ → List ℕ
arcs_from arcs v = filter (λ a. (arc_at arcs a).tail == v) (range_with_len 0 (length arcs))

abbrev pub arcs_into : List GraphArc → ℕ → List ℕ
arcs_into arcs v = filter (λ a. (arc_at arcs a).head == v) (range_with_len 0 (length arcs))

-- each arc lies between vertices below a number
abbrev pub AreBetween : ℕ → List GraphArc → Type 0
AreBetween count arcs = All (λ arc. (arc.tail < count) × (arc.head < count)) arcs
