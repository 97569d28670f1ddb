-- The packing sets near each vertex of each graph.
use Rattle.std.specs.Prelude.{◌≡◌, ℕ, ◌<◌, List, [], length, map, slice_index_or}
use Rattle.path_graph.specs.Walk.{GraphParts}
use Rattle.path_graph.specs.declared.set_bits.SetBits.{SetBits}
use Rattle.path_graph.specs.SetBits.{HasNoMember}

-- the sets near the vertices of a graph
abbrev pub graph_at : List (List SetBits) → ℕ → List SetBits
graph_at near g = slice_index_or near g []

-- the sets near a vertex: none where there is no such vertex
abbrev pub sets_at : List SetBits → ℕ → SetBits
sets_at sets v = slice_index_or sets v (record { bits = [] })

-- the sets near a vertex of a graph
abbrev pub near_at : List (List SetBits) → ℕ → ℕ → SetBits
near_at near g v = sets_at (graph_at near g) v

-- there is such a vertex
abbrev pub IsVertex : List (List SetBits) → ℕ → ℕ → Type 0
IsVertex near g v = (g < length near) × (v < length (graph_at near g))

-- there is one list for each vertex of each graph
abbrev pub FitsGraphs : List (List SetBits) → List GraphParts → Type 0
FitsGraphs near graphs = map length near ≡ map (λ g. length g.vertices) graphs

-- the graphs and their vertices are as many as before
abbrev pub HasShape : List (List SetBits) → List (List SetBits) → Type 0
HasShape old new = map length new ≡ map length old

-- no set is near any vertex
abbrev pub HasNone : List (List SetBits) → Type 0
HasNone near = (g v : ℕ) → HasNoMember (near_at near g v)

-- a list for each vertex of the graph, with no set
abbrev pub IsNothingNear : GraphParts → List SetBits → Type 0
IsNothingNear graph sets = (length sets ≡ length graph.vertices) × ((v : ℕ) → HasNoMember (sets_at sets v))

-- the sets near each other vertex are as before
abbrev pub KeepsOthers : List (List SetBits) → List (List SetBits) → ℕ → ℕ → Type 0
KeepsOthers old new g v = (h w : ℕ) → ¬ ((h ≡ g) × (w ≡ v)) → near_at new h w ≡ near_at old h w
