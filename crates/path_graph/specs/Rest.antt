-- Rests of walks, their backward values, and how they join partial walks.
use Rattle.std.specs.Prelude.{◌≡◌, ℕ, ◌<◌, ℤ, ◌+ℤ◌, ◌-ℤ◌, ◌≤ℤ◌, List, [], ◌∷◌, map}
use Rattle.std.specs.Int.{int_min}
use Rattle.path_graph.specs.declared.parts.Window.{Window}
use Rattle.path_graph.specs.declared.parts.GraphArc.{GraphArc}
use Rattle.path_graph.specs.declared.parts.Values.{Values}
use Rattle.path_graph.specs.Fit.{int_at, window_at, vertex_at}
use Rattle.path_graph.specs.Walk.{GraphParts, arc_at, positions, Leads, Passes, root_of, values_at_end}

-- the backward values at the sink are the high ends of its windows
abbrev pub end_of : GraphParts → Values
end_of g = record { at = map (λ k. (window_at (vertex_at g.vertices g.ends.sink).windows k).high) positions }

-- back over an arc of these needs a value falls by the need, or to the high end of the window at the tail
abbrev pub moved_back_at : List ℤ → List ℤ → List Window → ℕ → ℤ
moved_back_at values needs windows k =
    int_min (window_at windows k).high (int_at values k -ℤ int_at needs k)

abbrev pub moved_back : List ℤ → List ℤ → List Window → List ℤ
moved_back values needs windows = map (moved_back_at values needs windows) positions

-- the values back over an arc
abbrev pub back_of : GraphParts → Values → ℕ → Values
back_of g value a =
    let arc = arc_at g.arcs a in
    record { at = moved_back value.at arc.needs (vertex_at g.vertices arc.tail).windows }

-- no value is below the low end of its window
abbrev pub AreAbove : List ℤ → List Window → Type 0
AreAbove values windows = (k : ℕ) → k < 6 → (window_at windows k).low ≤ℤ (int_at values k)

-- the windows at the tail of the arc take the values back over it
abbrev pub TakesBack : GraphParts → Values → ℕ → Type 0
TakesBack g value a = AreAbove (back_of g value a).at (vertex_at g.vertices (arc_at g.arcs a).tail).windows

-- arcs that end at the sink have these backward values where they begin: no window refuses them
abbrev pub HasBackward : GraphParts → List ℕ → Values → Type 0
HasBackward g [] value = value ≡ end_of g
HasBackward g (a ∷ rest) value =
    (next : Values) × HasBackward g rest next × TakesBack g next a × (value ≡ back_of g next a)

-- a partial walk: from the source to a vertex, where it has these values
pub record IsPartial (g : GraphParts) (arcs : List ℕ) (v : ℕ) (value : Values) : Type 0 where
  pub leads : Leads g g.ends.source arcs v
  pub passes : Passes g (root_of g) arcs
  pub values : value ≡ values_at_end g (root_of g) arcs

-- a rest: from a vertex, where it has these backward values, to the sink
pub record IsRest (g : GraphParts) (arcs : List ℕ) (v : ℕ) (value : Values) : Type 0 where
  pub leads : Leads g v arcs g.ends.sink
  pub values : HasBackward g arcs value

-- forward values at the tail of an arc and backward values at its head join over it
abbrev pub JoinOver : Values → GraphArc → Values → Type 0
JoinOver front arc back = (k : ℕ) → k < 6 → (int_at front.at k +ℤ int_at arc.needs k) ≤ℤ (int_at back.at k)

abbrev pub Join : GraphParts → Values → ℕ → Values → Type 0
Join g front a back = JoinOver front (arc_at g.arcs a) back

-- the rest has no backward values
abbrev pub HasNoBackward : GraphParts → List ℕ → Type 0
HasNoBackward g arcs = (value : Values) → HasBackward g arcs value → ⊥
