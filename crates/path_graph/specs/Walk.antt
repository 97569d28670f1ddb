-- Walks, and the values of the resources along them.
use Rattle.std.specs.Prelude.{◌≡◌, ℕ, ◌<◌, ℤ, ◌+ℤ◌, List, [], ◌∷◌, length, map, ◌≤ℤ◌}
use Rattle.std.specs.Int.{int_max}
use Rattle.path_graph.specs.declared.parts.Window.{Window}
use Rattle.path_graph.specs.declared.parts.Values.{Values}
use Rattle.path_graph.specs.Fit.{int_at, window_at, vertex_at}
pub use Rattle.path_graph.specs.Parts.{GraphParts, arc_at}
pub use Rattle.path_graph.specs.Graph.{IsGraph}

-- Walks. The arcs lead from one vertex to the other: each begins where the one before it ends.
abbrev pub Leads : GraphParts → ℕ → List ℕ → ℕ → Type 0
Leads g v [] w = v ≡ w
Leads g v (a ∷ rest) w = (a < length g.arcs) × ((arc_at g.arcs a).tail ≡ v) × Leads g (arc_at g.arcs a).head rest w

abbrev pub IsWalk : GraphParts → List ℕ → Type 0
IsWalk g arcs = Leads g g.ends.source arcs g.ends.sink

-- the positions of the resources
abbrev pub positions : List ℕ
positions = 0 ∷ 1 ∷ 2 ∷ 3 ∷ 4 ∷ 5 ∷ []

-- the values at the source are the low ends of its windows
abbrev pub root_of : GraphParts → Values
root_of g = record { at = map (λ k. (window_at (vertex_at g.vertices g.ends.source).windows k).low) positions }

-- over an arc of these needs a value grows by the need, or to the low end of the window at the head
abbrev pub moved_at : List ℤ → List ℤ → List Window → ℕ → ℤ
moved_at values needs windows k = int_max (window_at windows k).low (int_at values k +ℤ int_at needs k)

abbrev pub moved : List ℤ → List ℤ → List Window → List ℤ
moved values needs windows = map (moved_at values needs windows) positions

-- the values over an arc
abbrev pub over_of : GraphParts → Values → ℕ → Values
over_of g value a =
    let arc = arc_at g.arcs a in
    record { at = moved value.at arc.needs (vertex_at g.vertices arc.head).windows }

-- no value is above the high end of its window
abbrev pub AreBelow : List ℤ → List Window → Type 0
AreBelow values windows = (k : ℕ) → k < 6 → int_at values k ≤ℤ (window_at windows k).high

-- the windows at the head of the arc take the values over it
abbrev pub Takes : GraphParts → Values → ℕ → Type 0
Takes g value a = AreBelow (over_of g value a).at (vertex_at g.vertices (arc_at g.arcs a).head).windows

-- no window refuses the values along the arcs
abbrev pub Passes : GraphParts → Values → List ℕ → Type 0
Passes g value [] = Unit {0}
Passes g value (a ∷ rest) = Takes g value a × Passes g (over_of g value a) rest

-- the values at the end of arcs that begin with a value
abbrev pub values_at_end : GraphParts → Values → List ℕ → Values
values_at_end g value [] = value
values_at_end g value (a ∷ rest) = values_at_end g (over_of g value a) rest

pub record IsFeasibleWalk (g : GraphParts) (arcs : List ℕ) : Type 0 where
  pub walk : IsWalk g arcs
  pub passes : Passes g (root_of g) arcs
