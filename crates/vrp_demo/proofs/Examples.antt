-- Worked facts about the definitions: the draws of two seeds, and the whole models of seed 0 with one customer and of seed 7 with two.
use Rattle.std.proofs.Common.{◌≡◌, ℕ, ℤ, pos, List, [], ◌∷◌, length, refl, Some, None, Option}
use Rattle.path_graph.specs.declared.parts.Window.{Window}
use Rattle.path_graph.specs.declared.parts.Vertex.{Vertex}
use Rattle.path_graph.specs.declared.parts.GraphArc.{GraphArc}
use Rattle.route_model.specs.declared.parts.Var.{Var}
use Rattle.route_model.specs.declared.parts.RowTerm.{RowTerm}
use Rattle.route_model.specs.declared.parts.Row.{Row}
use Rattle.vrp_demo.specs.declared.stops.Stop.{Stop}
use Rattle.vrp_demo.specs.Draws.{state}
use Rattle.vrp_demo.specs.Stops.{stops}
use Rattle.vrp_demo.specs.Arcs.{all_pairs}
use Rattle.vrp_demo.specs.Generated.{generated}

-- 75 × 0 + 74 is 74, and 75 × 5,624 + 74 is 421,874, of which 65,537 is taken 6 times
states_of_0 : (state 0 1 ≡ 74) × (state 0 2 ≡ 5624) × (state 0 3 ≡ 28652) × (state 0 4 ≡ 51790) × (state 0 5 ≡ 17641)
states_of_0 = (refl, refl, refl, refl, refl)

stop : ℕ → ℕ → ℕ → Stop
stop x y demand = record { x = x; y = y; demand = demand }

stops_of_7 : stops 7 2 ≡ stop 99 99 0 ∷ stop 12 5 2 ∷ stop 42 18 3 ∷ stop 99 99 0 ∷ []
unfolding stop
stops_of_7 = refl

arc_counts : (length (all_pairs 1) ≡ 2) × (length (all_pairs 2) ≡ 6) × (length (all_pairs 12) ≡ 156)
arc_counts = (refl, refl, refl)

main : ℤ → List ℤ
main q = q ∷ pos 0 ∷ pos 0 ∷ pos 0 ∷ pos 0 ∷ pos 0 ∷ []

arc : ℕ → ℕ → ℕ → GraphArc
unfolding main
arc t h q = record { tail = t; head = h; needs = main (pos q) }

vertex : Option ℕ → Vertex
vertex set =
    let none : Window = record { low = pos 0; high = pos 0 } in
    record { set = set; windows = record { low = pos 0; high = pos 10 } ∷ none ∷ none ∷ none ∷ none ∷ none ∷ [] }

var : ℕ → Var
var cost = record { low = pos 0; high = pos 1; cost = pos cost }

row : List RowTerm → Row
row terms = record { low = Some (pos 1); high = Some (pos 1); terms = terms }

term : ℕ → RowTerm
term k = record { var = k; coef = pos 1 }

-- the depot is at (74, 24), the customer at (52, 90) takes 2 units
model_of_0 : generated 0 1
    ≡ record {
      vars = var 88 ∷ var 88 ∷ [];
      rows = row (term 0 ∷ []) ∷ [];
      sets = 1;
      graphs =
          record {
            ends = record { source = 0; sink = 2; low = 0; high = 1; mains = 1; seconds = 0 };
            vertices = vertex None ∷ vertex (Some 0) ∷ vertex None ∷ [];
            arcs = arc 0 1 2 ∷ arc 1 2 0 ∷ [];
          }
          ∷ [];
      maps = ((0 ∷ []) ∷ (1 ∷ []) ∷ []) ∷ [];
    }
unfolding generated var row term vertex arc main
model_of_0 = refl

-- the depot is at (99, 99), the customers at (12, 5) with 2 units and at (42, 18) with 3
model_of_7 : generated 7 2
    ≡ record {
      vars = var 181 ∷ var 138 ∷ var 43 ∷ var 181 ∷ var 43 ∷ var 138 ∷ [];
      rows = row (term 0 ∷ term 4 ∷ []) ∷ row (term 1 ∷ term 2 ∷ []) ∷ [];
      sets = 2;
      graphs =
          record {
            ends = record { source = 0; sink = 3; low = 0; high = 2; mains = 1; seconds = 0 };
            vertices = vertex None ∷ vertex (Some 0) ∷ vertex (Some 1) ∷ vertex None ∷ [];
            arcs = arc 0 1 2 ∷ arc 0 2 3 ∷ arc 1 2 3 ∷ arc 1 3 0 ∷ arc 2 1 2 ∷ arc 2 3 0 ∷ [];
          }
          ∷ [];
      maps = ((0 ∷ []) ∷ (1 ∷ []) ∷ (2 ∷ []) ∷ (3 ∷ []) ∷ (4 ∷ []) ∷ (5 ∷ []) ∷ []) ∷ [];
    }
unfolding generated var row term vertex arc main
model_of_7 = refl
