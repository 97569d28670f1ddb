-- Stops of which a model can be made.
use Rattle.std.specs.Prelude.{◌≡◌, ℕ, ◌+◌, ◌<◌, ◌≤◌, List, length}
use Rattle.vrp_demo.specs.declared.stops.Stop.{Stop}
use Rattle.vrp_demo.specs.Arcs.{stop_in}

-- a place on the grid, and at most 4 units of load
pub record StopFits (s : Stop) : Type 0 where
  pub x : s.x < 100
  pub y : s.y < 100
  pub demand : s.demand ≤ 4

-- a stop for each vertex, with a demand at each customer
pub record AreStops (size : ℕ) (stops : List Stop) : Type 0 where
  pub count : length stops ≡ size + 2
  pub each : (v : ℕ) → StopFits (stop_in stops v)
  pub demands : (v : ℕ) → 1 ≤ v → v ≤ size → 1 ≤ (stop_in stops v).demand
