-- The stops at the vertices: places and demands by the numbers of their draws.
use Rattle.std.specs.Prelude.{ℕ, ◌+◌, ◌*◌, Bool, List, map, nat_le, ◌&&◌, if◌then◌else◌}
use Rattle.std.specs.List.{range_with_len}
use Rattle.vrp_demo.specs.declared.stops.Stop.{Stop}
use Rattle.vrp_demo.specs.Draws.{draw}

-- the depot is drawn first: X, then Y
abbrev pub depot_from : ℕ → Stop
depot_from x = record { x = draw x 1 100; y = draw x 2 100; demand = 0 }

-- a customer is drawn by the three draws after a state: X, Y, and the demand, 1 to 4
abbrev pub customer_from : ℕ → Stop
customer_from x = record { x = draw x 1 100; y = draw x 2 100; demand = 1 + draw x 3 4 }

-- customer i, from 1 up, is drawn by the draws 3 i, 3 i + 1 and 3 i + 2
abbrev pub customer : ℕ → ℕ → Stop
customer seed i =
    record { x = draw seed (3 * i) 100; y = draw seed (3 * i + 1) 100; demand = 1 + draw seed (3 * i + 2) 4 }

-- a vertex of a customer
abbrev pub is_customer : ℕ → ℕ → Bool
is_customer size v = nat_le 1 v && nat_le v size

-- the source 0 and the sink size + 1 are at the depot
abbrev pub stop_at : ℕ → ℕ → ℕ → Stop
stop_at seed size v = if is_customer size v then customer seed v else depot_from seed

abbrev pub stops : ℕ → ℕ → List Stop
stops seed size = map (stop_at seed size) (range_with_len 0 (size + 2))
