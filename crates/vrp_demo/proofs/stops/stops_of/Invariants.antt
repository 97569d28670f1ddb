use Rattle.std.proofs.Common.{◌≡◌, ◌+◌, ◌*◌, map}
use Rattle.std.specs.List.{range_with_len}
use Rattle.vrp_demo.specs.Draws.{state}
use Rattle.vrp_demo.specs.Stops.{stop_at}
use Rattle.vrp_demo.proofs.stops.stops_of.Given as goal

abbrev pub invariant-loop : goal.invariant-loop
invariant-loop l =
    (l.draws.state ≡ state l.seed (3 * l.counter + 2))
    × (l.stops ≡ map (stop_at l.seed l.size) (range_with_len 0 (l.counter + 1)))
