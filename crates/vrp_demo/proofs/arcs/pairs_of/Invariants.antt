use Rattle.std.proofs.Common.{◌≡◌}
use Rattle.std.specs.Prelude.{flat_map}
use Rattle.std.specs.List.{range_with_len}
use Rattle.vrp_demo.specs.Arcs.{pairs_from}
use Rattle.vrp_demo.proofs.arcs.pairs_of.Given as goal

abbrev pub invariant-loop-tail : goal.invariant-loop-tail
invariant-loop-tail l = l.pairs ≡ flat_map (pairs_from l.size) (range_with_len 0 l.tail)
