use Rattle.std.proofs.Common.{◌≡◌, map, take}
use Rattle.vrp_demo.specs.Arcs.{variable_over}
use Rattle.vrp_demo.proofs.arcs.variables_over.Given as goal

abbrev pub invariant-loop-pair : goal.invariant-loop-pair
invariant-loop-pair l = l.vars ≡ map (variable_over l.stops) (take l.pair-index l.pairs)
