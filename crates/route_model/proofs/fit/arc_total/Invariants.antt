use Rattle.std.proofs.Common.{◌≡◌, ◌-◌, ◌^◌, min, length, take}
use Rattle.std.specs.Prelude.{sum_by}
use Rattle.route_model.proofs.fit.arc_total.Given as goal

abbrev pub invariant-loop-graph : goal.invariant-loop-graph
invariant-loop-graph l = l.total ≡ min (sum_by (λ g. length g.arcs) (take l.graph-index l.graphs)) (2 ^ 64 - 1)
