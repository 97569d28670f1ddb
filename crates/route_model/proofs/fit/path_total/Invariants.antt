use Rattle.std.proofs.Common.{◌≡◌, ◌-◌, ◌^◌, min, take}
use Rattle.std.specs.Prelude.{sum_by}
use Rattle.route_model.proofs.fit.path_total.Given as goal

abbrev pub invariant-loop-graph : goal.invariant-loop-graph
invariant-loop-graph l = l.total ≡ min (sum_by (λ g. g.ends.high) (take l.graph-index l.graphs)) (2 ^ 64 - 1)
