use Rattle.std.proofs.Common.{◌≡◌, map, take}
use Rattle.certificate.specs.Sizes.{graph_sizes}
use Rattle.certificate.proofs.sizes.graph_sizes.Given as goal

abbrev pub invariant-loop-graph : goal.invariant-loop-graph
invariant-loop-graph l = l.sizes ≡ map graph_sizes (take l.graph-index l.graphs)
