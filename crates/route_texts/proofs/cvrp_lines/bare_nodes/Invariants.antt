use Rattle.std.proofs.Common.{◌≡◌}
use Rattle.route_texts.specs.CvrpDraft.{bare_nodes}
use Rattle.route_texts.proofs.cvrp_lines.bare_nodes.Given as goal

abbrev pub invariant-loop-k : goal.invariant-loop-k
invariant-loop-k l = l.nodes ≡ bare_nodes l.k
