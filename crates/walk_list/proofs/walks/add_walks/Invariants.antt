use Rattle.std.proofs.Common.{◌≡◌, ◌++◌}
use Rattle.proof_rules.specs.Nodes.{walks_in}
use Rattle.walk_list.specs.Walks.{walks_said}
use Rattle.walk_list.proofs.walks.add_walks.Given as goal

abbrev pub invariant-loop-arcs : goal.invariant-loop-arcs
invariant-loop-arcs l = walks_said l.walks ≡ walks_said l.fn.walks ++ walks_in l.graph l.yielded
