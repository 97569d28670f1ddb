use Rattle.std.proofs.Common.{◌≡◌, ◌≤◌, ◌++◌, length, map, reverse}
use Rattle.proof_rules.specs.PrefixTrees.{prefix_of as prefix_in}
use Rattle.cert_rules.specs.Meaning.{step_of}
use Rattle.list_check.proofs.walks.prefix_of.Given as goal

-- the prefix is that of the node at hand and, behind it, the arcs that were read off
abbrev pub invariant-loop-at : goal.invariant-loop-at
invariant-loop-at l = (l.at ≤ length l.steps) × (prefix_in (map step_of l.steps) l.node ≡ prefix_in (map step_of l.steps) l.at ++ reverse l.arcs.items)

abbrev pub decreases-loop-at : goal.decreases-loop-at
decreases-loop-at l = l.at
