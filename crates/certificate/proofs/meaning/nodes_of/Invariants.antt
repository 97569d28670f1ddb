use Rattle.std.proofs.Common.{◌≡◌, ◌++◌, length, reverse}
use Rattle.certificate.specs.Meaning.{nodes_from}
use Rattle.certificate.proofs.meaning.nodes_of.Given as goal

abbrev pub invariant-loop-draft : goal.invariant-loop-draft
invariant-loop-draft l = nodes_from l.sizes l.left l.lines 1 ++ reverse l.nodes.items ≡ nodes_from l.sizes l.fn.drafts l.lines 1

abbrev pub decreases-loop-draft : goal.decreases-loop-draft
decreases-loop-draft l = length l.left
