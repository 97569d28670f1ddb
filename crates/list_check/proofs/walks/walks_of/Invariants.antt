use Rattle.std.proofs.Common.{◌≡◌, ◌+◌}
use Rattle.route_labels.specs.Meaning.{setting_of}
use Rattle.cert_rules.specs.Meaning.{steps_of}
use Rattle.list_check.proofs.StepLemmas.{seen}
use Rattle.list_check.proofs.walks.walks_of.Given as goal

-- the walks are the prefixes of the nodes at the sink that were looked at
abbrev pub invariant-loop-n : goal.invariant-loop-n
invariant-loop-n l = l.walks ≡ seen (setting_of l.field) (steps_of l.trie) (l.n + 1)
