use Rattle.proof_rules.proofs.PrefixTreeLemmas.{one_node, one_prefix, prefix_of_law}
use Rattle.proof_rules.proofs.prefixes.nodes_have_one_prefix.Goals as goal

pub returns-clause-some : goal.returns-clause-some
returns-clause-some c = prefix_of_law

pub returns-clause-same : goal.returns-clause-same
returns-clause-same c = one_prefix

pub returns-clause-apart : goal.returns-clause-apart
returns-clause-apart c = one_node
