use Rattle.search_rules.proofs.CountLemmas.{few_count_nodes}
use Rattle.search_rules.proofs.PlainLemmas.{plain_tree}
use Rattle.search_rules.proofs.laws.trees_have_few_nodes.Goals as goal

pub returns-clause-counts : goal.returns-clause-counts
returns-clause-counts c = few_count_nodes

pub returns-clause-plain : goal.returns-clause-plain
returns-clause-plain c = plain_tree
