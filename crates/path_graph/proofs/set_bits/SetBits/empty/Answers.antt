use Rattle.path_graph.proofs.SetBitsLemmas.{has_none}
use Rattle.path_graph.proofs.set_bits.SetBits.empty.Goals as goal

pub returns-clause-members : goal.returns-clause-members
returns-clause-members c = has_none
