use Rattle.cert_check.proofs.NameLemmas.{AreSoFar}
use Rattle.cert_check.proofs.list.all_walks.Given as goal

abbrev pub invariant-loop-g : goal.invariant-loop-g
invariant-loop-g l = AreSoFar l.at l.z l.tries l.g l.walks
