use Rattle.std.proofs.Common.{take}
use Rattle.cert_check.specs.Costs.{AreTerms}
use Rattle.cert_check.specs.Frames.{walks_said}
use Rattle.cert_check.proofs.counts.term_sum.Given as goal

abbrev pub invariant-loop-k : goal.invariant-loop-k
invariant-loop-k l = AreTerms l.model l.priced (walks_said (take l.k l.walks)) (take l.k l.boxes) l.total
