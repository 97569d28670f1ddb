use Rattle.std.proofs.Common.{◌≡◌, map, take}
use Rattle.certificate.proofs.meaning.weights_of.Given as goal

abbrev pub invariant-loop-line : goal.invariant-loop-line
invariant-loop-line l = l.weights ≡ map (λ c. c.weight) (take l.line-index l.cuts)
