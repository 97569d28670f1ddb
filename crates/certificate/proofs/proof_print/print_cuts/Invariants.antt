use Rattle.std.proofs.Common.{◌≡◌, ◌++◌, take}
use Rattle.std.specs.List.{flat_map, zip}
use Rattle.certificate.specs.CertPrint.{cut_line}
use Rattle.certificate.proofs.proof_print.print_cuts.Given as goal

abbrev pub invariant-loop-k : goal.invariant-loop-k
invariant-loop-k l = l.text ≡ l.initial.text ++ flat_map (λ p. cut_line p.0 p.1) (take l.k (zip l.weights l.cuts))
