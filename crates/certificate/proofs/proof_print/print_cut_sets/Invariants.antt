use Rattle.std.proofs.Common.{◌≡◌, ◌++◌, take}
use Rattle.std.specs.List.{flat_map}
use Rattle.certificate.specs.ProofWords.{cut_set_words}
use Rattle.certificate.specs.CertPrint.{further}
use Rattle.certificate.proofs.proof_print.print_cut_sets.Given as goal

abbrev pub invariant-loop-set : goal.invariant-loop-set
invariant-loop-set l = l.text ≡ l.initial.text ++ further (flat_map cut_set_words (take l.set-index l.sets))
