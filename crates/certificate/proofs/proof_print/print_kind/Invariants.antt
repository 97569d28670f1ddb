use Rattle.std.proofs.Common.{◌≡◌, ◌++◌, take}
use Rattle.std.specs.List.{flat_map}
use Rattle.line_text.specs.Spelling.{line_of_words}
use Rattle.certificate.specs.ProofWords.{mult_words}
use Rattle.certificate.specs.CertPrint.{kind_lines}
use Rattle.certificate.proofs.proof_print.print_kind.Given as goal

abbrev pub invariant-loop-k : goal.invariant-loop-k
invariant-loop-k l = l.text ≡ l.initial.text ++ flat_map (λ m. line_of_words (mult_words m)) (kind_lines l.kind 0 (take l.k l.values))
