use Rattle.std.proofs.Common.{◌≡◌, ◌++◌, take}
use Rattle.std.specs.List.{flat_map}
use Rattle.line_text.specs.Spelling.{line_of_words}
use Rattle.certificate.specs.ProofWords.{near_words}
use Rattle.certificate.proofs.proof_print.print_near.Given as goal

abbrev pub invariant-loop-line : goal.invariant-loop-line
invariant-loop-line l = l.text ≡ l.initial.text ++ flat_map (λ n. line_of_words (near_words n)) (take l.line-index l.lines)
