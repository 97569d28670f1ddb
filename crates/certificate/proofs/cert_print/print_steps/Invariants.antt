use Rattle.std.proofs.Common.{◌≡◌, ◌++◌, take}
use Rattle.std.specs.List.{flat_map}
use Rattle.line_text.specs.Spelling.{line_of_words}
use Rattle.certificate.specs.ProofWords.{step_words}
use Rattle.certificate.proofs.cert_print.print_steps.Given as goal

abbrev pub invariant-loop-step : goal.invariant-loop-step
invariant-loop-step l = l.text ≡ l.initial.text ++ flat_map (λ p. line_of_words (step_words p)) (take l.step-index l.steps)
