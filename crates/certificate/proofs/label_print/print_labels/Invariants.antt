use Rattle.std.proofs.Common.{◌≡◌, ◌++◌, ◌∷◌, take}
use Rattle.std.specs.List.{flat_map}
use Rattle.line_text.specs.Spelling.{line_of_words}
use Rattle.certificate.specs.LabelWords.{label_words}
use Rattle.certificate.proofs.label_print.print_labels.Given as goal

abbrev pub invariant-loop-label : goal.invariant-loop-label
invariant-loop-label l = l.text ≡ l.initial.text ++ flat_map (λ b. line_of_words (l.key ∷ label_words l.shape b)) (take l.label-index l.labels)
