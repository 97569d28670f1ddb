use Rattle.std.proofs.Common.{◌≡◌, ◌++◌, ◌∷◌, take}
use Rattle.std.specs.List.{flat_map}
use Rattle.model_text.specs.ModelText.{term_words}
use Rattle.model_text.proofs.model_print.print_terms.Given as goal

abbrev pub invariant-loop-term : goal.invariant-loop-term
invariant-loop-term l = l.text ≡ l.initial.text ++ flat_map (λ word. 32 ∷ word) (flat_map term_words (take l.term-index l.terms))
