use Rattle.std.proofs.Common.{◌≡◌, ◌++◌, ◌∷◌, take}
use Rattle.std.specs.List.{flat_map}
use Rattle.model_text.specs.ModelText.{window_words}
use Rattle.model_text.proofs.model_print.print_windows.Given as goal

abbrev pub invariant-loop-window : goal.invariant-loop-window
invariant-loop-window l = l.text ≡ l.initial.text ++ flat_map (λ word. 32 ∷ word) (flat_map window_words (take l.window-index l.windows))
