use Rattle.std.proofs.Common.{◌≡◌, ◌++◌, take}
use Rattle.std.specs.List.{flat_map, zip}
use Rattle.model_text.specs.ModelText.{graph_text}
use Rattle.model_text.proofs.model_print.print_graphs.Given as goal

abbrev pub invariant-loop-g : goal.invariant-loop-g
invariant-loop-g l =
    l.text ≡ l.initial.text ++ flat_map (λ p. graph_text p.0 p.1) (take l.g (zip l.graphs l.maps))
