use Rattle.std.proofs.Common.{◌≡◌, ◌++◌, take}
use Rattle.std.specs.List.{flat_map, zip}
use Rattle.model_text.specs.ModelText.{arc_line}
use Rattle.model_text.proofs.model_print.print_arcs.Given as goal

abbrev pub invariant-loop-a : goal.invariant-loop-a
invariant-loop-a l =
    l.text ≡ l.initial.text ++ flat_map (λ p. arc_line l.graph.ends p.0 p.1) (take l.a (zip l.graph.arcs l.maps))
