use Rattle.std.proofs.Common.{◌≡◌, ◌++◌, take}
use Rattle.std.specs.List.{flat_map}
use Rattle.model_text.specs.ModelText.{vertex_line}
use Rattle.model_text.proofs.model_print.print_vertices.Given as goal

abbrev pub invariant-loop-v : goal.invariant-loop-v
invariant-loop-v l =
    l.text ≡ l.initial.text ++ flat_map (vertex_line l.graph.ends) (take l.v l.graph.vertices)
