use Rattle.std.proofs.Common.{◌≡◌, All, map, take}
use Rattle.path_graph.specs.Free.{HasNoFreeCycle}
use Rattle.model_text.specs.Draft.{graph_of}
use Rattle.model_text.proofs.model_build.graphs_of.Given as goal

abbrev pub invariant-loop-section : goal.invariant-loop-section
invariant-loop-section l =
    (l.graphs ≡ map graph_of (take l.section-index l.sections))
    × All (λ s. HasNoFreeCycle s.arcs) (take l.section-index l.sections)
