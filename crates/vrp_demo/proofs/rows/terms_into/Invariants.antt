use Rattle.std.proofs.Common.{◌≡◌, map, take}
use Rattle.path_graph.specs.Parts.{arcs_into}
use Rattle.vrp_demo.specs.Generated.{term_of}
use Rattle.vrp_demo.proofs.rows.terms_into.Given as goal

abbrev pub invariant-loop-k : goal.invariant-loop-k
invariant-loop-k l = l.terms ≡ map term_of (take l.k (arcs_into l.graph.arcs l.v))
