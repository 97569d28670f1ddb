use Rattle.std.proofs.Common.{below_more, refl, sym}
use Rattle.path_graph.specs.Walk.{arc_at}
use Rattle.route_labels.specs.Meaning.{setting_of}
use Rattle.proof_check.proofs.PlaceLemmas.{place_vertex}
use Rattle.arc_fixing.proofs.joins.are_above_from.Goals as goal

pub is_above-requires-clause-head : goal.is_above-requires-clause-head
is_above-requires-clause-head c =
    sym (place_vertex c.args.back.now.labels.now (arc_at (setting_of c.args.field.now).graph.arcs c.args.arc).head c.args.back.now.places.now c.requires.rests.row c.loop-rest.rest-index c.loop-rest-test.true)

pub loop-rest-preserved : goal.loop-rest-preserved
loop-rest-preserved c = below_more _ _ c.loop-rest.invariant (c.if-not-is_above.ensures.0 refl)
