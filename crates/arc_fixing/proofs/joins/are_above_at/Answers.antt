use Rattle.std.proofs.Common.{ℕ, ◌<◌, length, below_more, refl, sym, subst, arith}
use Rattle.std.specs.Int.{w128}
use Rattle.std.specs.Prelude.{slice_index}
use Rattle.std.proofs.lemmas.Int.{to_z-of_z}
use Rattle.path_graph.specs.Walk.{arc_at}
use Rattle.route_labels.specs.Meaning.{setting_of}
use Rattle.proof_check.specs.Index.{label_at}
use Rattle.proof_check.proofs.PlaceLemmas.{place_vertex}
use Rattle.arc_fixing.specs.Pairs.{AreAboveFrom}
use Rattle.arc_fixing.proofs.PairLemmas.{all_above}
use Rattle.arc_fixing.proofs.joins.are_above_at.Goals as goal

pub are_above_from-requires-clause-tail : goal.are_above_from-requires-clause-tail
are_above_from-requires-clause-tail c =
    sym (place_vertex c.args.fore.now.labels.now (arc_at (setting_of c.args.field.now).graph.arcs c.args.arc).tail c.args.fore.now.places.now c.requires.starts.row c.loop-place.place-index c.loop-place-test.true)

pub loop-place-preserved : goal.loop-place-preserved
loop-place-preserved c = below_more _ _ c.loop-place.invariant (c.if-not-are_above_from.ensures.0 refl)

pub returns : goal.returns
returns c =
    let S = setting_of c.args.field.now in
    let fore = c.args.fore.now.labels.now in
    let back = c.args.back.now.labels.now in
    let starts = c.args.fore.now.places.now in
    let rests = c.args.back.now.places.now in
    let read = to_z-of_z w128 c.args.limit c.ranges.limit in
    let each : (j : ℕ) → j < length starts → AreAboveFrom S (label_at fore (slice_index starts j)) c.args.arc back rests c.args.limit =
    λ j l. subst (AreAboveFrom S (label_at fore (slice_index starts j)) c.args.arc back rests) read (c.loop-place.invariant j (omega (arith, l, c.loop-place-test.false))) in
    (λ h. all_above S fore back c.args.arc c.args.limit starts rests c.requires.starts.row c.requires.rests.row each, λ h. refl)
