use Rattle.std.proofs.Common.{arith, ◌∙◌}
use Rattle.path_graph.proofs.IndexLemmas.{index_size, index_is}
use Rattle.route_labels.specs.Meaning.{setting_of}
use Rattle.std.specs.Prelude.{length}
use Rattle.proof_check.specs.Index.{places_at}
use Rattle.proof_check.proofs.PlaceLemmas.{places_within}
use Rattle.proof_check.proofs.cover.has_dominator.Goals as goal

pub bounds-index-label : goal.bounds-index-label
bounds-index-label c =
    let size = index_size (places_at c.args.labels.now) c.args.index.now (length (setting_of c.args.field.now).graph.vertices) c.requires.index in
    omega (arith, size, c.requires.vertex)

pub has_dominator_at-requires-clause-places : goal.has_dominator_at-requires-clause-places
has_dominator_at-requires-clause-places c =
    c.as_slice-places.ensures ∙ index_is (places_at c.args.labels.now) c.args.index.now (length (setting_of c.args.field.now).graph.vertices) c.args.label.now.vertex c.index-index-label.result
    c.requires.index c.requires.vertex c.index-index-label.is

pub has_dominator_at-requires-clause-within : goal.has_dominator_at-requires-clause-within
has_dominator_at-requires-clause-within c =
    places_within c.args.labels.now c.args.label.now.vertex c.as_slice-places.result.now (has_dominator_at-requires-clause-places c)
