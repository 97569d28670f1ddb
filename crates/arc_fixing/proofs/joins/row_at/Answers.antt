use Rattle.std.proofs.Common.{◌≡◌, length, ◌∙◌}
use Rattle.path_graph.proofs.IndexLemmas.{index_is}
use Rattle.proof_check.specs.Index.{places_at}
use Rattle.proof_check.proofs.PlaceLemmas.{places_within}
use Rattle.arc_fixing.proofs.joins.row_at.Goals as goal

pub returns-clause-row : goal.returns-clause-row
returns-clause-row c =
    let labels = c.args.listed.now.labels.now in
    let index = c.args.listed.now.index.now in
    let is : c.as_slice.result.now ≡ places_at labels c.args.vertex =
    c.as_slice.ensures ∙ index_is (places_at labels) index (length index) c.args.vertex c.index-index-vertex.result c.requires.index c.requires.there c.index-index-vertex.is in
    record { row = is; within = places_within labels c.args.vertex c.as_slice.result.now is }
