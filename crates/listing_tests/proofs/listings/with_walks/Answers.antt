use Rattle.std.proofs.Common.{sym, subst}
use Rattle.walk_list.specs.Listings.{IsProofWith}
use Rattle.walk_list.specs.Walks.{AreTrees}
use Rattle.walk_list.proofs.WalkLemmas.{complete_trees}
use Rattle.listing_tests.proofs.listings.with_walks.Goals as goal

pub listed_walks-requires-clause-trees : goal.listed_walks-requires-clause-trees
listed_walks-requires-clause-trees c =
    let r = c.args.row.now in
    subst (AreTrees r.model.now r.spot.now (IsProofWith r.model.now r.spot.now r.priced.now r.near.now r.cuts.now r.weights.now r.tables.now)) (sym c.as_slice.ensures)
    (complete_trees _ _ _ _ _ c.in-Tries.ensures.trees)
