use Rattle.std.proofs.Common.{refl, rules, w64}
use Rattle.std.proofs.lemmas.Int.{to_z-of_z}
use Rattle.search_tree.proofs.SearchLemmas.{betters}
use Rattle.search_tree.proofs.search.with_best.Goals as goal

pub returns-clause-search : goal.returns-clause-search
returns-clause-search c m is better =
    betters m c.args.search _ c.args.plan c.args.z is better refl (to_z-of_z w64 c.args.z (search rules)) refl refl
