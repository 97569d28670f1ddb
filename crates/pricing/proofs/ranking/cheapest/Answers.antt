use Rattle.std.proofs.Common.{List, sym, subst}
use Rattle.std.specs.List.Sorted.{IsPermutation}
use Rattle.pricing.specs.declared.ranking.Ranked.{Ranked}
use Rattle.pricing.specs.Cheap.{AreFirst}
use Rattle.pricing.proofs.RankLemmas.{first_is}
use Rattle.pricing.proofs.ranking.cheapest.Goals as goal

pub returns : goal.returns
returns c =
    subst (AreFirst c.args.sink c.args.made.now.cells c.args.k) (sym c.truncate.ensures.items)
    (first_is c.args.sink c.args.made.now.cells c.args.k c.sort.new.self.items
    (subst (λ (rs : List Ranked). IsPermutation rs c.sort.new.self.items) c.in_ok-ranked.ensures c.sort.ensures.permutation) c.in_ok-sort.ensures.sorted)
