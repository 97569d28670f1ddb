use Rattle.std.proofs.Common.{rules}
use Rattle.std.proofs.lemmas.Fn.{always_returns_same}
use Rattle.route_model.specs.declared.plan.Taken.{Taken}
use Rattle.route_model.specs.Tidy.{walk_order}
use Rattle.route_model.proofs.TidyLemmas.{place_found}
use Rattle.route_model.proofs.tidying.place_of.Goals as goal

pub returns : goal.returns
returns c =
    place_found c.args.paths.now c.args.taken.now c.binary_search_by.result c.requires c.binary_search_by.ensures.bound (c.binary_search_by.ensures.position (λ (u : Taken). walk_order u c.args.taken.now) (always_returns_same _ _ _ (λ a r f k. search rules)))
