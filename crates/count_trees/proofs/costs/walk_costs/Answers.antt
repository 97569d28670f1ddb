use Rattle.std.proofs.Common.{List, ◌^◌, All, ap, subst, sym, ◌∙◌}
use Rattle.std.proofs.lemmas.List.{take_all}
use Rattle.path_graph.specs.Within.{IsWithin}
use Rattle.route_model.specs.Fit.{ModelFits}
use Rattle.cert_check.specs.Reads.{WalkFits}
use Rattle.walk_list.specs.declared.walks.ListedWalk.{ListedWalk}
use Rattle.walk_list.specs.Walks.{walks_said}
use Rattle.count_trees.specs.Costs.{walk_costs}
use Rattle.count_trees.proofs.CostLemmas.{costs_small}
use Rattle.count_trees.proofs.PointLemmas.{each_said}
use Rattle.count_trees.proofs.costs.walk_costs.Goals as goal

pub walk_cost-requires : goal.walk_cost-requires
walk_cost-requires c = record { fits = each_said (WalkFits c.args.model.now) c.args.walks.now c.loop-walk.walk-index c.walk-item.result c.loop-walk-test.true c.walk-item.is c.requires.fits }

pub returns-clause-small : goal.returns-clause-small
returns-clause-small c =
    let m = c.args.model.now in
    let all = c.loop-walk.invariant ∙ ap (λ (ws : List ListedWalk). walk_costs m (walks_said ws)) (take_all c.loop-walk.walk-index c.args.walks.now c.loop-walk-test.false) in
    subst (All (IsWithin (2 ^ 88))) (sym all) (costs_small m (walks_said c.args.walks.now) (subst ModelFits c.model.view_is c.model.invariant.fits) c.requires.fits)
