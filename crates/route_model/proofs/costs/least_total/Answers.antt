use Rattle.std.proofs.Common.{arith}
use Rattle.route_model.specs.Costs.{least_var_cost}
use Rattle.route_model.specs.Parts.{var_at}
use Rattle.route_model.proofs.Bounds.{cost_step}
use Rattle.route_model.proofs.costs.least_total.Goals as goal

pub loop-var-preserved : goal.loop-var-preserved
loop-var-preserved c =
    cost_step c.args.vars.now (λ j. least_var_cost (var_at c.args.vars.now j)) c.loop-var.var _ c.least_cost.result c.sum_of-total.result (omega arith) c.loop-var.invariant (record { sfits = c.least_cost.type_inv }) (record { sfits = c.sum_of-total.type_inv }) c.least_cost.ensures.cost c.least_cost.ensures.small c.sum_of-total.ensures
