use Rattle.std.proofs.Common.{◌<◌, arith, ap, length, pos, ◌*ℤ◌}
use Rattle.route_model.specs.Parts.{ModelParts, var_at}
use Rattle.route_model.specs.Quantities.{value_of}
use Rattle.route_model.proofs.Bounds.{cost_step}
use Rattle.route_model.proofs.solution.plan_cost.Goals as goal

pub loop-var-preserved : goal.loop-var-preserved
loop-var-preserved c =
    let below : c.loop-var.var < length c.args.model.now.vars = omega (arith, ap (λ (m : ModelParts). length m.vars) c.model.view_is) in
    cost_step c.args.model.now.vars (λ k. (var_at c.args.model.now.vars k).cost *ℤ pos (value_of c.args.model.now c.args.plan.now k)) c.loop-var.var _ c.var_cost.result c.sum_of-total.result below c.loop-var.invariant (record { sfits = c.var_cost.type_inv }) (record { sfits = c.sum_of-total.type_inv }) c.var_cost.ensures.value c.var_cost.ensures.small c.sum_of-total.ensures
