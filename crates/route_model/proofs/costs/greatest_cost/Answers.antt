use Rattle.std.proofs.Common.{subst, sym, ap, ◌∙◌, ℤ, FitsSigned, w64, rules}
use Rattle.std.proofs.lemmas.Int.{to_z-of_z}
use Rattle.path_graph.specs.Within.{IsWithin}
use Rattle.route_model.specs.declared.parts.Var.{Var}
use Rattle.route_model.specs.Costs.{greatest_var_cost}
use Rattle.route_model.specs.Fit.{VarFits, cost_range_of}
use Rattle.route_model.specs.Parts.{var_at}
use Rattle.route_model.proofs.Bounds.{greatest_var_cost_within}
use Rattle.route_model.proofs.costs.greatest_cost.Goals as goal

pub returns-clause-small : goal.returns-clause-small
returns-clause-small c =
    let v = var_at c.args.vars.now c.args.var in
    let fits : FitsSigned w64 c.end_costs-least.result.1 = search rules in
    let same = to_z-of_z w64 c.end_costs-least.result.1 fits ∙ (c.end_costs-least.ensures.greatest ∙ ap greatest_var_cost c.var_in.ensures.var) in
    subst (λ (z : ℤ). IsWithin (cost_range_of v) z) (sym same) (greatest_var_cost_within v (subst (λ (x : Var). VarFits x) c.var_in.ensures.var c.var_in.ensures.fits))
