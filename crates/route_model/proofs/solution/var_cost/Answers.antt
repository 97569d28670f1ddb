use Rattle.std.proofs.Common.{rules, subst, sym, ◌∙◌, ap, ℤ, ◌*ℤ◌, FitsSigned, w64}
use Rattle.path_graph.specs.Within.{IsWithin}
use Rattle.path_graph.proofs.SumLemmas.{product_told}
use Rattle.route_model.specs.declared.parts.Var.{Var}
use Rattle.route_model.specs.Fit.{VarFits, cost_range_of}
use Rattle.route_model.specs.Parts.{var_at}
use Rattle.route_model.specs.Quantities.{value_of}
use Rattle.route_model.proofs.Bounds.{var_cost_within}
use Rattle.route_model.proofs.solution.var_cost.Goals as goal

pub returns-clause-small : goal.returns-clause-small
returns-clause-small c =
    let v = var_at c.args.model.now.vars c.args.var in
    let n = value_of c.args.model.now c.args.plan.now c.args.var in
    let cost : FitsSigned w64 c.var_of.result.cost = search rules in
    let told = product_told w64 c.var_of.result.cost c.boxed_value.result c.product.result cost (record { sfits = c.boxed_value.type_inv }) (record { sfits = c.product.type_inv }) c.product.ensures in
    let same = told ∙ (ap (λ (x : Var). x.cost *ℤ c.boxed_value.result) c.var_of.ensures.var ∙ ap (λ (z : ℤ). v.cost *ℤ z) c.boxed_value.ensures.value) in
    let fits = subst (λ (x : Var). VarFits x) c.var_of.ensures.var c.var_of.ensures.fits in
    subst (λ (z : ℤ). IsWithin (cost_range_of v) z) (sym same) (var_cost_within v n fits (c.requires.boxes c.args.var c.requires.within).1)
