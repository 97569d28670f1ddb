use Rattle.std.proofs.Common.{◌∙◌, ap, sym, subst}
use Rattle.route_model.specs.Parts.{ModelParts}
use Rattle.route_model.specs.Quantities.{value_of}
use Rattle.route_model.specs.Solution.{ArePaths}
use Rattle.route_model.proofs.KnownLemmas.{plan_mapped}
use Rattle.route_model.proofs.quantities.value.Goals as goal

pub uses_total-requires-clause-mapped : goal.uses_total-requires-clause-mapped
uses_total-requires-clause-mapped c =
    plan_mapped _ c.args.plan.now c.model.invariant.fits (subst (λ (m : ModelParts). ArePaths m c.args.plan.now) (sym c.model.view_is) c.requires.paths)

pub returns : goal.returns
returns c = c.uses_total.ensures ∙ ap (λ (m : ModelParts). value_of m c.args.plan.now c.args.var) c.model.view_is
