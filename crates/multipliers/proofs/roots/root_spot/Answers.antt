use Rattle.std.proofs.Common.{subst, ap, ◌≡◌, ◌∙◌}
use Rattle.std.specs.Prelude.{◌↔◌}
use Rattle.route_model.specs.declared.places.Spot.{Spot}
use Rattle.route_model.specs.Fit.{ModelFits}
use Rattle.route_model.specs.Parts.{ModelParts}
use Rattle.route_model.specs.Places.{SolvesAt, SpotFits, root_place}
use Rattle.route_model.specs.Solution.{IsSolution}
use Rattle.multipliers.proofs.RootLemmas.{root_fits, root_made, root_solutions}
use Rattle.multipliers.proofs.roots.root_spot.Goals as goal

abbrev made_of : goal.In_ok-fixed → Spot
made_of c = record { boxes = record { vars = c.in_ok-vars.vars; paths = c.in_ok-paths.paths }; fixed = c.in_ok-fixed.fixed }

made : (c : goal.In_ok-fixed) → root_place c.args.model.now ≡ made_of c
made c =
    root_made c.args.model.now c.as_slice.result.now c.as_slice-2.result.now c.as_slice-3.result.now c.in_ok-vars.vars c.in_ok-paths.paths c.in_ok-fixed.fixed
    (c.as_slice.ensures ∙ ap (λ (x : ModelParts). x.vars) c.model.view_is)
    (c.as_slice-2.ensures ∙ ap (λ (x : ModelParts). x.graphs) c.model.view_is)
    (c.as_slice-3.ensures ∙ ap (λ (x : ModelParts). x.graphs) c.model.view_is)
    c.in_ok-vars.ensures c.in_ok-paths.ensures c.in_ok-fixed.ensures

pub returns-clause-fits : goal.returns-clause-fits
returns-clause-fits c = subst (SpotFits c.args.model.now) (made c) (root_fits c.args.model.now (subst ModelFits c.model.view_is c.model.invariant.fits))

pub returns-clause-solutions : goal.returns-clause-solutions
returns-clause-solutions c plan = subst (λ (spot : Spot). SolvesAt c.args.model.now spot plan ↔ IsSolution c.args.model.now plan) (made c) (root_solutions c.args.model.now plan)
