use Rattle.std.proofs.Common.{below_more, arith, refl, ap}
use Rattle.route_model.specs.Parts.{ModelParts}
use Rattle.route_model.proofs.solution.first_bad_set.Goals as goal

pub loop-set-preserved : goal.loop-set-preserved
loop-set-preserved c = below_more _ _ c.loop-set.invariant (c.if-not-set_fits.ensures.0 refl)

pub returns-then-not-set_fits : goal.returns-then-not-set_fits
returns-then-not-set_fits c =
    record {
      within = omega (arith, ap (λ (m : ModelParts). m.sets) c.model.view_is);
      fails = λ fits. let no = c.if-not-set_fits.ensures.1 fits in cc;
      before = c.loop-set.invariant;
    }

pub returns : goal.returns
returns c = λ k below. c.loop-set.invariant k (omega (arith, ap (λ (m : ModelParts). m.sets) c.model.view_is))
