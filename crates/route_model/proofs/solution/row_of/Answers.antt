use Rattle.std.proofs.Common.{arith, ap, length}
use Rattle.std.proofs.lemmas.List.Sums.{get_or-le-sum_by}
use Rattle.route_model.specs.declared.parts.Row.{Row}
use Rattle.route_model.specs.Parts.{ModelParts}
use Rattle.route_model.proofs.solution.row_of.Goals as goal

pub returns-clause-few : goal.returns-clause-few
returns-clause-few c =
    let all = get_or-le-sum_by (λ (r : Row). length r.terms) c.model.inside.rows c.args.row c.at.result.now (omega (arith, ap (λ (m : ModelParts). length m.rows) c.model.view_is)) in
    omega (arith, all, ap (λ (r : Row). length r.terms) (c.at.ensures c.at.result.now), c.model.invariant.fits.rows.few_terms)
