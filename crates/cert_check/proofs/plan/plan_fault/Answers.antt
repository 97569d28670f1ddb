use Rattle.std.proofs.Common.{ℤ, ◌≡◌, length, w64, ap, subst, rules, arith}
use Rattle.std.specs.Prelude.{MatchOption}
use Rattle.std.proofs.lemmas.Int.{to_z-of_z}
use Rattle.route_model.specs.Fit.{ModelFits}
use Rattle.route_model.specs.Parts.{ModelParts}
use Rattle.route_model.specs.Quantities.{cost_of}
use Rattle.route_model.specs.Solution.{IsSolution}
use Rattle.cert_check.specs.Verdicts.{IsPlanFault}
use Rattle.cert_check.proofs.PlanLemmas.{solution_few, verdict_counts}
use Rattle.cert_check.proofs.plan.plan_fault.Goals as goal

pub returns-then-len : goal.returns-then-len
returns-then-len c solution =
    let fits = subst ModelFits c.model.view_is c.model.invariant.fits in
    omega (arith, solution_few c.args.model.now c.args.plan.now fits solution, c.len.ensures, c.len-2.ensures, ap (λ (m : ModelParts). length m.graphs) c.model.view_is, c.if-len.true)

pub judge-requires : goal.judge-requires
judge-requires c =
    let fits = subst ModelFits c.model.view_is c.model.invariant.fits in
    verdict_counts c.args.model.now c.args.plan.now fits c.requires (omega (arith, c.len.ensures, c.len-2.ensures, ap (λ (m : ModelParts). length m.graphs) c.model.view_is, c.if-len.false))

pub returns : goal.returns
returns c =
    let m = c.args.model.now in
    let plan = c.args.plan.now in
    subst (λ (z : ℤ). MatchOption c.of_verdict.result (IsSolution m plan × (cost_of m plan ≡ z)) (IsPlanFault m plan z)) (to_z-of_z w64 c.args.cost (search rules)) (c.of_verdict.ensures m plan c.judge.ensures)
