use Rattle.std.proofs.Common.{w64, rules}
use Rattle.std.proofs.lemmas.Int.{to_z-of_z}
use Rattle.cert_check.proofs.PointLemmas.{solved}
use Rattle.cert_check.proofs.point.solves_below.Goals as goal

pub returns : goal.returns
returns c =
    solved c.args.model.now c.args.z _ c.args.spot.now c.args.plan.now c.is_at.result c.costs_below.result (to_z-of_z w64 c.args.z (search rules)) c.is_at.ensures
    (c.costs_below.ensures c.args.model.now c.args.plan.now c.judge.ensures) c.if-not-costs_below.false
