use Rattle.std.proofs.Common.{◌+◌, ◌^◌, arith}
use Rattle.std.proofs.lemmas.Int.{ints}
use Rattle.cert_check.proofs.counts.step_cost.Goals as goal

pub returns-clause-small : goal.returns-clause-small
returns-clause-small c =
    let p = c.number_at-along.ensures.small (2 ^ 72 + 2 ^ 53) c.requires.arcs in
    let q = c.visit_cost-visit.ensures.small (2 ^ 48) c.requires.visits in
    (omega (arith, ints, p.0, q.0), omega (arith, ints, p.1, q.1))
