use Rattle.std.proofs.Common.{◌+ℤ◌, ℤ, to_z, of_z, length, ap, ◌∙◌}
use Rattle.std.specs.Int.{w128}
use Rattle.safe_bound.proofs.BoundLemmas.{bound_made}
use Rattle.safe_bound.proofs.BoundSteps.{sum_told}
use Rattle.safe_bound.proofs.bounds.bound_from.Goals as goal

pub returns-in-None-clause-bound : goal.returns-in-None-clause-bound
returns-in-None-clause-bound c =
    let total = sum_told c.args.base c.term_sum.result c.plus.result c.requires.base c.term_sum.ensures.range c.plus.ensures in
    bound_made (length c.args.spans.now) c.args.spans.now c.args.leasts.now c.args.base (to_z w128 (of_z w128 c.plus.result)) c.in-None.ensures
    (total ∙ ap (λ (x : ℤ). c.args.base +ℤ x) c.term_sum.ensures.sum)
