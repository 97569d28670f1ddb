use Rattle.std.proofs.Common.{ℤ, List, FitsSigned, ap, ◌∙◌, arith}
use Rattle.std.specs.Int.{w128}
use Rattle.std.proofs.lemmas.Int.{ints, to_z-of_z}
use Rattle.count_trees.specs.Costs.{cost_terms}
use Rattle.count_trees.specs.Rounds.{walks_in}
use Rattle.count_trees.proofs.CostLemmas.{bound_is}
use Rattle.count_trees.proofs.rounds.bound_of.Goals as goal

pub returns : goal.returns
returns c =
    let t = c.args.task.now in
    let near = c.term_sum.ensures.small in
    let fits : FitsSigned w128 c.term_sum.result = omega (arith, ints, near.0, near.1) in
    let sum = to_z-of_z w128 c.term_sum.result fits ∙ (c.term_sum.ensures.sum ∙ ap (λ (costs : List ℤ). cost_terms costs c.args.boxes.now) c.requires.task.costs) in
    bound_is t.model.now t.spot.now (walks_in t) c.args.boxes.now _ sum
