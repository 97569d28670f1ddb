use Rattle.std.proofs.Common.{ap, arith}
use Rattle.std.proofs.lemmas.Int.{ints}
use Rattle.route_tasks.specs.Distance.{root_of}
use Rattle.route_tasks.proofs.DistanceLemmas.{root_is}
use Rattle.route_tasks.proofs.distances.distance.Goals as goal

pub returns-clause-value : goal.returns-clause-value
returns-clause-value c =
    let style = c.args.task.now.style in
    let root = root_is style c.square_of.result c.rounded.result c.rounded.ensures.rule in
    let same = ap (root_of style) c.square_of.ensures.square in
    let small = c.rounded.ensures.bound in
    omega (arith, ints, root, same, small)
