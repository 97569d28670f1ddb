use Rattle.std.proofs.Common.{◌-◌, ◌<◌, length, subst, arith}
use Rattle.route_tasks.specs.Fit.{StopFits}
use Rattle.route_tasks.proofs.places.place.Goals as goal

pub returns-clause-fits : goal.returns-clause-fits
returns-clause-fits c =
    let stops = c.args.task.now.stops in
    let there : c.args.v - 1 < length stops = omega (arith, c.customer_count.ensures.count) in
    subst StopFits (c.at.ensures c.at.result.now) (c.requires.each_fits (c.args.v - 1) c.at.result.now there)
