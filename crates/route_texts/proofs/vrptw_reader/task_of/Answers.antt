use Rattle.std.proofs.Common.{◌≢◌, [], Some, w32, rules}
use Rattle.std.proofs.lemmas.Int.{to_z-of_z}
use Rattle.std.proofs.Common.{FitsSigned}
use Rattle.route_texts.specs.Vrptw.{FleetFits, VrptwFits}
use Rattle.route_texts.proofs.VrptwFitLemmas.{fits-task}
use Rattle.route_texts.proofs.vrptw_reader.task_of.Goals as goal

pub returns-clause-fits : goal.returns-clause-fits
returns-clause-fits c =
    let d = c.args.draft in
    let fleet = c.in-Some.fleet in
    let depot = c.in-Some-depot.depot in
    let some : d.stops ≢ [] = λ e. cc (c.is_empty.ensures.1 e, c.if-is_empty.false) in
    let all : VrptwFits (record { fleet = Some fleet; depot = Some depot; stops = d.stops }) = rw (c.in-Some.is, c.in-Some-depot.is) at c.requires in
    let fits : FleetFits fleet = all.fleet_fits in
    let range : FitsSigned w32 fleet.capacity = search rules in
    rw (to_z-of_z w32 fleet.capacity range) (fits-task fleet depot d.stops all some)
