use Rattle.std.proofs.Common.{◌≡◌, length, pos, w32, FitsSigned, rules, arith, ap, ◌∙◌}
use Rattle.std.proofs.lemmas.Int.{to_z-of_z}
use Rattle.route_tasks.specs.declared.limits.TheConstants.{MAX_LOAD}
use Rattle.route_tasks.specs.Fit.{IsFromTo}
use Rattle.route_texts.specs.CvrpText.{customers_of}
use Rattle.route_texts.proofs.CvrpFitLemmas.{fits-task}
use Rattle.route_texts.proofs.cvrp_reader.task_of.Goals as goal

pub overflow_cast-result : goal.overflow_cast-result
overflow_cast-result c =
    let fits = fits-task c.args.draft.now c.in-Some.capacity c.in-Some-depot.depot c.requires c.in-Some.is c.in-Some-depot.is in
    let few = fits.few_customers in
    let stops : c.in_ok-stops.stops ≡ customers_of c.in-Some-depot.depot c.args.draft.now.nodes = rw c.as_slice.ensures at c.in_ok-stops.ensures in
    let count = c.len.ensures ∙ ap length stops in
    omega (arith, few, count)

pub returns-clause-fits : goal.returns-clause-fits
returns-clause-fits c =
    let fits = fits-task c.args.draft.now c.in-Some.capacity c.in-Some-depot.depot c.requires c.in-Some.is c.in-Some-depot.is in
    let within : IsFromTo (pos 1) MAX_LOAD c.in-Some.capacity = fits.capacity_fits in
    let range : FitsSigned w32 c.in-Some.capacity = search rules in
    let stops : c.in_ok-stops.stops ≡ customers_of c.in-Some-depot.depot c.args.draft.now.nodes = rw c.as_slice.ensures at c.in_ok-stops.ensures in
    rw (to_z-of_z w32 c.in-Some.capacity range, c.len.ensures, c.stop_of.ensures, c.node_at.ensures, stops) fits
