use Rattle.std.proofs.Common.{◌≢◌, length, arith}
use Rattle.std.proofs.lemmas.Bool.Decides.{nat_tests}
use Rattle.route_tasks.specs.declared.limits.TheConstants.{MAX_CUSTOMERS}
use Rattle.route_texts.proofs.VrptwFitLemmas.{fits-customer}
use Rattle.route_texts.proofs.vrptw_lines.customer_row.Goals as goal

pub returns-clause-fits : goal.returns-clause-fits
returns-clause-fits c =
    let d = c.args.draft.now in
    let room : length d.stops ≢ MAX_CUSTOMERS = λ e. absurd (grind (arith, nat_tests, c.in_ok-fault_if.ensures.passes, c.len.ensures)) in
    rw c.in_ok-push.ensures.ok (fits-customer d c.in_ok-stop.stop c.requires c.in_ok-stop.ensures.fits room)
