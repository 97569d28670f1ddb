use Rattle.std.proofs.Common.{◌≡◌, false, not, pos, w32, FitsSigned, rules, sym, ◌∙◌}
use Rattle.std.specs.Prelude.{◌&&◌}
use Rattle.std.specs.Ordering.{int_eq}
use Rattle.std.proofs.lemmas.Int.{to_z-of_z}
use Rattle.route_tasks.specs.declared.limits.TheConstants.{MAX_LOAD}
use Rattle.route_texts.specs.Gives.{IsWithinEnds}
use Rattle.route_texts.specs.CvrpLines.{is_depot}
use Rattle.route_texts.proofs.CvrpFitLemmas.{fits-demand}
use Rattle.route_texts.proofs.cvrp_lines.take_demand.Goals as goal

pub returns-clause-fits : goal.returns-clause-fits
returns-clause-fits c =
    let d = c.args.draft.now in
    let number = c.in_ok-number.number in
    let z = c.in_ok-number.demand in
    let within : IsWithinEnds (pos 0) MAX_LOAD z = c.in_ok-number.ensures.fits in
    let range : FitsSigned w32 z = search rules in
    let test : (is_depot d.depot number && not (int_eq z (pos 0))) ≡ false = sym (rw (to_z-of_z w32 z range) at c.is_loaded_depot.ensures) ∙ c.in_ok-fault_if-2.ensures.passes in
    rw (c.load.ensures, to_z-of_z w32 z range) (fits-demand d number z c.requires c.in_ok-number.ensures.within within test)
