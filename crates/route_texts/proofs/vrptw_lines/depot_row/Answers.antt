use Rattle.std.proofs.Common.{◌≡◌, pos, not, true, false, Bool, refl, rules, w32, FitsSigned}
use Rattle.std.proofs.lemmas.Int.{to_z-of_z}
use Rattle.route_tasks.specs.Fit.{StopFits}
use Rattle.std.specs.Ordering.{int_eq}
use Rattle.std.proofs.lemmas.Bool.Decides.{Decides-int_eq}
use Rattle.route_texts.proofs.VrptwFitLemmas.{fits-depot}
use Rattle.route_texts.proofs.vrptw_lines.depot_row.Goals as goal

is_true : (b : Bool) → not b ≡ false → b ≡ true
is_true true h = refl
is_true false h = cc

pub returns-clause-fits : goal.returns-clause-fits
returns-clause-fits c =
    let s = c.in_ok-depot.depot in
    let stop_fits : StopFits s = c.in_ok-depot.ensures.fits.stop_fits in
    let range : FitsSigned w32 s.demand = search rules in
    let test : int_eq s.demand (pos 0) ≡ true = is_true _ (rw (c.is_zero.ensures, to_z-of_z w32 s.demand range) at c.in_ok-fault_if.ensures.passes) in
    let empty : s.demand ≡ pos 0 = (Decides-int_eq s.demand (pos 0)).0 test in
    fits-depot c.args.draft.now s c.requires.fits c.requires.none c.in_ok-depot.ensures.fits empty
