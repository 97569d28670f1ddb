use Rattle.std.proofs.Common.{arith, rules, ◌≤◌, length}
use Rattle.rank1_cuts.proofs.FitLemmas.{numerator_fault, all_fit}
use Rattle.rank1_cuts.proofs.fit.first_fault.Goals as goal

pub returns-in-Some-first_bad_numerator : goal.returns-in-Some-first_bad_numerator
returns-in-Some-first_bad_numerator c =
    let sets = c.as_slice-sets.result.now in
    let some : 1 ≤ length sets = search rules in
    numerator_fault c.args.cut.now sets c.in-Some-first_bad_numerator.place c.as_slice-sets.ensures (omega arith, omega arith) some (omega arith) c.in_default.ensures c.in-Some-first_bad_numerator.ensures

pub returns : goal.returns
returns c =
    let sets = c.as_slice-sets.result.now in
    let some : 1 ≤ length sets = search rules in
    all_fit c.args.cut.now sets c.as_slice-sets.ensures (omega arith, omega arith) some (omega arith) c.in_default.ensures c.in_default-first_bad_numerator.ensures
