use Rattle.std.proofs.Common.{◌≡◌, ℤ, pos, to_z, of_z, w64, FitsSigned, [], length, ap, ◌∙◌, arith}
use Rattle.std.proofs.lemmas.Int.{ints, to_z-of_z}
use Rattle.std.proofs.lemmas.List.{get_or_default}
use Rattle.path_graph.specs.Fit.{int_at}
use Rattle.route_model.specs.declared.parts.Row.{Row}
use Rattle.route_model.specs.Parts.{row_at}
use Rattle.multipliers.proofs.UnitLemmas.{rows_step, rows_unit}
use Rattle.multipliers.proofs.units.take_rows.Goals as goal

pub take_row-requires-clause-small : goal.take_row-requires-clause-small
take_row-requires-clause-small c j below =
    let unit = rows_unit (int_at c.args.units.now j) (int_at c.loop-i.units j) (length c.args.units.now) c.args.mults.now c.args.rows.now c.loop-i.i j
    c.requires.fits c.requires.mults c.requires.range (omega arith) (c.requires.small j (omega arith)) (c.loop-i.invariant j (omega arith)) in
    (omega (arith, ints, unit.0), omega (arith, ints, unit.1))

pub loop-i-preserved : goal.loop-i-preserved
loop-i-preserved c j below =
    let mult : ℤ = int_at c.args.mults.now c.loop-i.i in
    let within = c.requires.range c.loop-i.i (pos 0) (omega arith) in
    let fits : FitsSigned w64 mult = omega (arith, ints, within.0, within.1) in
    let row : c.as_slice.result.now ≡ (row_at c.args.rows.now c.loop-i.i).terms =
    c.as_slice.ensures ∙ ap (λ (r : Row). r.terms) (c.index-rows-i.is ∙ get_or_default c.args.rows.now c.loop-i.i c.index-rows-i.result (row_at [] 0) c.loop-i-test.true) in
    let taken = c.take_row.ensures j (omega arith) in
    rows_step (int_at c.args.units.now j) (int_at c.loop-i.units j) (int_at c.take_row.new.units j) (to_z w64 (of_z w64 mult)) c.args.mults.now c.args.rows.now c.loop-i.i j
    (to_z-of_z w64 mult fits) (c.loop-i.invariant j below) (rw row at taken)

pub returns-clause-small : goal.returns-clause-small
returns-clause-small c j below =
    rows_unit (int_at c.args.units.now j) (int_at c.loop-i.units j) (length c.args.units.now) c.args.mults.now c.args.rows.now c.loop-i.i j
    c.requires.fits c.requires.mults c.requires.range (omega arith) (c.requires.small j below) (c.loop-i.invariant j below)
