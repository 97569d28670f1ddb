use Rattle.std.proofs.Common.{◌^◌, ◌<◌, ℤ, to_z, of_z, w64, length, refl, arith}
use Rattle.std.proofs.lemmas.Int.{ints}
use Rattle.path_graph.specs.Fit.{int_at}
use Rattle.path_graph.specs.Within.{IsWithin}
use Rattle.route_model.specs.Parts.{term_at}
use Rattle.multipliers.proofs.UnitLemmas.{row_step, unit_small}
use Rattle.multipliers.proofs.units.take_row.Goals as goal

pub take_term-requires-clause-small : goal.take_term-requires-clause-small
take_term-requires-clause-small c j below =
    let mult : ℤ = to_z w64 (of_z w64 c.args.mult) in
    let small : IsWithin (2 ^ 48) mult = (omega (arith, ints, c.requires.mult.0, c.requires.mult.1), omega (arith, ints, c.requires.mult.0, c.requires.mult.1)) in
    unit_small (int_at c.args.units.now j) (int_at c.loop-term.units j) mult (length c.args.units.now) c.args.terms.now c.loop-term.term-index j
    c.requires.terms c.requires.few (omega arith) small (c.requires.small j (omega arith)) (c.loop-term.invariant j (omega arith))

pub loop-term-preserved : goal.loop-term-preserved
loop-term-preserved c j below =
    let t = term_at c.args.terms.now c.loop-term.term-index in
    let fits : t.var < length c.args.units.now = (c.requires.terms c.loop-term.term-index _ c.loop-term-test.true).var in
    row_step c.loop-term.units c.take_term.new.units (int_at c.args.units.now j) (to_z w64 (of_z w64 c.args.mult)) c.args.terms.now c.loop-term.term-index j t refl (omega arith) c.take_term.ensures (c.loop-term.invariant j below)
