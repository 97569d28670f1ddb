use Rattle.std.proofs.Common.{◌≡◌, ◌^◌, ℤ, List, All, length, ap, sym, subst, ◌∙◌, arith}
use Rattle.path_graph.specs.Within.{IsWithin}
use Rattle.route_model.specs.declared.parts.Var.{Var}
use Rattle.route_model.specs.Fit.{RowsFit, VarsFit}
use Rattle.route_model.specs.Parts.{ModelParts}
use Rattle.multipliers.specs.Ranges.{AreUnits}
use Rattle.multipliers.proofs.UnitLemmas.{own_within, rows_fit, units_made, written_back}
use Rattle.multipliers.proofs.units.unit_costs.Goals as goal

pub take_rows-requires-clause-fits : goal.take_rows-requires-clause-fits
take_rows-requires-clause-fits c =
    rw (c.as_mut_slice.ensures.value, c.as_slice-4.ensures)
    (rows_fit c.as_slice.result.now c.as_slice-2.result.now c.in_ok-units.units.items c.model.inside.rows c.in_ok-units.ensures
    (subst (λ (vars : List Var). RowsFit (length vars) c.model.inside.rows) (sym c.as_slice.ensures) c.model.invariant.fits.rows))

pub take_rows-requires-clause-small : goal.take_rows-requires-clause-small
take_rows-requires-clause-small c =
    let vars = ap length c.as_slice.ensures in
    let declared = ap (λ (m : ModelParts). length m.vars) c.model.view_is in
    let mults = ap length c.as_slice-2.ensures in
    let same : length c.as_slice-2.result.now ≡ length c.as_slice.result.now = omega (arith, vars, declared, mults, c.requires.vars) in
    let range = subst (λ (xs : List ℤ). All (IsWithin (2 ^ 48)) xs) (sym c.as_slice-2.ensures) c.requires.each_var in
    let fits = subst VarsFit (sym c.as_slice.ensures) c.model.invariant.fits.vars in
    rw c.as_mut_slice.ensures.value (own_within c.as_slice.result.now c.as_slice-2.result.now c.in_ok-units.units.items fits same range c.in_ok-units.ensures)

pub returns : goal.returns
returns c =
    let kept : length c.take_rows.new.units ≡ length c.in_ok-units.units.items = c.take_rows.auto.units ∙ ap length c.as_mut_slice.ensures.value in
    let back = written_back c.in_ok-units.units.len c.take_rows.new.units c.in_ok-units.units.items c.in_ok-units.units.ok.0 kept in
    let each = rw c.as_mut_slice.ensures.value at c.take_rows.ensures.each in
    let small = rw c.as_mut_slice.ensures.value at c.take_rows.ensures.small in
    subst (AreUnits c.args.model.now c.args.mult.now) (sym back)
    (units_made c.args.model.now c.args.mult.now c.as_slice.result.now c.as_slice-2.result.now c.as_slice-4.result.now c.as_slice-3.result.now c.in_ok-units.units.items c.take_rows.new.units
    (c.as_slice.ensures ∙ ap (λ (m : ModelParts). m.vars) c.model.view_is) c.as_slice-2.ensures
    (c.as_slice-4.ensures ∙ ap (λ (m : ModelParts). m.rows) c.model.view_is) c.as_slice-3.ensures c.in_ok-units.ensures kept each small)
