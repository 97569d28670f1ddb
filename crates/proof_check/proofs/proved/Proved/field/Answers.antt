use Rattle.std.proofs.Common.{List, sym, subst}
use Rattle.rank1_cuts.specs.declared.cut.Cut.{Cut}
use Rattle.multipliers.specs.Priced.{IsPriced}
use Rattle.multipliers.specs.Ranges.{CutsFit}
use Rattle.proof_check.proofs.FieldLemmas.{cuts_of_ready, field_setting, near_of_ready}
use Rattle.proof_check.proofs.proved.Proved.field.Goals as goal

pub returns-clause-fits : goal.returns-clause-fits
returns-clause-fits c =
    let at = c.args.self.now in
    let ready = c.requires.ready in
    record {
      graph = c.requires.graph;
      spot = ready.spot;
      mult = at.proof.now.mult;
      mult_fits = ready.keeps.mult;
      cuts = subst (λ (cuts : List Cut). CutsFit cuts at.proof.now.mult) (sym c.as_slice.ensures) (cuts_of_ready at ready);
      weights = sym c.as_slice-2.ensures;
      priced = subst (λ (cuts : List Cut). IsPriced at.model.now cuts at.spot.now.boxes at.proof.now.mult at.checked.now.priced) (sym c.as_slice.ensures) ready.checked.priced;
      near = near_of_ready at ready;
    }

pub returns-clause-setting : goal.returns-clause-setting
returns-clause-setting c =
    let at = c.args.self.now in
    field_setting at.model.now at.spot.now at.proof.now at.checked.now c.args.g c.as_slice.result.now c.as_slice-2.result.now c.requires.ready.checked c.as_slice.ensures c.as_slice-2.ensures
