use Rattle.std.proofs.Common.{sym, ◌∙◌, subst}
use Rattle.multipliers.specs.Priced.{IsPriced}
use Rattle.multipliers.specs.Ranges.{AreInRange}
use Rattle.proof_check.proofs.FieldLemmas.{leasts_told}
use Rattle.proof_check.proofs.check.prepared.Goals as goal

pub returns-in-Ok-with_lists-clause-checked : goal.returns-in-Ok-with_lists-clause-checked
returns-in-Ok-with_lists-clause-checked c =
    let p = c.args.proof.now in
    record {
      priced = subst (IsPriced c.args.model.now p.cuts c.args.spot.now.boxes p.mult) (sym c.in-Ok-with_lists.ensures.priced) c.in-Ok.ensures.priced;
      range = subst (AreInRange c.args.spot.now.boxes) (sym c.in-Ok-with_lists.ensures.priced) c.in-Ok.ensures.range;
      near = c.in-Ok-with_lists.ensures.near;
      leasts = c.in-Ok-with_lists.ensures.leasts ∙ sym (leasts_told p.tables);
    }
