use Rattle.std.proofs.Common.{[], refl, subst}
use Rattle.multipliers.specs.Priced.{IsMultFault}
use Rattle.cert_check.proofs.PriceLemmas.{open_none}
use Rattle.cert_check.proofs.counts.count_prices.Goals as goal

pub returns-in-Err-OpenSide : goal.returns-in-Err-OpenSide
returns-in-Err-OpenSide c =
    let m = c.args.model.now in
    let e = c.in-Err-OpenSide in
    (refl, open_none m [] c.args.boxes.now c.args.mult.now e.field-0-0 (subst (IsMultFault m [] c.args.boxes.now c.args.mult.now) e.field-0-is e.ensures.fault))
