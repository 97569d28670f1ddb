use Rattle.std.proofs.Common.{refl}
use Rattle.proof_check.proofs.FieldLemmas.{fault_told}
use Rattle.proof_check.proofs.side.prices.Goals as goal

pub returns-in-Err-OpenSide-clause-side : goal.returns-in-Err-OpenSide-clause-side
returns-in-Err-OpenSide-clause-side c = (
  refl,
  λ met. fault_told c.args.model.now c.args.proof.now.cuts c.as_slice-2.result.now c.args.spot.now.boxes c.args.proof.now.mult
      c.in-Err-OpenSide.field-0 c.in-Err-OpenSide.field-0-0 c.as_slice-2.ensures c.in-Err-OpenSide.field-0-is c.in-Err-OpenSide.ensures.fault met.1,
)
