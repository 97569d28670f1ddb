-- What is known of a proof that was checked, and why one is refused.
use Rattle.std.specs.Prelude.{Bool}
use Rattle.route_model.specs.declared.places.Spot.{Spot}
use Rattle.route_model.specs.Parts.{ModelParts}
use Rattle.certificate.specs.declared.cert.Proof.{Proof}
use Rattle.proof_check.specs.declared.checked.Checked.{Checked}
use Rattle.proof_check.specs.declared.error.ProofError.{ProofError}
use Rattle.proof_check.specs.declared.error.ProofError.TheVariants as proof
use Rattle.proof_check.specs.Checked.{IsCheckedOf}
use Rattle.proof_check.specs.Demands.{IsSound}
use Rattle.cert_check.specs.declared.fault.CheckKind.TheVariants as kind
use Rattle.cert_check.specs.declared.fault.NodeError.{NodeError}
use Rattle.cert_check.specs.declared.fault.NodeError.TheVariants.{Fault, Memory}
use Rattle.cert_check.specs.Faults.{IsProofFault}

-- the error of a node whose proof has this error
abbrev pub error_of : ProofError → NodeError
error_of proof.Side = Fault kind.Side
error_of proof.Root = Fault kind.Root
error_of proof.Cover = Fault kind.Cover
error_of proof.Sink = Fault kind.Sink
error_of proof.Memory = Memory

-- why a proof is refused at a place
abbrev pub IsProofError : ModelParts → Spot → Bool → Proof → NodeError → Type 0
IsProofError m spot whole p (Fault k) = IsProofFault m spot whole p k
IsProofError m spot whole p Memory = Unit {0}

-- a proof is valid at a place, and this was made of it
pub record IsChecked (m : ModelParts) (spot : Spot) (whole : Bool) (p : Proof) (c : Checked) : Type 0 where
  pub sound : IsSound m spot p whole
  pub of : IsCheckedOf m spot p c
