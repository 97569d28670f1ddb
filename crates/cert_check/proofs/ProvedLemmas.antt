-- What a checked proof shows of a node, and what an error of it says of the node.
use Rattle.std.proofs.Common.{◌≡◌, ℤ, Bool, List, refl, inl, ◌∙◌, ap}
use Rattle.std.specs.Prelude.{true, false}
use Rattle.route_model.specs.declared.places.Spot.{Spot}
use Rattle.route_model.specs.Parts.{ModelParts}
use Rattle.route_model.specs.PlaceParts.{NamedArc}
use Rattle.route_model.specs.Places.{SpotFits}
use Rattle.proof_rules.specs.Nodes.{AtPlace}
use Rattle.certificate.specs.declared.cert.NodeForm.TheVariants as node
use Rattle.certificate.specs.declared.cert.Proof.{Proof}
use Rattle.certificate.specs.declared.cert.Trie.{Trie}
use Rattle.certificate.specs.CertFits.{ProofFits}
use Rattle.proof_check.specs.declared.error.ProofError.{ProofError}
use Rattle.proof_check.specs.declared.error.ProofError.TheVariants as proof
use Rattle.proof_check.specs.declared.proved.Proved.{Proved}
use Rattle.proof_check.specs.Checked.{IsProved}
use Rattle.proof_check.specs.Demands.{Demand, Extensions, Least, Roots, Sides}
use Rattle.proof_check.specs.Demands.{IsProofFault as IsFaultOf}
use Rattle.cert_check.specs.declared.fault.CheckKind.{CheckKind}
use Rattle.cert_check.specs.declared.fault.CheckKind.TheVariants as kind
use Rattle.cert_check.specs.declared.fault.NodeError.{NodeError}
use Rattle.cert_check.specs.declared.fault.NodeError.TheVariants.{Fault, Memory}
use Rattle.cert_check.specs.Faults.{kind_of}
use Rattle.cert_check.specs.Proofs.{IsChecked, IsProofError, error_of}
use Rattle.cert_check.specs.Reads.{IsNodeError}
use Rattle.cert_check.proofs.KeepLemmas.{proof_keeps}
use Rattle.proof_check.specs.Demands.{fault_of}

-- the kind of an unmet demand
kind_told : (d : Demand) (e : ProofError) (k : CheckKind) → fault_of d ≡ e → error_of e ≡ Fault k → k ≡ kind_of d
kind_told Sides e k is error = let f : Fault kind.Side ≡ Fault k = ap error_of is ∙ error in cc
kind_told (Roots g) e k is error = let f : Fault kind.Root ≡ Fault k = ap error_of is ∙ error in cc
kind_told (Extensions g) e k is error = let f : Fault kind.Cover ≡ Fault k = ap error_of is ∙ error in cc
kind_told (Least g) e k is error = let f : Fault kind.Sink ≡ Fault k = ap error_of is ∙ error in cc

pub error_told : (m : ModelParts) (spot : Spot) (p : Proof) (whole : Bool) (e : ProofError) → IsFaultOf m spot p whole e → IsProofError m spot whole p (error_of e)
error_told m spot p whole proof.Side f = (f.0, kind_told f.0 proof.Side kind.Side f.1 refl, f.2)
error_told m spot p whole proof.Root f = (f.0, kind_told f.0 proof.Root kind.Root f.1 refl, f.2)
error_told m spot p whole proof.Cover f = (f.0, kind_told f.0 proof.Cover kind.Cover f.1 refl, f.2)
error_told m spot p whole proof.Sink f = (f.0, kind_told f.0 proof.Sink kind.Sink f.1 refl, f.2)
error_told m spot p whole proof.Memory f = tt

-- errors of a proof are those of its node
pub close_error : (m : ModelParts) (z : ℤ) (spot : Spot) (p : Proof) (e : NodeError) → IsProofError m spot false p e → IsNodeError m z (AtPlace spot) (node.Close p) e
close_error m z spot p (Fault k) f = inl f
close_error m z spot p Memory f = tt

pub fix_error : (m : ModelParts) (z : ℤ) (spot : Spot) (p : Proof) (arcs : List NamedArc) (e : NodeError) → IsProofError m spot true p e → IsNodeError m z (AtPlace spot) (node.Fix p arcs) e
fix_error m z spot p arcs (Fault k) f = inl f
fix_error m z spot p arcs Memory f = tt

pub list_error : (m : ModelParts) (z : ℤ) (spot : Spot) (p : Proof) (tries : List Trie) (e : NodeError) → IsProofError m spot true p e → IsNodeError m z (AtPlace spot) (node.List p tries) e
list_error m z spot p tries (Fault k) f = inl f
list_error m z spot p tries Memory f = tt

-- a checked proof is proved
pub proved_by : (at : Proved) (whole : Bool) → SpotFits at.model.now at.spot.now → ProofFits at.model.now at.proof.now → IsChecked at.model.now at.spot.now whole at.proof.now at.checked.now → IsProved at
proved_by at whole spot told c = record {
  ready = record { spot = spot; keeps = proof_keeps at.model.now at.proof.now told; cuts = c.sound.proof.cuts_fit; checked = c.of };
  proof = c.sound.proof;
}
