-- What a node that stands is in the words of the rules, and that a node with a fault does not stand.
use Rattle.std.proofs.Common.{ℤ, Bool, true, false, None, Some, List, length, inl, inr, ◌∷◌, refl, subst, sym, arith}
use Rattle.std.specs.Prelude.{Contains, IsTrue}
use Rattle.std.proofs.lemmas.List.Elements.{All-contains, Contains-append_right}
use Rattle.proof_check.specs.Demands.{Demand, IsMet, demands}
use Rattle.proof_check.proofs.DemandLemmas.{demands_law}
use Rattle.cert_check.proofs.KeepLemmas.{proof_keeps}
use Rattle.route_model.specs.declared.places.Spot.{Spot}
use Rattle.route_model.specs.Parts.{ModelParts}
use Rattle.proof_rules.specs.Nodes.{AtCounts, AtPlace, IsNode, Item}
use Rattle.proof_rules.specs.Proofs.{AreBoth, IsProof}
use Rattle.certificate.specs.declared.cert.NodeForm.{NodeForm}
use Rattle.certificate.specs.declared.cert.NodeForm.TheVariants as node
use Rattle.certificate.specs.declared.cert.Proof.{Proof}
use Rattle.cert_rules.specs.Meaning.{node_of, proof_of}
use Rattle.cert_check.specs.declared.fault.CheckKind.{CheckKind}
use Rattle.cert_check.specs.Faults.{IsNodeFault, IsProofFault, Stands}
use Rattle.certificate.specs.CertFits.{NodeIsTold, ProofFits}
use Rattle.cert_check.specs.Verdicts.{IsNamedNode}

pub stands_parts : (m : ModelParts) (z : ℤ) (item : Item) (form : NodeForm) → Stands m z item form → IsNode m z item (node_of m form) × IsNamedNode m form
stands_parts m z item (node.List p tries) s = s
stands_parts m z item (node.Split split p) s = (s, tt)
stands_parts m z item (node.Close p) s = (s, tt)
stands_parts m z item (node.Fix p arcs) s = (s, tt)
stands_parts m z item (node.CountSplit i d) s = (s, tt)
stands_parts m z item (node.CountClose mult) s = (s, tt)
stands_parts m z item node.Point s = (s, tt)

pub stands_from : (m : ModelParts) (z : ℤ) (item : Item) (form : NodeForm) → IsNode m z item (node_of m form) → IsNamedNode m form → Stands m z item form
stands_from m z item (node.List p tries) s named = (s, named)
stands_from m z item (node.Split split p) s named = s
stands_from m z item (node.Close p) s named = s
stands_from m z item (node.Fix p arcs) s named = s
stands_from m z item (node.CountSplit i d) s named = s
stands_from m z item (node.CountClose mult) s named = s
stands_from m z item node.Point s named = s

-- a proof with a fault is not valid
pub proof_refuses : (m : ModelParts) (spot : Spot) (whole : Bool) (p : Proof) (k : CheckKind) → ProofFits m p → IsProofFault m spot whole p k
    → IsProof m spot (proof_of m p) → (IsTrue whole → AreBoth m (proof_of m p)) → ⊥
proof_refuses m spot whole p k fits fault proof both =
    let d : Demand = fault.0 in
    let all : List Demand = demands (length m.graphs) in
    let met = (demands_law m spot p whole (proof_keeps m p fits)).1 (record { proof = proof; both = both }) in
    let here : Contains (d ∷ fault.2.after) d = (0, omega arith, refl) in
    let among = subst (λ (ds : List Demand). Contains ds d) (sym fault.2.order) (Contains-append_right fault.2.before (d ∷ fault.2.after) d here) in
    fault.2.unmet (All-contains (IsMet m spot p whole) all d met among)

pub node_refuses : (m : ModelParts) (z : ℤ) (item : Item) (form : NodeForm) (k : CheckKind) → NodeIsTold m form → IsNodeFault m z item form k → ¬ (Stands m z item form)
node_refuses m z (AtPlace spot) (node.Split split None) k told fault s = fault.1 s
node_refuses m z (AtPlace spot) (node.Split split (Some p)) k told fault s = fault.1 s
node_refuses m z (AtPlace spot) (node.Close p) k told (inl fault) s = proof_refuses m spot false p k told fault s.0 (λ t. cc)
node_refuses m z (AtPlace spot) (node.Close p) k told (inr fault) s = fault.1.1 s.1
node_refuses m z (AtPlace spot) (node.Fix p arcs) k told (inl fault) s = proof_refuses m spot true p k told.0 fault s.proof (λ t. s.both)
node_refuses m z (AtPlace spot) (node.Fix p arcs) k told (inr fault) s = fault.2.1 s.each
node_refuses m z (AtPlace spot) (node.List p tries) k told (inl fault) s = proof_refuses m spot true p k told.0 fault s.0.proof (λ t. s.0.both)
node_refuses m z (AtPlace spot) (node.List p tries) k told (inr fault) s = fault.2.1 (record { named = s.1; each = s.0.each })
node_refuses m z (AtPlace spot) (node.CountSplit i d) k told fault s = s
node_refuses m z (AtPlace spot) (node.CountClose mult) k told fault s = s
node_refuses m z (AtPlace spot) node.Point k told fault s = s
node_refuses m z (AtCounts spot walks boxes) (node.Split split None) k told fault s = s
node_refuses m z (AtCounts spot walks boxes) (node.Split split (Some p)) k told fault s = s
node_refuses m z (AtCounts spot walks boxes) (node.Close p) k told fault s = s
node_refuses m z (AtCounts spot walks boxes) (node.Fix p arcs) k told fault s = s
node_refuses m z (AtCounts spot walks boxes) (node.List p tries) k told fault s = s.0
node_refuses m z (AtCounts spot walks boxes) (node.CountSplit i d) k told fault s = fault.1 s
node_refuses m z (AtCounts spot walks boxes) (node.CountClose mult) k told (inl fault) s = fault.1 s.defined
node_refuses m z (AtCounts spot walks boxes) (node.CountClose mult) k told (inr fault) s = fault.1.1 (record { near = s.near; above = s.above })
node_refuses m z (AtCounts spot walks boxes) node.Point k told fault s = fault.1 s
