-- The proof of a place that closed tables are.
use Rattle.route_model.specs.declared.places.Spot.{Spot}
use Rattle.route_model.specs.Parts.{ModelParts}
use Rattle.proof_rules.specs.Proofs.{AreBoth, IsProof, Proof}
use Rattle.certificate.specs.CertFits.{ProofFits}
use Rattle.cert_rules.specs.Meaning.{proof_of}
use Rattle.walk_list.specs.Listings.{IsProofWith, ListingFits}
use Rattle.place_nodes.specs.declared.proof.Known.{Known}
use Rattle.place_nodes.specs.declared.task.Task.{Task}

-- it is one there with pairs of whole lists, a certificate's text can tell it, and it has the parts from which walks are listed
pub record IsPlaceProof (m : ModelParts) (spot : Spot) (k : Known) : Type 0 where
  pub stands : IsProof m spot (proof_of m k.proof)
  pub both : AreBoth m (proof_of m k.proof)
  pub told : ProofFits m k.proof
  pub fits : ListingFits m spot k.priced k.near k.proof.cuts k.proof.mult.cuts k.proof.tables
  pub parts : IsProofWith m spot k.priced k.near k.proof.cuts k.proof.mult.cuts k.proof.tables (proof_of m k.proof)

-- the proof in the words of the rules, and the proofs that have its parts
abbrev pub proof_in : Task → Known → Proof
proof_in t k = proof_of t.model.now k.proof

abbrev pub IsOf : Task → Known → Proof → Type 0
IsOf t k = IsProofWith t.model.now t.spot.now k.priced k.near k.proof.cuts k.proof.mult.cuts k.proof.tables
