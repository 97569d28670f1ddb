-- What is known of a proof that was checked at a place.
use Rattle.std.specs.Prelude.{◌≡◌, ℕ, ℤ, Option, All}
use Rattle.rank1_cuts.specs.Fit.{CutFits}
use Rattle.route_model.specs.declared.places.Spot.{Spot}
use Rattle.route_model.specs.Parts.{ModelParts}
use Rattle.route_model.specs.Places.{SpotFits}
use Rattle.multipliers.specs.Priced.{IsPriced}
use Rattle.multipliers.specs.Ranges.{AreInRange}
use Rattle.label_rules.specs.Labels.{Setting}
use Rattle.proof_rules.specs.Proofs.{IsProof, Table, bound_at, leasts_of, setting_of, table_at, walk_limit}
use Rattle.proof_rules.specs.Proofs.{Proof as ProofParts}
use Rattle.certificate.specs.declared.cert.Proof.{Proof}
use Rattle.cert_rules.specs.Meaning.{near_lists, proof_of}
use Rattle.proof_check.specs.declared.checked.Checked.{Checked}
use Rattle.proof_check.specs.declared.proved.Proved.{Proved}
use Rattle.proof_check.specs.Keeps.{ProofKeeps}

-- the prices are those of the multipliers at the place, the near lists and the leasts those of the proof
pub record IsCheckedOf (m : ModelParts) (spot : Spot) (p : Proof) (c : Checked) : Type 0 where
  pub priced : IsPriced m p.cuts spot.boxes p.mult c.priced
  pub range : AreInRange spot.boxes c.priced
  pub near : c.near ≡ near_lists m p.near
  pub leasts : c.leasts ≡ leasts_of (proof_of m p)

-- the proof in the words of its rules
abbrev pub proof_in : Proved → ProofParts
proof_in at = proof_of at.model.now at.proof.now

-- a place with a proof whose cuts fit and that was priced there
pub record IsReady (at : Proved) : Type 0 where
  pub spot : SpotFits at.model.now at.spot.now
  pub keeps : ProofKeeps at.model.now at.proof.now
  pub cuts : All CutFits at.proof.now.cuts
  pub checked : IsCheckedOf at.model.now at.spot.now at.proof.now at.checked.now

-- and that is valid there
pub record IsProved (at : Proved) : Type 0 where
  pub ready : IsReady at
  pub proof : IsProof at.model.now at.spot.now (proof_in at)

-- what labels of a graph see there, and the table of the graph
abbrev pub setting_in : Proved → ℕ → Setting
setting_in at g = setting_of at.model.now at.spot.now (proof_in at) g

abbrev pub table_in : Proved → ℕ → Table
table_in at g = table_at (proof_in at).tables g

-- the bound of the place, and the limit of a walk of a graph against z
abbrev pub bound_in : Proved → Option ℤ
bound_in at = bound_at at.model.now at.spot.now (proof_in at)

abbrev pub limit_in : Proved → ℤ → ℕ → Option ℤ
limit_in at z g = walk_limit at.model.now at.spot.now (proof_in at) z g
