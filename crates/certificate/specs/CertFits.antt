-- Which certificates a text can tell of a model. Whether they prove their claims is another question.
use Rattle.std.specs.Prelude.{◌≡◌, ℕ, ◌<◌, ◌≤◌, List, [], length, All}
use Rattle.route_model.specs.declared.limits.TheConstants.{MAX_MULT}
use Rattle.route_model.specs.Parts.{ModelParts}
use Rattle.rank1_cuts.specs.declared.cut.Cut.{Cut}
use Rattle.multipliers.specs.Ranges.{MultFits}
use Rattle.line_text.specs.Items.{EachAfter}
use Rattle.model_text.specs.PathText.{PlanFits}
use Rattle.certificate.specs.declared.cert.Cert.{Cert}
use Rattle.certificate.specs.declared.cert.NodeForm.{NodeForm}
use Rattle.certificate.specs.declared.cert.NodeForm.TheVariants as node
use Rattle.certificate.specs.declared.cert.Proof.{Proof}
use Rattle.certificate.specs.declared.limits.TheConstants.{MAX_NODES, MAX_CUTS}
use Rattle.certificate.specs.Sizes.{sizes_of}
use Rattle.certificate.specs.Draft.{shape_of}
use Rattle.certificate.specs.CertText.{IsSigned, SetFits, CutSetFits, NearMay, TableMay, LabelsFit, TrieFits, QuantityFits, GoalFits}

-- a cut of known packing sets; whether it fits is left to the check
pub record CutIsKnown (sets : ℕ) (c : Cut) : Type 0 where
  pub den : c.den ≤ 255
  pub count : length c.sets ≤ 4294967295
  pub each : All (CutSetFits sets) c.sets
  pub memory : SetFits sets c.memory

-- one multiplier, at most MAX_MULT below 0, for each of so many cuts
pub record WeightsFit (cuts : ℕ) (weights : List ℕ) : Type 0 where
  pub count : length weights ≡ cuts
  pub each : All (λ y. y ≤ MAX_MULT) weights

-- a proof: its multipliers, cuts, near lists and tables
pub record ProofFits (m : ModelParts) (p : Proof) : Type 0 where
  pub mult : MultFits m p.mult
  pub weights : WeightsFit (length p.cuts) p.mult.cuts
  pub cuts : All (CutIsKnown m.sets) p.cuts
  pub few_cuts : length p.cuts ≤ MAX_CUTS
  pub near : EachAfter (NearMay (sizes_of m)) [] p.near
  pub tables : EachAfter (TableMay (sizes_of m)) [] p.tables
  pub labels : All (λ t. LabelsFit (shape_of (sizes_of m) (length p.cuts) t) t) p.tables

-- a dropped arc of a known graph; whether the graph has it is left to the check
abbrev pub DropIsKnown : ModelParts → ℕ × ℕ → Type 0
DropIsKnown m d = (d.0 < length m.graphs) × (d.1 ≤ 4294967295)

-- a node: the proof of a split is not told, and a count close has no cut
abbrev pub NodeIsTold : ModelParts → NodeForm → Type 0
NodeIsTold m (node.Split split proof) = QuantityFits (sizes_of m) split.quantity × IsSigned 63 split.at
NodeIsTold m (node.Close p) = ProofFits m p
NodeIsTold m (node.Fix p drops) = ProofFits m p × All (DropIsKnown m) drops
NodeIsTold m (node.List p tries) = ProofFits m p × All (TrieFits (sizes_of m)) tries
NodeIsTold m (node.CountSplit walk at) = (walk ≤ 4294967295) × IsSigned 63 at
NodeIsTold m (node.CountClose mult) = MultFits m mult × (mult.cuts ≡ [])
NodeIsTold m node.Point = Unit {0}

-- a certificate: its claim and plan, and its nodes
pub record CertFits (m : ModelParts) (c : Cert) : Type 0 where
  pub goal : GoalFits c.goal c.plan
  pub plan : PlanFits c.plan
  pub few : length c.nodes ≤ MAX_NODES
  pub each : All (λ n. NodeIsTold m n.form) c.nodes
