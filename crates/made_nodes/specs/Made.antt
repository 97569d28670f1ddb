-- Nodes that a search made: what each keeps of its item, and when it stays as it is against a lower cost to beat.
use Rattle.std.specs.Prelude.{◌≡◌, ℕ, ℤ, pos, ◌-ℤ◌, ◌≤ℤ◌, None, Some, List}
use Rattle.route_model.specs.Parts.{ModelParts}
use Rattle.multipliers.specs.Quantities.{scaled}
use Rattle.proof_rules.specs.Grows.{Rules}
use Rattle.proof_rules.specs.Nodes.{AtCounts, AtPlace, IsNode, Item}
use Rattle.proof_rules.specs.NodeWalls.{DropsSome}
use Rattle.proof_rules.specs.OpenTrees.{HasProof, Valued, valued_children}
use Rattle.proof_rules.specs.Proofs.{bound_at}
use Rattle.certificate.specs.declared.cert.NodeForm.{NodeForm}
use Rattle.certificate.specs.declared.cert.NodeForm.TheVariants as node
use Rattle.certificate.specs.CertFits.{NodeIsTold, ProofFits}
use Rattle.cert_rules.specs.Meaning.{node_of, proof_of}
use Rattle.cert_check.specs.Verdicts.{IsNamedNode}
use Rattle.made_nodes.specs.declared.node.MadeNode.{MadeNode}
use Rattle.made_nodes.specs.Zeros.{zero_bound}

-- how many items a node of this form opens
abbrev pub child_count : NodeForm → ℕ
child_count (node.Split split proof) = 2
child_count (node.Close p) = 0
child_count (node.Fix p arcs) = 1
child_count (node.List p tries) = 1
child_count (node.CountSplit i d) = 2
child_count (node.CountClose mult) = 0
child_count node.Point = 0

-- what the bound of a node is: that of its proof, where it carries one and opens items; at a split of counts that of
-- multipliers that are all 0
abbrev pub HasBound : ModelParts → Item → NodeForm → ℤ → Type 0
HasBound m (AtPlace spot) (node.Split split None) bound = ⊥
HasBound m (AtPlace spot) (node.Split split (Some p)) bound = bound_at m spot (proof_of m p) ≡ Some bound
HasBound m (AtPlace spot) (node.Fix p arcs) bound = bound_at m spot (proof_of m p) ≡ Some bound
HasBound m (AtPlace spot) (node.List p tries) bound = bound_at m spot (proof_of m p) ≡ Some bound
HasBound m (AtCounts spot walks boxes) (node.CountSplit i d) bound = bound ≡ zero_bound m spot walks boxes
HasBound m item form bound = Unit {0}

-- a fix drops an arc that is not shut
abbrev pub Drops : ModelParts → Item → NodeForm → Type 0
Drops m (AtPlace spot) (node.Fix p arcs) = DropsSome m spot arcs
Drops m item form = Unit {0}

-- a certificate's text can tell the proof that a split carries: the split's own line does not, but a node that closes the
-- place by it does
abbrev pub ProofIsTold : ModelParts → NodeForm → Type 0
ProofIsTold m (node.Split split (Some p)) = ProofFits m p
ProofIsTold m form = Unit {0}

-- a node stands at an item against z, with its bound, and a certificate's text can tell it
pub record IsMade (m : ModelParts) (z : ℤ) (item : Item) (made : MadeNode) : Type 0 where
  pub is_node : IsNode m z item (node_of m made.form)
  pub has_proof : HasProof m item (node_of m made.form)
  pub bound : HasBound m item made.form made.bound
  pub drops : Drops m item made.form
  pub named : IsNamedNode m made.form
  pub told : NodeIsTold m made.form
  pub proof_told : ProofIsTold m made.form

-- against z its bound does not close its item, if it opens others
abbrev pub StaysOpen : ℤ → MadeNode → Type 0
StaysOpen z made = StaysAt z made.form made.bound
  where
    StaysAt : ℤ → NodeForm → ℤ → Type 0
    StaysAt z (node.Split split proof) bound = bound ≤ℤ scaled (z -ℤ pos 1)
    StaysAt z (node.Fix p arcs) bound = bound ≤ℤ scaled (z -ℤ pos 1)
    StaysAt z (node.List p tries) bound = bound ≤ℤ scaled (z -ℤ pos 1)
    StaysAt z (node.CountSplit i d) bound = bound ≤ℤ scaled (z -ℤ pos 1)
    StaysAt z form bound = Unit {0}

-- the rules of trees of such nodes, at items with values
abbrev pub made_children : ModelParts → Valued → MadeNode → List Valued
made_children m i made = valued_children m i (node_of m made.form)

abbrev pub made_rules : ModelParts → ℤ → Rules Valued MadeNode
made_rules m z = record { Fits = λ i made. IsMade m z i.item made; children = made_children m }
