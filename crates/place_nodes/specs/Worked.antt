-- What comes of working an open place: a node with what it opens, or a wall.
use Rattle.std.specs.Prelude.{◌≡◌, ℕ, ℤ, List, All, reverse}
use Rattle.route_model.specs.declared.places.Spot.{Spot}
use Rattle.route_model.specs.Parts.{ModelParts}
use Rattle.proof_rules.specs.Nodes.{AtPlace}
use Rattle.proof_rules.specs.OpenTrees.{Valued}
use Rattle.proof_rules.specs.PrefixTrees.{Step}
use Rattle.proof_rules.specs.Proofs.{Proof}
use Rattle.certificate.specs.declared.cert.NodeForm.{NodeForm}
use Rattle.certificate.specs.declared.cert.NodeForm.TheVariants as node
use Rattle.search_rules.specs.Completeness.{IsCutOffList}
use Rattle.made_nodes.specs.declared.node.MadeNode.{MadeNode}
use Rattle.made_nodes.specs.Made.{IsMade, StaysOpen, made_children}
use Rattle.search_tree.specs.declared.places.OpenPlace.{OpenPlace}
use Rattle.search_tree.specs.Places.{IsOpenIn, all_valued}
use Rattle.place_nodes.specs.declared.work.Worked.{Worked}
use Rattle.place_nodes.specs.declared.work.Worked.TheVariants.{Memory, Node, Wall}
use Rattle.place_nodes.specs.Walls.{IsLabelWall}

-- a place with its value
abbrev pub at_place : Spot → ℤ → Valued
at_place spot value = record { item = AtPlace spot; value = value }

-- some list of walks at the place was cut off at the limit
pub record HasCutOff (m : ModelParts) (limit : ℕ) (spot : Spot) (z : ℤ) : Type 0 where
  pub proof : Proof
  pub trees : List (List Step)
  pub cut_off : IsCutOffList m limit spot proof z trees

-- a place is closed or its walks are listed; or it is split, but only where its list was cut off
abbrev pub IsSplitWhereCutOff : ModelParts → ℕ → Spot → ℤ → NodeForm → Type 0
IsSplitWhereCutOff m limit spot z (node.Split split proof) = HasCutOff m limit spot z
IsSplitWhereCutOff m limit spot z (node.Close p) = Unit {0}
IsSplitWhereCutOff m limit spot z (node.List p tries) = Unit {0}
IsSplitWhereCutOff m limit spot z form = ⊥

-- the node stands at the place against z and was needed, and these are the places that it opens, the last of them first
pub record IsNodeOf (m : ModelParts) (spot : Spot) (value z : ℤ) (made : MadeNode) (opened : List OpenPlace) : Type 0 where
  pub stands : IsMade m z (AtPlace spot) made
  pub stays : StaysOpen z made
  pub opens : all_valued (reverse opened) ≡ made_children m (at_place spot value) made
  pub fit : All (IsOpenIn m) opened

-- and it splits the place only where a list was cut off
pub record IsNodeAt (m : ModelParts) (spot : Spot) (value z : ℤ) (limit : ℕ) (made : MadeNode) (opened : List OpenPlace) : Type 0 where
  pub node : IsNodeOf m spot value z made opened
  pub form : IsSplitWhereCutOff m limit spot z made.form

abbrev pub IsWorked : ModelParts → Spot → ℤ → ℤ → ℕ → Worked → Type 0
IsWorked m spot value z limit (Node made opened) = IsNodeAt m spot value z limit made opened.items
IsWorked m spot value z limit (Wall wall) = IsLabelWall m limit wall
IsWorked m spot value z limit Memory = Unit {0}

-- what comes of it where a split may be given beforehand
abbrev pub IsPricedWork : ModelParts → Spot → ℤ → ℤ → ℕ → Worked → Type 0
IsPricedWork m spot value z limit (Node made opened) = IsNodeOf m spot value z made opened.items
IsPricedWork m spot value z limit (Wall wall) = IsLabelWall m limit wall
IsPricedWork m spot value z limit Memory = Unit {0}
