-- What a test against the cost to beat makes of a slot.
use Rattle.std.specs.Prelude.{◌≡◌, ◌⊎◌, ℤ}
use Rattle.route_model.specs.Parts.{ModelParts}
use Rattle.open_tree.specs.declared.pruning.Tested.{Tested}
use Rattle.open_tree.specs.declared.slots.Slot.{Slot}
use Rattle.open_tree.specs.declared.slots.Slot.TheVariants.{Made, Open}
use Rattle.made_nodes.specs.declared.node.MadeNode.{MadeNode}
use Rattle.made_nodes.specs.Closing.{IsClosing}
use Rattle.made_nodes.specs.Made.{StaysOpen, child_count}
use Rattle.search_tree.specs.declared.places.OpenPlace.{OpenPlace}

-- a node whose bound leaves its item open stays, with all trees below it
pub record HasStayed (z : ℤ) (node : MadeNode) (t : Tested OpenPlace MadeNode) : Type 0 where
  pub below : StaysOpen z node
  pub slot : t.slot ≡ Made node
  pub skip : t.skip ≡ 0

-- else a node that closes the item stands there, and all trees below go
pub record HasClosed (m : ModelParts) (z : ℤ) (node : MadeNode) (t : Tested OpenPlace MadeNode) : Type 0 where
  pub above : ¬ (StaysOpen z node)
  pub closed : MadeNode
  pub slot : t.slot ≡ Made closed
  pub closing : IsClosing m node closed
  pub skip : t.skip ≡ child_count node.form

pub record IsRetestedNode (m : ModelParts) (z : ℤ) (node : MadeNode) (t : Tested OpenPlace MadeNode) : Type 0 where
  pub children : t.children ≡ child_count node.form
  pub either : HasStayed z node t ⊎ HasClosed m z node t

-- an open place stays open
pub record StaysPlace (place : OpenPlace) (t : Tested OpenPlace MadeNode) : Type 0 where
  pub slot : t.slot ≡ Open place
  pub children : t.children ≡ 0
  pub skip : t.skip ≡ 0

abbrev pub IsRetested : ModelParts → ℤ → Slot OpenPlace MadeNode → Tested OpenPlace MadeNode → Type 0
IsRetested m z (Open place) t = StaysPlace place t
IsRetested m z (Made node) t = IsRetestedNode m z node t
