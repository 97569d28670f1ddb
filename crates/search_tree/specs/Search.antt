-- What a search holds between two steps: a proof tree with open places, the best plan, and the cost to beat.
use Rattle.std.specs.Prelude.{◌≡◌, ℕ, true, Option, None, Some, List, [], ◌∷◌, length, map, All}
use Rattle.route_model.specs.Costs.{cost_above_all}
use Rattle.route_model.specs.Parts.{ModelParts}
use Rattle.proof_rules.specs.Grows.{Grows}
use Rattle.proof_rules.specs.Nodes.{Node}
use Rattle.proof_rules.specs.OpenTrees.{Valued, valued_root}
use Rattle.cert_rules.specs.Meaning.{node_of}
use Rattle.open_tree.specs.declared.slots.Slot.{Slot}
use Rattle.open_tree.specs.declared.slots.Slot.TheVariants.{Made, Open}
use Rattle.open_tree.specs.Open.{mades, opens, see, with_open}
use Rattle.made_nodes.specs.declared.node.MadeNode.{MadeNode}
use Rattle.made_nodes.specs.Better.{IsBetter}
use Rattle.made_nodes.specs.Made.{StaysOpen, made_rules}
use Rattle.search_tree.specs.declared.places.OpenPlace.{OpenPlace}
use Rattle.search_tree.specs.declared.search.Search.{Search}
use Rattle.search_tree.specs.Places.{IsOpenIn, valued}

-- the slots, their open places, and how many nodes are made
abbrev pub slots_in : Search → List (Slot OpenPlace MadeNode)
slots_in s = s.slots.items

abbrev pub opens_in : Search → List OpenPlace
opens_in s = opens (slots_in s)

abbrev pub mades_in : Search → List MadeNode
mades_in s = mades (slots_in s)

abbrev pub made_in : Search → ℕ
made_in s = length (mades_in s)

-- slots whose open places are read as items with values
abbrev pub seen : List (Slot OpenPlace MadeNode) → List (Slot Valued MadeNode)
seen slots = map (see valued (λ (n : MadeNode). n)) slots

-- the made nodes, and none where a place is open, in the words of the rules
abbrev pub place_of : ModelParts → Slot OpenPlace MadeNode → Option Node
place_of m (Open p) = None
place_of m (Made n) = Some (node_of m n.form)

abbrev pub places_in : ModelParts → Search → List (Option Node)
places_in m s = map (place_of m) (slots_in s)

-- the slots are a tree at the root against the cost to beat; it is that of the best plan, a tidy solution, or above all costs;
-- the open places are of the model; and where all nodes were tested against it, each stays open
pub record IsSearch (m : ModelParts) (s : Search) : Type 0 where
  pub tree : Grows (with_open (made_rules m s.z)) (valued_root m ∷ []) (seen (slots_in s)) []
  pub better : IsBetter m (cost_above_all m) s.best s.z
  pub fit : All (IsOpenIn m) (opens_in s)
  pub tested : s.is_tested ≡ true → All (StaysOpen s.z) (mades_in s)
