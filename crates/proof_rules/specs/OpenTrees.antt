-- Trees of which some places are open, and the values of their open places.
use Rattle.std.specs.Prelude.{suc, ◌+◌, ◌-◌, ◌/◌, ℤ, pos, negsuc, neg_ℤ, ◌≤ℤ◌, Option, None, Some, List, [], ◌∷◌, ◌++◌, map, unsigned_abs}
use Rattle.std.specs.Int.{int_max}
use Rattle.route_model.specs.declared.limits.TheConstants.{SCALE}
use Rattle.route_model.specs.Costs.{least_box_cost}
use Rattle.route_model.specs.Parts.{ModelParts}
use Rattle.route_model.specs.Places.{root_place}
use Rattle.multipliers.specs.Quantities.{scaled}
use Rattle.proof_rules.specs.Grows.{Rules, Grows}
use Rattle.proof_rules.specs.Nodes.{AtPlace, Fix, IsNode, Item, Node, SplitAt, children_of}
use Rattle.proof_rules.specs.Proofs.{IsProof, bound_at}

-- a place of the list is open, or a node was made there
abbrev pub OpenFits : {I N : Type 0} → Rules I N → I → Option N → Type 0
OpenFits r i None = Unit {0}
OpenFits r i (Some n) = r.Fits i n

abbrev pub open_children : {I N : Type 0} → Rules I N → I → Option N → List I
open_children r i None = []
open_children r i (Some n) = r.children i n

-- the same rules, where an item may also stay open
abbrev pub open_rules : {I N : Type 0} → Rules I N → Rules I (Option N)
open_rules r = record { Fits = OpenFits r; children = open_children r }

-- the items that stay open, in order
abbrev pub open_items : {I N : Type 0} → Rules I N → List I → List (Option N) → List I
open_items r [] places = []
open_items r (i ∷ is) [] = []
open_items r (i ∷ is) (None ∷ places) = i ∷ open_items r is places
open_items r (i ∷ is) (Some n ∷ places) = open_items r (r.children i n ++ is) places

-- a bound divided by 65,536, rounded up
abbrev pub rounded_up : ℤ → ℤ
rounded_up (pos k) = pos ((k + (unsigned_abs SCALE - 1)) / unsigned_abs SCALE)
rounded_up (negsuc k) = neg_ℤ (pos (suc k / unsigned_abs SCALE))

abbrev pub RoundedUpLaw : Type 0
RoundedUpLaw = (b cost : ℤ) → b ≤ℤ scaled cost → rounded_up b ≤ℤ cost

-- the number of a split or fix is its proof's bound, rounded up; where it is greater than the node's own value the node
-- hands it to its children, and else its own
abbrev pub raised : ℤ → Option ℤ → ℤ
raised value None = value
raised value (Some bound) = int_max value (rounded_up bound)

abbrev pub handed : ModelParts → Item → Node → ℤ → ℤ
handed m (AtPlace spot) (SplitAt split (Some p)) value = raised value (bound_at m spot p)
handed m (AtPlace spot) (Fix p arcs) value = raised value (bound_at m spot p)
handed m item node value = value

-- items with values
pub record Valued : Type 0 where
  pub item : Item
  pub value : ℤ

-- a split carries a proof
abbrev pub HasProof : ModelParts → Item → Node → Type 0
HasProof m (AtPlace spot) (SplitAt split None) = ⊥
HasProof m (AtPlace spot) (SplitAt split (Some p)) = IsProof m spot p
HasProof m item node = Unit {0}

pub record ValuedFits (m : ModelParts) (z : ℤ) (i : Valued) (node : Node) : Type 0 where
  pub is_node : IsNode m z i.item node
  pub has_proof : HasProof m i.item node

abbrev pub valued_children : ModelParts → Valued → Node → List Valued
valued_children m i node = map (λ (item : Item). record { item = item; value = handed m i.item node i.value }) (children_of m i.item node)

abbrev pub value_rules : ModelParts → ℤ → Rules Valued Node
value_rules m z = record { Fits = ValuedFits m z; children = valued_children m }

-- the root's value is the least cost over the boxes of the variables
abbrev pub valued_root : ModelParts → Valued
valued_root m = record { item = AtPlace (root_place m); value = least_box_cost m }

-- the nodes that were made and the places that are open, in order, are a tree at the root
abbrev pub IsOpenTree : ModelParts → ℤ → List (Option Node) → Type 0
IsOpenTree m z places = Grows (open_rules (value_rules m z)) (valued_root m ∷ []) places []

-- the values of its open places
abbrev pub open_values : ModelParts → ℤ → List (Option Node) → List ℤ
open_values m z places = map (λ (i : Valued). i.value) (open_items (value_rules m z) (valued_root m ∷ []) places)
