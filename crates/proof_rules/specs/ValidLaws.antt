-- What the nodes of a tree show of the plans at their items, up to the law that a valid certificate proves its claim.
use Rattle.std.specs.Prelude.{◌≡◌, ◌↔◌, ℕ, ◌<◌, ℤ, pos, ◌≤ℤ◌, List, [], length, slice_index}
use lib.Signed.{◌<ℤ◌}
use Rattle.route_model.specs.declared.places.Span.{Span}
use Rattle.route_model.specs.declared.places.Spot.{Spot}
use Rattle.route_model.specs.declared.plan.Plan.{Plan}
use Rattle.route_model.specs.Fit.{ModelFits}
use Rattle.route_model.specs.Parts.{ModelParts}
use Rattle.route_model.specs.Places.{IsInSpan, SolvesAt, span_at}
use Rattle.route_model.specs.Quantities.{cost_of}
use Rattle.proof_rules.specs.Counts.{Walk, plan_of}
use Rattle.proof_rules.specs.Grows.{Descends, Grows, HoldsForEach, HoldsForSome, IsSound, NoneBelow}
use Rattle.proof_rules.specs.Nodes.{AtCounts, AtPlace, IsNode, Item, Node, node_rules}
use Rattle.proof_rules.specs.TreeOrder.{Forest, Stand, preorder}
use Rattle.proof_rules.specs.Validity.{Certificate, Holds, IsValid}

-- a solution of the place has this cost
pub record HasAtPlace (m : ModelParts) (spot : Spot) (cost : ℤ) : Type 0 where
  pub plan : Plan
  pub solves : SolvesAt m spot plan
  pub is : cost_of m plan ≡ cost

-- counts, one in each box, whose plan solves the place, have this cost
pub record AreInBoxes (boxes : List Span) (counts : List ℕ) : Type 0 where
  pub size : length counts ≡ length boxes
  pub each : (i : ℕ) → i < length boxes → IsInSpan (span_at boxes i) (pos (slice_index counts i))

pub record HasAtCounts (m : ModelParts) (spot : Spot) (walks : List Walk) (boxes : List Span) (cost : ℤ) : Type 0 where
  pub counts : List ℕ
  pub size : length counts ≡ length walks
  pub inside : AreInBoxes boxes counts
  pub solves : SolvesAt m spot (plan_of walks counts)
  pub is : cost_of m (plan_of walks counts) ≡ cost

-- some plan of the item has this cost
abbrev pub Has : ModelParts → Item → ℤ → Type 0
Has m (AtPlace spot) cost = HasAtPlace m spot cost
Has m (AtCounts spot walks boxes) cost = HasAtCounts m spot walks boxes cost

-- a plan below z of an item is, by its cost, one of an item that its node opens
abbrev pub NodeLaw : Type 0
NodeLaw = (m : ModelParts) (z : ℤ) → ModelFits m → Descends (node_rules m z) (Has m) z

-- so where no plan of the items that it opens is below z, none of its item is
abbrev pub SoundLaw : Type 0
SoundLaw = (m : ModelParts) (z : ℤ) → ModelFits m → IsSound (node_rules m z) (Has m) z

-- and where nodes leave no item open, no plan of an item is below z
abbrev pub TreeLaw : Type 0
TreeLaw = (m : ModelParts) (z : ℤ) (items : List Item) (nodes : List Node) → ModelFits m → Grows (node_rules m z) items nodes []
    → HoldsForEach (NoneBelow (Has m) z) items

-- where some stay open, a plan below z is, by its cost, one of those
abbrev pub OpenLaw : Type 0
OpenLaw = (m : ModelParts) (z : ℤ) (items open_items : List Item) (nodes : List Node) → ModelFits m → Grows (node_rules m z) items nodes open_items
    → (cost : ℤ) → HoldsForSome (λ item. Has m item cost) items → cost <ℤ z → HoldsForSome (λ item. Has m item cost) open_items

-- a valid certificate proves its claim
abbrev pub ValidLaw : Type 0
ValidLaw = (m : ModelParts) (c : Certificate) → ModelFits m → IsValid m c → Holds m c.claim

-- what stands against z stands against each number that is no greater, and opens the same items
abbrev pub NodeFallsLaw : Type 0
NodeFallsLaw = (m : ModelParts) (less z : ℤ) (item : Item) (node : Node) → less ≤ℤ z → IsNode m z item node → IsNode m less item node

abbrev pub TreeFallsLaw : Type 0
TreeFallsLaw = (m : ModelParts) (less z : ℤ) (items open_items : List Item) (nodes : List Node) → less ≤ℤ z → Grows (node_rules m z) items nodes open_items
    → Grows (node_rules m less) items nodes open_items

-- nodes that leave nothing open are those of ordinary trees at the items, each before those below it
abbrev pub PreorderLaw : Type 0
PreorderLaw = (m : ModelParts) (z : ℤ) (items : List Item) (nodes : List Node)
    → (Grows (node_rules m z) items nodes [] ↔ ((trees : Forest Node) × (preorder trees ≡ nodes) × Stand (node_rules m z) items trees))
