-- Trees that are put together from a node, and a tree over counts below it.
use Rattle.std.specs.Prelude.{◌≡◌, ◌⊎◌, ℕ, ◌≤◌, ℤ, None, List, [], ◌∷◌, length, reverse, All}
use Rattle.std.specs.declared.alloc.Global.{Global}
use Rattle.std.specs.declared.rc.Rc.{Rc}
use Rattle.route_model.specs.declared.places.Span.{Span}
use Rattle.route_model.specs.declared.places.Spot.{Spot}
use Rattle.route_model.specs.Parts.{ModelParts}
use Rattle.proof_rules.specs.Counts.{Walk}
use Rattle.proof_rules.specs.Grows.{Grows}
use Rattle.proof_rules.specs.OpenTrees.{Valued}
use Rattle.walk_list.specs.Walks.{walks_said}
use Rattle.made_nodes.specs.declared.node.MadeNode.{MadeNode}
use Rattle.made_nodes.specs.Better.{IsBetter}
use Rattle.made_nodes.specs.Made.{StaysOpen, made_rules}
use Rattle.count_trees.specs.Growth.{at_counts}
use Rattle.search_tree.specs.declared.growing.Grown.{Grown}
use Rattle.search_tree.specs.declared.places.Listing.{Listing}
use Rattle.search_tree.specs.declared.places.OpenItem.TheVariants.{Counts, Place}
use Rattle.search_tree.specs.declared.places.OpenPlace.{OpenPlace}
use Rattle.search_tree.specs.Places.{IsOpenIn, all_valued}

-- an open place, or open counts, with a value, and the walks of a listing
abbrev pub place_at : Spot → ℤ → OpenPlace
place_at spot value = record { item = Place spot; value = value }

abbrev pub counts_at : Rc Listing Global → List Span → ℤ → OpenPlace
counts_at listing boxes value = record { item = Counts listing boxes; value = value }

abbrev pub walks_in : Listing → List Walk
walks_in listing = walks_said listing.walks

-- counts of the walks of a listing in boxes, with a value
abbrev pub listed_at : Listing → ℤ → List Span → Valued
listed_at listing value boxes = at_counts listing.spot (walks_in listing) value boxes

-- a node alone
pub record IsOneNode (made : MadeNode) (opened : List OpenPlace) (z : ℤ) (g : Grown) : Type 0 where
  pub nodes : g.nodes.items ≡ made ∷ []
  pub rest : g.rest.items ≡ opened
  pub same : g.z ≡ z
  pub best : g.best ≡ None

-- a node on top of a tree
pub record IsOnTop (made : MadeNode) (below : Grown) (g : Grown) : Type 0 where
  pub nodes : g.nodes.items ≡ made ∷ below.nodes.items
  pub rest : g.rest.items ≡ below.rest.items
  pub same : g.z ≡ below.z
  pub best : g.best ≡ below.best

-- the nodes grow from the item against the cost to beat, as many as a budget allows, or until nothing is open
pub record IsGrownBelow (m : ModelParts) (at : Valued) (z : ℤ) (budget : ℕ) (g : Grown) : Type 0 where
  pub grows : Grows (made_rules m g.z) (at ∷ []) g.nodes.items (all_valued (reverse g.rest.items))
  pub better : IsBetter m z g.best g.z
  pub stay : g.best ≡ None → All (StaysOpen z) g.nodes.items
  pub fit : All (IsOpenIn m) g.rest.items
  pub few : length g.nodes.items ≤ budget
  pub ended : (g.rest.items ≡ []) ⊎ (length g.nodes.items ≡ budget)
