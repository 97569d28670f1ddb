-- Open places of a search, in the words of the rules of proofs.
use Rattle.std.specs.Prelude.{List, map}
use Rattle.route_model.specs.Parts.{ModelParts}
use Rattle.proof_rules.specs.Nodes.{AtCounts, AtPlace, Item}
use Rattle.proof_rules.specs.OpenTrees.{Valued}
use Rattle.cert_check.specs.Reads.{ItemFits}
use Rattle.walk_list.specs.Walks.{walks_said}
use Rattle.search_tree.specs.declared.places.OpenItem.{OpenItem}
use Rattle.search_tree.specs.declared.places.OpenItem.TheVariants.{Counts, Place}
use Rattle.search_tree.specs.declared.places.OpenPlace.{OpenPlace}

-- a place; or counts of the walks that are listed at one, each in its box
abbrev pub item_of : OpenItem → Item
item_of (Place spot) = AtPlace spot
item_of (Counts listing boxes) = AtCounts listing.value.spot (walks_said listing.value.walks) boxes

-- with its value
abbrev pub valued : OpenPlace → Valued
valued p = record { item = item_of p.item; value = p.value }

abbrev pub all_valued : List OpenPlace → List Valued
all_valued places = map valued places

-- it is one of the model
abbrev pub IsOpenIn : ModelParts → OpenPlace → Type 0
IsOpenIn m p = ItemFits m (item_of p.item)
