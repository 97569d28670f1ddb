-- What a limit must be passed by, where a search stops at it: numbers of walks, and numbers of nodes.
use Rattle.std.specs.Prelude.{◌≢◌, ◌⊎◌, ℕ, suc, ◌+◌, ◌*◌, ◌<◌, ℤ, List, [], ◌∷◌, length, All}
use Rattle.path_graph.specs.declared.set_bits.SetBits.{SetBits}
use Rattle.rank1_cuts.specs.declared.cut.Cut.{Cut}
use Rattle.route_model.specs.declared.multipliers.Mult.{Mult}
use Rattle.route_model.specs.declared.places.Span.{Span}
use Rattle.route_model.specs.declared.places.Spot.{Spot}
use Rattle.route_model.specs.Fit.{ModelFits}
use Rattle.route_model.specs.Parts.{ModelParts}
use Rattle.route_model.specs.Places.{root_place}
use Rattle.label_core.specs.Tables.{Cells}
use Rattle.label_rules.specs.declared.label.Label.{Label}
use Rattle.label_rules.specs.Labels.{Direction}
use Rattle.proof_rules.specs.Counts.{Walk}
use Rattle.proof_rules.specs.Grows.{Grows}
use Rattle.proof_rules.specs.ListWalls.{IsListWall}
use Rattle.proof_rules.specs.Nodes.{AtCounts, AtPlace, IsList, Item, ListWalks, Node, children_of, node_rules}
use Rattle.proof_rules.specs.PrefixTrees.{Step}
use Rattle.proof_rules.specs.Proofs.{Proof}
use Rattle.proof_rules.specs.TableWalls.{IsTableWall}
use Rattle.search_rules.specs.Completeness.{AllPartialWalks, AllRests, AllWalks, HasPoints, IsCutOffList, enough_nodes, points_in, product_by}

-- where a table stops at a limit, there are more partial walks, or more rests, than the limit
abbrev pub TableWallPassesLaw : Type 0
TableWallPassesLaw = (m : ModelParts) (limit g : ℕ) (direction : Direction) (spot : Spot) (near : List (List SetBits)) (cuts : List Cut) (mult : Mult) (t : Cells Label) (partials rests : List Walk)
    → IsTableWall m limit g direction spot near cuts mult t → AllPartialWalks m partials → AllRests m rests → (limit < length partials) ⊎ (limit < length rests)

-- where a list of walks stops at a limit, there are more partial walks than the limit
abbrev pub ListWallPassesLaw : Type 0
ListWallPassesLaw = (m : ModelParts) (limit : ℕ) (spot : Spot) (p : Proof) (z : ℤ) (trees : List (List Step)) (partials : List Walk)
    → IsCutOffList m limit spot p z trees → AllPartialWalks m partials → limit < length partials

-- a list that is a wall is cut off
abbrev pub ListWallCutsOffLaw : Type 0
ListWallCutsOffLaw = (m : ModelParts) (limit : ℕ) (spot : Spot) (p : Proof) (z : ℤ) (trees : List (List Step)) → IsListWall m limit spot p z trees → IsCutOffList m limit spot p z trees

-- below counts in boxes, the nodes and the items that stay open are fewer than twice the points of the boxes
abbrev pub FewCountNodesLaw : Type 0
FewCountNodesLaw = (m : ModelParts) (z : ℤ) (spot : Spot) (walks : List Walk) (boxes : List Span) (nodes : List Node) (open_items : List Item)
    → All HasPoints boxes → Grows (node_rules m z) (AtCounts spot walks boxes ∷ []) nodes open_items → length nodes + length open_items < 2 * product_by points_in boxes

-- below a node that lists walks at the root, fewer nodes than are enough leave no item open
abbrev pub PlainTreeLaw : Type 0
PlainTreeLaw = (m : ModelParts) (z : ℤ) (p : Proof) (trees : List (List Step)) (nodes : List Node) (open_items : List Item) (walks : List Walk) → ModelFits m
    → IsList m z (root_place m) p trees → Grows (node_rules m z) (children_of m (AtPlace (root_place m)) (ListWalks p trees)) nodes open_items → open_items ≢ []
    → AllWalks m walks → suc (length nodes) < enough_nodes m walks
