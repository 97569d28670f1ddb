-- The walks that the trees of all graphs list.
use Rattle.std.specs.Prelude.{◌≡◌, ℕ, ◌<◌, ◌≤◌, List, All, length, map, sum_by}
use Rattle.path_graph.specs.First.{EachBelow}
use Rattle.path_graph.specs.Walk.{IsWalk}
use Rattle.route_model.specs.declared.places.Spot.{Spot}
use Rattle.route_model.specs.Parts.{ModelParts, graph_in}
use Rattle.proof_rules.specs.Counts.{Walk}
use Rattle.proof_rules.specs.Nodes.{listed_walks, tree_at}
use Rattle.proof_rules.specs.PrefixTrees.{IsTree}
use Rattle.proof_rules.specs.Proofs.{Proof, setting_of}
use Rattle.certificate.specs.declared.cert.Trie.{Trie}
use Rattle.cert_rules.specs.Meaning.{steps_of}
use Rattle.walk_list.specs.declared.walks.ListedWalk.{ListedWalk}
use Rattle.walk_list.specs.Listings.{AreInOrder}

-- the walk that is listed
abbrev pub walk_said : ListedWalk → Walk
walk_said w = record { graph = w.graph; arcs = w.arcs }

abbrev pub walks_said : List ListedWalk → List Walk
walks_said walks = map walk_said walks

-- the trees are one for each graph in order, and each is a tree there, whichever proof has these parts
pub record AreTrees (m : ModelParts) (spot : Spot) (IsOf : Proof → Type 0) (tries : List Trie) : Type 0 where
  pub order : AreInOrder (length m.graphs) tries
  pub each : (p : Proof) → IsOf p → EachBelow (length m.graphs) (λ g. IsTree (setting_of m spot p g) (tree_at (map steps_of tries) g))

-- these are their walks in order, whichever proof has these parts
abbrev pub AreWalksOf : ModelParts → Spot → (Proof → Type 0) → List Trie → List ListedWalk → Type 0
AreWalksOf m spot IsOf tries walks = (p : Proof) → IsOf p → walks_said walks ≡ listed_walks m spot p (map steps_of tries)

-- a walk of its graph, with at most so many arcs
pub record WalkStands (m : ModelParts) (most : ℕ) (w : Walk) : Type 0 where
  pub graph : w.graph < length m.graphs
  pub walk : IsWalk (graph_in m.graphs w.graph) w.arcs
  pub short : length w.arcs ≤ most

-- each is one, with no more arcs than the trees have lines together, and there are no more walks than lines
pub record WalksStand (m : ModelParts) (tries : List Trie) (walks : List ListedWalk) : Type 0 where
  pub each : All (λ (w : ListedWalk). WalkStands m (sum_by length (map steps_of tries)) (walk_said w)) walks
  pub few : length walks ≤ sum_by length (map steps_of tries)
