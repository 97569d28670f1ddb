-- Reading a tree node by node.
use Rattle.std.specs.Prelude.{◌≡◌, ◌<◌, ◌≤◌, ◌^◌, ℤ, pos, ◌≤ℤ◌, unsigned_abs, sum_by, Option, Result, MatchResult, List, ◌++◌, length, All}
use Rattle.path_graph.specs.declared.limits.TheConstants.{MAX_PATHS}
use Rattle.path_graph.specs.Walk.{IsWalk}
use Rattle.route_model.specs.declared.places.Span.{Span}
use Rattle.route_model.specs.declared.places.Spot.{Spot}
use Rattle.route_model.specs.Parts.{ModelParts, graph_in}
use Rattle.route_model.specs.Places.{SpotFits}
use Rattle.proof_rules.specs.Counts.{Walk}
use Rattle.proof_rules.specs.Grows.{Grows, HoldsForEach}
use Rattle.proof_rules.specs.Nodes.{AtCounts, AtPlace, Item, children_of}
use Rattle.certificate.specs.declared.cert.Node.{Node}
use Rattle.certificate.specs.declared.cert.NodeForm.{NodeForm}
use Rattle.cert_rules.specs.Meaning.{node_of}
use Rattle.cert_check.specs.declared.fault.NodeError.{NodeError}
use Rattle.cert_check.specs.declared.fault.NodeError.TheVariants.{Fault, Memory}
use Rattle.cert_check.specs.declared.stack.Open.{Open}
use Rattle.cert_check.specs.declared.stack.Tree.{Tree}
use Rattle.cert_check.specs.Faults.{IsNodeFault, Stands, form_rules}
use Rattle.cert_check.specs.Frames.{item_of, left_open, open_items}
use Rattle.cert_check.specs.Verdicts.{forms_of, root_items}

-- a listed walk is one of a graph of the model, and of at most 2^25 arcs
pub record WalkFits (m : ModelParts) (w : Walk) : Type 0 where
  pub graph : w.graph < length m.graphs
  pub there : IsWalk (graph_in m.graphs w.graph) w.arcs
  pub few : length w.arcs ≤ 2 ^ 25

-- the box of a count is not empty, and lies between 0 and MAX_PATHS
pub record IsCountBox (box : Span) : Type 0 where
  pub low : pos 0 ≤ℤ box.low
  pub order : box.low ≤ℤ box.high
  pub high : box.high ≤ℤ pos MAX_PATHS

-- counts of walks of the model: one box for each, and the high ends of all sum to at most 2^37
pub record CountsFit (m : ModelParts) (spot : Spot) (walks : List Walk) (boxes : List Span) : Type 0 where
  pub place : SpotFits m spot
  pub size : length boxes ≡ length walks
  pub each_walk : All (WalkFits m) walks
  pub each_box : All IsCountBox boxes
  pub sum : sum_by (λ (box : Span). unsigned_abs box.high) boxes ≤ 2 ^ 37
  pub few : length walks ≤ 2 ^ 31

-- an item of the model
abbrev pub ItemFits : ModelParts → Item → Type 0
ItemFits m (AtPlace spot) = SpotFits m spot
ItemFits m (AtCounts spot walks boxes) = CountsFit m spot walks boxes

-- why a node does not stand at an item: the first demand that fails, or want of memory, which says nothing
abbrev pub IsNodeError : ModelParts → ℤ → Item → NodeForm → NodeError → Type 0
IsNodeError m z item form (Fault kind) = IsNodeFault m z item form kind
IsNodeError m z item form Memory = Unit {0}

-- a node stands, and then the items that it opens are open before those that were left
pub record IsNext (m : ModelParts) (z : ℤ) (item : Item) (left : List Item) (form : NodeForm) (items : List Item) : Type 0 where
  pub stands : Stands m z item form
  pub items_are : items ≡ children_of m item (node_of m form) ++ left

abbrev pub ReadsOn : ModelParts → ℤ → Tree → Open → NodeForm → Tree → Result (Option Open) NodeError → Type 0
ReadsOn m z old at form new result =
    MatchResult result (λ next. IsNext m z (item_of old at) (left_open old) form (open_items new next)) (IsNodeError m z (item_of old at) form)

-- the nodes that were read grow from the root place to the open items, which are those of the model
pub record IsRead (m : ModelParts) (z : ℤ) (nodes : List Node) (at : Option Open) (tree : Tree) : Type 0 where
  pub grows : Grows (form_rules m z) (root_items m) (forms_of nodes) (open_items tree at)
  pub fit : HoldsForEach (ItemFits m) (open_items tree at)
