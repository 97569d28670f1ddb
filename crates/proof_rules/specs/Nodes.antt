-- The nodes of a proof tree: which may stand at an item against z, and the items that it opens below it.
use Rattle.std.specs.Prelude.{◌≡◌, ℕ, suc, ◌<◌, ◌^◌, ℤ, pos, ◌+ℤ◌, ◌-ℤ◌, ◌≤ℤ◌, Option, List, [], ◌∷◌, ◌++◌, length, map, slice_index_or, slice_set, All, unsigned_abs}
use lib.Signed.{◌<ℤ◌}
use Rattle.path_graph.specs.First.{EachBelow}
use Rattle.path_graph.specs.Within.{IsWithin}
use Rattle.route_model.specs.declared.multipliers.Mult.{Mult}
use Rattle.route_model.specs.declared.places.Span.{Span}
use Rattle.route_model.specs.declared.places.Split.{Split}
use Rattle.route_model.specs.declared.places.Spot.{Spot}
use Rattle.route_model.specs.Parts.{ModelParts, graph_in}
use Rattle.route_model.specs.PlaceParts.{NamedArc, SplitFits, dropping, high_part, high_place, low_part, low_place}
use Rattle.route_model.specs.Places.{SolvesAt, span_at}
use Rattle.route_model.specs.Quantities.{cost_of}
use Rattle.route_model.specs.Terms.{or_zero, sides_of, term}
use Rattle.multipliers.specs.Quantities.{AreDefined, base, reduced_cost, scaled}
use Rattle.label_rules.specs.Leasts.{AreAllAbove}
use Rattle.proof_rules.specs.Counts.{Walk, plan_of}
use Rattle.proof_rules.specs.Grows.{Rules}
use Rattle.proof_rules.specs.PrefixTrees.{Step, IsComplete, walks_of}
use Rattle.proof_rules.specs.Proofs.{AreBoth, ClosesAgainst, IsProof, Proof, bound_at, setting_of, table_at, walk_limit}

-- an item is open: a place; or at a place counts over a list of walks, each in its box
pub data Item : Type 0 where
  AtPlace : Spot → Item
  AtCounts : Spot → List Walk → List Span → Item

-- a split may carry a proof, which only a search that stops asks for
pub data Node : Type 0 where
  SplitAt : Split → Option Proof → Node
  Close : Proof → Node
  Fix : Proof → List NamedArc → Node
  ListWalks : Proof → List (List Step) → Node
  CountSplit : ℕ → ℤ → Node
  CountClose : Mult → Node
  Point : Node

-- the arc is there, and every join over it is above the limit of a walk
abbrev pub IsFixed : ModelParts → ℤ → Spot → Proof → NamedArc → Type 0
IsFixed m z spot p d =
    (d.0 < length m.graphs) × (d.1 < length (graph_in m.graphs d.0).arcs)
    × AreAllAbove (setting_of m spot p d.0) (table_at p.tables d.0).fore (table_at p.tables d.0).back (walk_limit m spot p z d.0) d.1

pub record IsFix (m : ModelParts) (z : ℤ) (spot : Spot) (p : Proof) (arcs : List NamedArc) : Type 0 where
  pub proof : IsProof m spot p
  pub both : AreBoth m p
  pub each : All (IsFixed m z spot p) arcs

-- one complete tree of prefixes for each graph, in order
abbrev pub tree_at : List (List Step) → ℕ → List Step
tree_at trees g = slice_index_or trees g []

pub record IsList (m : ModelParts) (z : ℤ) (spot : Spot) (p : Proof) (trees : List (List Step)) : Type 0 where
  pub proof : IsProof m spot p
  pub both : AreBoth m p
  pub count : length trees ≡ length m.graphs
  pub each : EachBelow (length m.graphs) (λ g. IsComplete (setting_of m spot p g) (table_at p.tables g).back (walk_limit m spot p z g) (tree_at trees g))

-- the walks of the trees, graph by graph, and at first a box for each: from 0 to the high path count of its graph
abbrev pub walks_in : ℕ → List (List ℕ) → List Walk
walks_in g walks = map (λ (arcs : List ℕ). record { graph = g; arcs = arcs }) walks

abbrev pub walks_from : ModelParts → Spot → Proof → ℕ → List (List Step) → List Walk
walks_from m spot p g [] = []
walks_from m spot p g (tree ∷ rest) = walks_in g (walks_of (setting_of m spot p g) tree) ++ walks_from m spot p (suc g) rest

abbrev pub listed_walks : ModelParts → Spot → Proof → List (List Step) → List Walk
listed_walks m spot p trees = walks_from m spot p 0 trees

abbrev pub first_box : Spot → Walk → Span
first_box spot w = record { low = pos 0; high = (span_at spot.boxes.paths w.graph).high }

abbrev pub first_boxes : Spot → List Walk → List Span
first_boxes spot walks = map (first_box spot) walks

-- neither part of a count's box is empty
pub record IsCountSplit (boxes : List Span) (i : ℕ) (d : ℤ) : Type 0 where
  pub walk : i < length boxes
  pub low : (span_at boxes i).low ≤ℤ d
  pub high : d <ℤ (span_at boxes i).high

-- the terms of the reduced costs of the walks over the boxes of their counts
abbrev pub count_terms : ModelParts → Mult → List Walk → List Span → ℤ
count_terms m mult [] boxes = pos 0
count_terms m mult (w ∷ walks) [] = pos 0
count_terms m mult (w ∷ walks) (box ∷ boxes) = or_zero (term (reduced_cost m [] mult w.graph w.arcs) (sides_of box)) +ℤ count_terms m mult walks boxes

-- multipliers without cuts: each reduced cost is within 2^88 of 0, and the terms of the place and of the walks sum to more
-- than 65,536 × (z - 1)
pub record IsCountClose (m : ModelParts) (z : ℤ) (spot : Spot) (walks : List Walk) (boxes : List Span) (mult : Mult) : Type 0 where
  pub defined : AreDefined m [] spot.boxes mult
  pub near : All (λ (w : Walk). IsWithin (2 ^ 88) (reduced_cost m [] mult w.graph w.arcs)) walks
  pub above : scaled (z -ℤ pos 1) <ℤ (base m [] spot.boxes mult +ℤ count_terms m mult walks boxes)

-- all boxes are points, and the one plan left is no solution of the place or costs at least z
abbrev pub ArePoints : List Span → Type 0
ArePoints boxes = All (λ (box : Span). box.low ≡ box.high) boxes

abbrev pub lows : List Span → List ℕ
lows boxes = map (λ (box : Span). unsigned_abs box.low) boxes

pub record IsPoint (m : ModelParts) (z : ℤ) (spot : Spot) (walks : List Walk) (boxes : List Span) : Type 0 where
  pub points : ArePoints boxes
  pub not_below : SolvesAt m spot (plan_of walks (lows boxes)) → z ≤ℤ cost_of m (plan_of walks (lows boxes))

-- which nodes may stand at an item, against z
abbrev pub IsNode : ModelParts → ℤ → Item → Node → Type 0
IsNode m z (AtPlace spot) (SplitAt split proof) = SplitFits m spot split
IsNode m z (AtPlace spot) (Close p) = IsProof m spot p × ClosesAgainst z (bound_at m spot p)
IsNode m z (AtPlace spot) (Fix p arcs) = IsFix m z spot p arcs
IsNode m z (AtPlace spot) (ListWalks p trees) = IsList m z spot p trees
IsNode m z (AtCounts spot walks boxes) (CountSplit i d) = IsCountSplit boxes i d
IsNode m z (AtCounts spot walks boxes) (CountClose mult) = IsCountClose m z spot walks boxes mult
IsNode m z (AtCounts spot walks boxes) Point = IsPoint m z spot walks boxes
IsNode m z item node = ⊥

-- the items that a node opens
abbrev pub children_of : ModelParts → Item → Node → List Item
children_of m (AtPlace spot) (SplitAt split proof) = AtPlace (low_place spot split) ∷ AtPlace (high_place spot split) ∷ []
children_of m (AtPlace spot) (Fix p arcs) = AtPlace (dropping spot arcs) ∷ []
children_of m (AtPlace spot) (ListWalks p trees) = AtCounts spot (listed_walks m spot p trees) (first_boxes spot (listed_walks m spot p trees)) ∷ []
children_of m (AtCounts spot walks boxes) (CountSplit i d) =
    AtCounts spot walks (slice_set boxes i (low_part (span_at boxes i) d)) ∷ AtCounts spot walks (slice_set boxes i (high_part (span_at boxes i) d)) ∷ []
children_of m item node = []

abbrev pub node_rules : ModelParts → ℤ → Rules Item Node
node_rules m z = record { Fits = IsNode m z; children = children_of m }
