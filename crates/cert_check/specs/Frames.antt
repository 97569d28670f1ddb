-- What stays open above a node while the nodes below it are read: frames on a stack, each of which brings back what it
-- keeps.
use Rattle.std.specs.Prelude.{◌≡◌, Option, None, Some, ℕ, ◌<◌, ℤ, ◌≤ℤ◌, Bool, false, List, [], ◌∷◌, map, reverse, slice_set, length}
use lib.Signed.{◌<ℤ◌}
use Rattle.route_model.specs.declared.places.Span.{Span}
use Rattle.route_model.specs.declared.places.Spot.{Spot}
use Rattle.route_model.specs.PlaceParts.{with_box}
use Rattle.route_model.specs.Places.{marks_of, span_at}
use Rattle.proof_rules.specs.Counts.{Walk}
use Rattle.proof_rules.specs.Nodes.{AtCounts, AtPlace, Item}
use Rattle.cert_check.specs.declared.stack.Frame.{Frame}
use Rattle.cert_check.specs.declared.stack.Frame.TheVariants.{Upper, Whole, Dropped, UpperCount, WholeCount, Listing}
use Rattle.cert_check.specs.declared.stack.Listed.{Listed}
use Rattle.cert_check.specs.declared.stack.Open.{Open}
use Rattle.cert_check.specs.declared.stack.Open.TheVariants.{Place, Counts}
use Rattle.cert_check.specs.declared.stack.Tree.{Tree}

-- the place with another mark for an arc
abbrev pub with_mark : Spot → ℕ → ℕ → Bool → Spot
with_mark spot g a mark = record spot { fixed = slice_set spot.fixed g (slice_set (marks_of spot.fixed g) a mark) }

-- there is a box of this number, and d leaves neither part of it empty
pub record HasParts (spans : List Span) (k : ℕ) (d : ℤ) : Type 0 where
  pub there : k < length spans
  pub low : (span_at spans k).low ≤ℤ d
  pub high : d <ℤ (span_at spans k).high

-- the walk that is listed
abbrev pub walk_said : Listed → Walk
walk_said w = record { graph = w.graph; arcs = w.arcs }

abbrev pub walks_said : List Listed → List Walk
walks_said walks = map walk_said walks

-- the items that the frames leave open, from the last frame on, below a place with counts of walks in boxes
abbrev pub open_below : Spot → List Listed → List Span → List Frame → List Item
open_below spot walks boxes [] = []
open_below spot walks boxes (Upper q span part ∷ frames) =
    AtPlace (with_box spot q part) ∷ open_below (with_box spot q span) walks boxes frames
open_below spot walks boxes (Whole q span ∷ frames) = open_below (with_box spot q span) walks boxes frames
open_below spot walks boxes (Dropped g a ∷ frames) = open_below (with_mark spot g a false) walks boxes frames
open_below spot walks boxes (UpperCount i span part ∷ frames) =
    AtCounts spot (walks_said walks) (slice_set boxes i part) ∷ open_below spot walks (slice_set boxes i span) frames
open_below spot walks boxes (WholeCount i span ∷ frames) = open_below spot walks (slice_set boxes i span) frames
open_below spot walks boxes (Listing before spans ∷ frames) = open_below spot before spans frames

-- what a tree leaves open beside the item that is read
abbrev pub left_open : Tree → List Item
left_open tree = open_below tree.spot tree.walks tree.boxes (reverse tree.frames)

-- the item that is read
abbrev pub item_of : Tree → Open → Item
item_of tree Place = AtPlace tree.spot
item_of tree Counts = AtCounts tree.spot (walks_said tree.walks) tree.boxes

-- after a frame: nothing is open there, and it is taken off; or an item is open
pub record GoesOn (frame : Frame) (old new : Tree) : Type 0 where
  pub left : open_below old.spot old.walks old.boxes (frame ∷ reverse old.frames) ≡ left_open new
  pub frames : new.frames ≡ old.frames

abbrev pub Resumes : Frame → Tree → Option Open → Tree → Type 0
Resumes frame old None new = GoesOn frame old new
Resumes frame old (Some kind) new = open_below old.spot old.walks old.boxes (frame ∷ reverse old.frames) ≡ item_of new kind ∷ left_open new

-- the open items of a tree, the one that is read first
abbrev pub open_items : Tree → Option Open → List Item
open_items tree None = []
open_items tree (Some kind) = item_of tree kind ∷ left_open tree
