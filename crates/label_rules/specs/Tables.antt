-- Closed tables of labels, whole or up to a threshold, and the walks that they cover.
use Rattle.std.specs.Prelude.{◌≡◌, ◌≢◌, ℕ, ◌<◌, ℤ, ◌≤ℤ◌, Option, None, Some, List, length, All, Contains}
use lib.Signed.{◌<ℤ◌}
use Rattle.path_graph.specs.Fit.{int_at, vertex_at}
use Rattle.path_graph.specs.Walk.{Leads}
use Rattle.path_graph.specs.Within.{AreWithin}
use Rattle.label_rules.specs.Labels.{Setting, Label, Direction, Forward, Backward, SettingFits, left, CanExtend, extended, root, forward_label, HasForwardLabel, backward_label, HasBackwardLabel}
use Rattle.label_rules.specs.Joins.{HaveJoin}
use Rattle.label_rules.specs.Dominance.{Dominates, StatesFit}
use Rattle.label_rules.specs.Admitted.{IsAdmitted}

-- a label of the list dominates this one
pub record Covers (direction : Direction) (S : Setting) (labels : List Label) (l : Label) : Type 0 where
  pub by : Label
  pub listed : Contains labels by
  pub dominates : Dominates direction S by l

-- the value of the first main resource
abbrev pub first_value : Label → ℤ
first_value l = int_at l.values.at 0

-- which extensions need a dominator: all without a threshold; with one, forward those whose first main value is at most the
-- threshold and which are not into the sink, backward those whose value is above it and which are not into the source
abbrev pub NeedsDominator : Direction → Setting → Option ℤ → Label → Type 0
NeedsDominator Forward S None l = Unit {0}
NeedsDominator Backward S None l = Unit {0}
NeedsDominator Forward S (Some t) l = (first_value l ≤ℤ t) × (l.vertex ≢ S.graph.ends.sink)
NeedsDominator Backward S (Some t) l = (t <ℤ first_value l) × (l.vertex ≢ S.graph.ends.source)

-- a label of the list dominates the root, and of each label of the list, over each arc on from it, the extension is
-- undefined, needs no dominator, or is dominated by a label of the list
pub record IsCover (direction : Direction) (S : Setting) (threshold : Option ℤ) (labels : List Label) : Type 0 where
  pub states : All (StatesFit S) labels
  pub root : Covers direction S labels (root direction S)
  pub extensions : (l : Label) (a : ℕ) → Contains labels l → a < length S.graph.arcs → left direction S a ≡ l.vertex → CanExtend direction S l a
      → NeedsDominator direction S threshold (extended direction S l a) → Covers direction S labels (extended direction S l a)

-- a label lies in the windows of its vertex
pub record LiesInWindows (S : Setting) (l : Label) : Type 0 where
  pub vertex : l.vertex < length S.graph.vertices
  pub values : AreWithin (vertex_at S.graph.vertices l.vertex).windows l.values

-- the list is closed: its labels lie in the windows, and it is a cover
pub record IsClosed (direction : Direction) (S : Setting) (threshold : Option ℤ) (labels : List Label) : Type 0 where
  pub windows : All (LiesInWindows S) labels
  pub cover : IsCover direction S threshold labels

-- a cover without a threshold covers each label of a partial walk, or of a rest
abbrev pub ForwardCoverLaw : Type 0
ForwardCoverLaw = (S : Setting) (labels : List Label) (arcs : List ℕ) (v : ℕ) → SettingFits S → IsCover Forward S None labels
    → Leads S.graph S.graph.ends.source arcs v → HasForwardLabel S arcs → Covers Forward S labels (forward_label S arcs)

abbrev pub BackwardCoverLaw : Type 0
BackwardCoverLaw = (S : Setting) (labels : List Label) (arcs : List ℕ) (v : ℕ) → SettingFits S → IsCover Backward S None labels
    → Leads S.graph v arcs S.graph.ends.sink → HasBackwardLabel S arcs → Covers Backward S labels (backward_label S arcs)

-- a forward and a backward list, each a cover from its own side: two whole lists, or with a threshold a half pair
pub record AreCovers (S : Setting) (threshold : Option ℤ) (fore back : List Label) : Type 0 where
  pub partial_walks : IsCover Forward S threshold fore
  pub rests : IsCover Backward S threshold back

-- labels of the two lists join over an arc of the walk, at no more than its reduced cost
pub record IsRepresented (S : Setting) (fore back : List Label) (walk : List ℕ) : Type 0 where
  pub arc : ℕ
  pub on_walk : Contains walk arc
  pub join : HaveJoin S fore back arc (forward_label S walk).cost

-- a half pair represents every admitted walk
abbrev pub HalfPairLaw : Type 0
HalfPairLaw = (S : Setting) (threshold : ℤ) (fore back : List Label) (walk : List ℕ) → SettingFits S
    → AreCovers S (Some threshold) fore back → IsAdmitted S walk → IsRepresented S fore back walk
