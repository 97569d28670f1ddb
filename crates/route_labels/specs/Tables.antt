-- The kept labels of a table as a list, and what the table of a field shows.
use Rattle.std.specs.Prelude.{◌≡◌, ℕ, ℤ, ◌≤ℤ◌, if◌then◌else◌, Option, List, [], ◌∷◌, ◌++◌, Contains}
use Rattle.label_core.specs.declared.table.Entry.{Entry}
use Rattle.label_core.specs.Points.{IsSound}
use Rattle.label_core.specs.Puts.{is_none}
use Rattle.label_core.specs.Tables.{Cells, HasKept}
use Rattle.label_core.specs.Closed.{IsClosed as IsClosedIn}
use Rattle.path_graph.specs.Walk.{Leads}
use Rattle.label_rules.specs.Admitted.{IsAdmitted}
use Rattle.label_rules.specs.declared.label.Label.{Label}
use Rattle.label_rules.specs.Labels.{Backward, Direction, Forward, HasBackwardLabel, Setting, backward_label, forward_label}
use Rattle.label_rules.specs.Spaces.{rules}
use Rattle.label_rules.specs.Tables.{Covers, IsClosed}

-- the labels of the kept entries, cell by cell
abbrev pub kept_in : {L : Type 0} → List (Entry L) → List L
kept_in [] = []
kept_in (e ∷ rest) = if is_none e.gone then e.label ∷ kept_in rest else kept_in rest

abbrev pub kept_labels : {L : Type 0} → Cells L → List L
kept_labels [] = []
kept_labels (entries ∷ rest) = kept_in entries ++ kept_labels rest

-- in a table of labels whose kept labels are closed, the list of these is closed, with the threshold or without
abbrev pub ClosedTableLaw : Type 0
ClosedTableLaw = (direction : Direction) (S : Setting) (threshold : Option ℤ) (cells : ℕ) (cell_of : ℕ → ℤ → ℤ → ℕ) (t : Cells Label)
    → IsSound (rules direction S threshold cells cell_of) t → IsClosedIn (rules direction S threshold cells cell_of) (HasKept t)
    → IsClosed direction S threshold (kept_labels t)

-- the list is closed forward up to a threshold, or backward above one
abbrev pub IsForwardList : Setting → Option ℤ → List Label → Type 0
IsForwardList S top labels = IsClosed Forward S top labels

abbrev pub IsBackwardList : Setting → Option ℤ → List Label → Type 0
IsBackwardList S above labels = IsClosed Backward S above labels

-- a label of the list stands at the sink and costs no more than the walk
pub record HasLabelOf (S : Setting) (labels : List Label) (walk : List ℕ) : Type 0 where
  pub label : Label
  pub listed : Contains labels label
  pub at_sink : label.vertex ≡ S.graph.ends.sink
  pub cost : label.cost ≤ℤ (forward_label S walk).cost

-- the list has one for each admitted walk
abbrev pub HasWalks : Setting → List Label → Type 0
HasWalks S labels = (walk : List ℕ) → IsAdmitted S walk → HasLabelOf S labels walk

-- and one that dominates the label of each rest
abbrev pub HasRests : Setting → List Label → Type 0
HasRests S labels = (arcs : List ℕ) (v : ℕ) → Leads S.graph v arcs S.graph.ends.sink → HasBackwardLabel S arcs → Covers Backward S labels (backward_label S arcs)
