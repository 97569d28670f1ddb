-- The two directions of labels as a test in code, and what the code asks of a list label by label.
use Rattle.std.specs.Prelude.{◌≡◌, ℕ, ◌<◌, ◌^◌, Bool, true, false, ℤ, Option, Some, List, length, All, slice_index}
use Rattle.path_graph.specs.Within.{IsWithin}
use Rattle.label_rules.specs.declared.label.Label.{Label}
use Rattle.label_rules.specs.Labels.{Direction, Forward, Backward, Setting}
use Rattle.label_rules.specs.Spaces.{extension, is_label, onward}
use Rattle.label_rules.specs.Tables.{Covers}

-- the direction of rests where the test passes, and else that of partial walks
abbrev pub direction_of : Bool → Direction
direction_of false = Forward
direction_of true = Backward

-- costs within 2^112 of 0
abbrev pub CostsKeep : List Label → Type 0
CostsKeep labels = All (λ (l : Label). IsWithin (2 ^ 112) l.cost) labels

-- all are labels of the direction
abbrev pub AreLabels : Direction → Setting → List Label → Type 0
AreLabels direction S labels = All (λ l. is_label direction S l ≡ true) labels

-- the extension of a label over an arc on from it, by its place among them, has a dominator in the list, where it is defined
-- and needs one; and so have all
abbrev pub IsCoveredAt : Direction → Setting → Option ℤ → List Label → Label → ℕ → Type 0
IsCoveredAt direction S threshold labels l k = (next : Label) → extension direction S threshold l (slice_index (onward direction S l.vertex) k) ≡ Some next
    → Covers direction S labels next

abbrev pub AreCovered : Direction → Setting → Option ℤ → List Label → Label → Type 0
AreCovered direction S threshold labels l = (k : ℕ) → k < length (onward direction S l.vertex) → IsCoveredAt direction S threshold labels l k
