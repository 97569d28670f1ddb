-- The laws of the spaces of labels.
use Rattle.std.specs.Prelude.{◌≡◌, ◌↔◌, ℕ, ◌<◌, ◌^◌, IsTrue, ℤ, pos, ◌+ℤ◌, ◌-ℤ◌, ◌≤ℤ◌, Option, Some, length}
use Rattle.path_graph.specs.Within.{IsWithin}
use Rattle.label_space.specs.Laws.{IsLawful}
use Rattle.label_rules.specs.Labels.{Setting, Label, Direction, SettingFits, left, CanExtend, extended}
use Rattle.label_rules.specs.Dominance.{Dominates}
use Rattle.label_rules.specs.Tables.{NeedsDominator}
use Rattle.label_rules.specs.Spaces.{IsLabel, CostsFit, CellsFit, level, is_label, extension, dominates, rules}

-- both directions are lawful spaces, with or without a threshold
abbrev pub LawfulLaw : Type 0
LawfulLaw = (direction : Direction) (S : Setting) (threshold : Option ℤ) (cells : ℕ) (cell_of : ℕ → ℤ → ℤ → ℕ) → SettingFits S → CostsFit S
    → CellsFit S cells cell_of → IsLawful (rules direction S threshold cells cell_of)

-- the tests of the space are those of the definitions
abbrev pub LabelTestLaw : Type 0
LabelTestLaw = (direction : Direction) (S : Setting) (l : Label) → (IsTrue (is_label direction S l) ↔ IsLabel direction S l)

abbrev pub DominanceTestLaw : Type 0
DominanceTestLaw = (direction : Direction) (S : Setting) (a b : Label) → (IsTrue (dominates direction S a b) ↔ Dominates direction S a b)

-- an extension that is defined and needs a dominator
pub record IsExtension (direction : Direction) (S : Setting) (threshold : Option ℤ) (l : Label) (a : ℕ) (m : Label) : Type 0 where
  pub defined : CanExtend direction S l a
  pub needed : NeedsDominator direction S threshold (extended direction S l a)
  pub is : extended direction S l a ≡ m

abbrev pub ExtensionTestLaw : Type 0
ExtensionTestLaw = (direction : Direction) (S : Setting) (threshold : Option ℤ) (l : Label) (a : ℕ) (m : Label)
    → ((extension direction S threshold l a ≡ Some m) ↔ IsExtension direction S threshold l a m)

-- the level rises over each arc on from a label, by at least 1
abbrev pub LevelRisesLaw : Type 0
LevelRisesLaw = (direction : Direction) (S : Setting) (l : Label) (a : ℕ) → SettingFits S → a < length S.graph.arcs → left direction S a ≡ l.vertex
    → (level direction S l +ℤ pos 1) ≤ℤ (level direction S (extended direction S l a))

-- an extension changes the cost by at most 2^73
abbrev pub CostChangeLaw : Type 0
CostChangeLaw = (direction : Direction) (S : Setting) (l : Label) (a : ℕ) → SettingFits S → CostsFit S → a < length S.graph.arcs
    → IsWithin (2 ^ 73) ((extended direction S l a).cost -ℤ l.cost)
