-- The labels of a field as spaces: forward up to a threshold, and backward above one. A cell is a vertex.
use Rattle.std.specs.Prelude.{◌≡◌, ℕ, ◌<◌, ◌≤◌, ℤ, Option, length}
use Rattle.label_space.specs.Rules.{Rules}
use Rattle.label_rules.specs.declared.label.Label.{Label}
use Rattle.label_rules.specs.Labels.{Setting, Direction, Forward, Backward, state_at}
use Rattle.label_rules.specs.Dominance.{StatesFit}
use Rattle.label_rules.specs.Tables.{LiesInWindows}
use Rattle.label_rules.specs.Spaces.{rules}
use Rattle.route_labels.specs.declared.field.Field.{Field}
use Rattle.route_labels.specs.Meaning.{setting_of}

abbrev pub vertex_of : ℕ → ℤ → ℤ → ℕ
vertex_of v first second = v

abbrev pub rules_of : Direction → Setting → Option ℤ → Rules Label
rules_of direction S threshold = rules direction S threshold (length S.graph.vertices) vertex_of

abbrev pub forward_rules : Field → Option ℤ → Rules Label
forward_rules f top = rules_of Forward (setting_of f) top

abbrev pub backward_rules : Field → Option ℤ → Rules Label
backward_rules f above = rules_of Backward (setting_of f) above

-- a label stands at a vertex of the graph, its values within the windows there, its states below the denominators and 0 from
-- the number of cuts on
pub record Stands (S : Setting) (l : Label) : Type 0 where
  pub windows : LiesInWindows S l
  pub states : StatesFit S l
  pub unused : (i : ℕ) → i < 64 → length S.cuts ≤ i → state_at l i ≡ 0
