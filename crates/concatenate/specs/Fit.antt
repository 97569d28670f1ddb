-- Which labels may be joined.
use Rattle.std.specs.Prelude.{◌^◌}
use Rattle.path_graph.specs.Within.{IsWithin}
use Rattle.label_rules.specs.Dominance.{StatesFit}
use Rattle.label_rules.specs.declared.label.Label.{Label}
use Rattle.label_rules.specs.Labels.{Setting}
use Rattle.label_rules.specs.Tables.{LiesInWindows}

-- a label stands at a vertex of the graph, its values within the windows there, its states below the denominators, and its
-- cost within 2^112 of 0
pub record MayJoin (S : Setting) (l : Label) : Type 0 where
  pub windows : LiesInWindows S l
  pub states : StatesFit S l
  pub cost : IsWithin (2 ^ 112) l.cost
