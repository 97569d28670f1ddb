-- What comes of filling the tables of every graph.
use Rattle.std.specs.Prelude.{◌≡◌, ℕ, ◌<◌, Bool, true, false, None, List, length, slice_get, Some}
use Rattle.label_core.specs.declared.table.Table.{Table}
use Rattle.label_core.specs.Points.{IsSound}
use Rattle.label_rules.specs.declared.label.Label.{Label}
use Rattle.label_rules.specs.declared.table.Form.{Form}
use Rattle.label_rules.specs.declared.table.Form.TheVariants as form
use Rattle.label_rules.specs.declared.table.ProofTable.{ProofTable}
use Rattle.label_rules.specs.Labels.{Backward, Direction, Forward, Setting}
use Rattle.route_labels.specs.Rules.{rules_of}
use Rattle.proof_rules.specs.TableWalls.{IsTableOver}
use Rattle.pricing.specs.declared.graph_table.OneOut.{OneOut}
use Rattle.pricing.specs.declared.graph_table.OneOut.TheVariants as one
use Rattle.pricing.specs.declared.every_graph.TablesOut.{TablesOut}
use Rattle.pricing.specs.declared.every_graph.TablesOut.TheVariants.{Tables, Wall, Memory}
use Rattle.pricing.specs.Tables.{IsTableIn}
use Rattle.pricing.specs.Walks.{HasPartialWalks}

-- the direction that is told
abbrev pub direction_of : Bool → Direction
direction_of true = Backward
direction_of false = Forward

-- the table of partial walks as it was filled
pub record IsMadeIn (S : Setting) (t : Table Label) : Type 0 where
  pub sound : IsSound (rules_of Forward S None) t.cells
  pub walks : HasPartialWalks S.graph t.cells

-- the form that is asked for: both lists, or that of partial walks alone
abbrev pub whole_form : Bool → Form
whole_form true = form.Both
whole_form false = form.Full

-- what comes of one graph
abbrev pub IsOneOutcome : Setting → ℕ → Bool → ℕ → OneOut → Type 0
IsOneOutcome S g both limit (one.Table t made) = IsTableIn S g t × (t.form ≡ whole_form both) × IsMadeIn S made
IsOneOutcome S g both limit (one.Wall is_backward t) = IsTableOver limit (direction_of is_backward) S t.cells
IsOneOutcome S g both limit one.Memory = Unit {0}

-- there are n items, and P holds of each with its number
pub record EachHas {X : Type 0} (n : ℕ) (xs : List X) (P : ℕ → X → Type 0) : Type 0 where
  pub count : length xs ≡ n
  pub each : (g : ℕ) (x : X) → slice_get xs g ≡ Some x → P g x

-- a table for each of n graphs, with the table of partial walks as it was filled
pub record AreTables (n : ℕ) (setting : ℕ → Setting) (both : Bool) (tables : List ProofTable) (made : List (Table Label)) : Type 0 where
  pub each_table : EachHas n tables (λ g t. IsTableIn (setting g) g t × (t.form ≡ whole_form both))
  pub each_made : EachHas n made (λ g t. IsMadeIn (setting g) t)

-- a table of a graph stopped at the limit
pub record IsWallIn (n : ℕ) (setting : ℕ → Setting) (limit g : ℕ) (is_backward : Bool) (t : Table Label) : Type 0 where
  pub graph : g < n
  pub wall : IsTableOver limit (direction_of is_backward) (setting g) t.cells

abbrev pub IsOutcome : ℕ → (ℕ → Setting) → Bool → ℕ → TablesOut → Type 0
IsOutcome n setting both limit (Tables tables made) = AreTables n setting both tables made
IsOutcome n setting both limit (Wall g is_backward t) = IsWallIn n setting limit g is_backward t
IsOutcome n setting both limit Memory = Unit {0}
