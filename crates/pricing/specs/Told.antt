-- Tables of labels that the text of a certificate can tell.
use Rattle.std.specs.Prelude.{◌≡◌, ◌^◌, ℕ, ◌<◌, ◌≤◌, false, List, [], All, IfSome, length}
use Rattle.path_graph.specs.Within.{IsWithin}
use Rattle.label_rules.specs.declared.table.ProofTable.{ProofTable}
use Rattle.line_text.specs.Items.{EachAfter}
use Rattle.certificate.specs.declared.limits.TheConstants.{MAX_LABELS}
use Rattle.certificate.specs.declared.sizes.Sizes.{Sizes}
use Rattle.certificate.specs.CertText.{FormFits, LabelFits, LabelsFit, TableMay}
use Rattle.certificate.specs.Draft.{has_back, shape_of}
use Rattle.pricing.specs.declared.graph_table.OneOut.{OneOut}
use Rattle.pricing.specs.declared.graph_table.OneOut.TheVariants as one
use Rattle.pricing.specs.declared.every_graph.TablesOut.{TablesOut}
use Rattle.pricing.specs.declared.every_graph.TablesOut.TheVariants.{Tables, Wall, Memory}

-- beside so many cuts the text can tell each number of the table of graph g, whose lists have at most so many labels
pub record IsTold (s : Sizes) (cuts most g : ℕ) (t : ProofTable) : Type 0 where
  pub graph : t.graph ≡ g
  pub known : g < length s.graphs
  pub form : FormFits t.form
  pub least : IfSome t.least (IsWithin (2 ^ 112))
  pub fore : All (LabelFits (shape_of s cuts t)) t.fore
  pub few_fore : length t.fore ≤ most
  pub back : All (LabelFits (shape_of s cuts t)) t.back
  pub few_back : length t.back ≤ most
  pub none_back : has_back t.form ≡ false → t.back ≡ []

-- where lists of so many labels may stand in the text, the tables may stand there one after another
abbrev pub AreTold : Sizes → ℕ → ℕ → List ProofTable → Type 0
AreTold s cuts most tables = most ≤ MAX_LABELS → EachAfter (TableMay s) [] tables × All (λ (t : ProofTable). LabelsFit (shape_of s cuts t) t) tables

-- so it is of the tables that come of one graph, and of all
abbrev pub IsOneTold : Sizes → ℕ → ℕ → ℕ → OneOut → Type 0
IsOneTold s cuts most g (one.Table t made) = IsTold s cuts most g t
IsOneTold s cuts most g (one.Wall is_backward t) = Unit {0}
IsOneTold s cuts most g one.Memory = Unit {0}

abbrev pub AreAllTold : Sizes → ℕ → ℕ → TablesOut → Type 0
AreAllTold s cuts most (Tables tables made) = AreTold s cuts most tables
AreAllTold s cuts most (Wall g is_backward t) = Unit {0}
AreAllTold s cuts most Memory = Unit {0}
