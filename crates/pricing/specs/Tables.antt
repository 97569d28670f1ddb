-- The table of labels of a graph, with exactly its least.
use Rattle.std.specs.Prelude.{◌≡◌, ℕ, ◌^◌, ℤ, Option, IfSome, List, All, Contains}
use Rattle.path_graph.specs.Within.{IsWithin}
use Rattle.label_rules.specs.declared.label.Label.{Label}
use Rattle.label_rules.specs.declared.table.ProofTable.{ProofTable}
use Rattle.label_rules.specs.Labels.{Setting}
use Rattle.label_rules.specs.Leasts.{Form, Full, Both, Half, IsTable}
use Rattle.concatenate.specs.Costs.{IsJoinCost, IsLeastWith}
use Rattle.cert_rules.specs.Meaning.{form_of}

-- a label of the list stands at the sink, at this cost
pub record IsSinkCost (sink : ℕ) (labels : List Label) (cost : ℤ) : Type 0 where
  pub label : Label
  pub listed : Contains labels label
  pub at_sink : label.vertex ≡ sink
  pub same : label.cost ≡ cost

-- the least cost at the sink, or of a half pair the least join; none where there is none of these
abbrev pub IsExactLeast : Setting → Form → List Label → List Label → Option ℤ → Type 0
IsExactLeast S Full fore back least = IsLeastWith (IsSinkCost S.graph.ends.sink fore) least
IsExactLeast S Both fore back least = IsLeastWith (IsSinkCost S.graph.ends.sink fore) least
IsExactLeast S (Half t) fore back least = IsLeastWith (IsJoinCost S fore back) least

-- the costs of labels are within 2^112 of 0
abbrev pub AreNear : List Label → Type 0
AreNear labels = All (λ (l : Label). IsWithin (2 ^ 112) l.cost) labels

-- the table of graph g: closed, with exactly its least, and all costs within 2^112 of 0
pub record IsTableIn (S : Setting) (g : ℕ) (t : ProofTable) : Type 0 where
  pub graph : t.graph ≡ g
  pub closed : IsTable S (form_of t.form) t.fore t.back
  pub least_is : IsExactLeast S (form_of t.form) t.fore t.back t.least
  pub fore_near : AreNear t.fore
  pub back_near : AreNear t.back
  pub least_near : IfSome t.least (IsWithin (2 ^ 112))
