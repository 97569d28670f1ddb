-- What the parts of a proof keep beside what is asked of it: lengths, ranges, known numbers and orders.
use Rattle.std.specs.Prelude.{◌≡◌, ℕ, ◌<◌, ◌≤◌, ◌^◌, List, length, map, All}
use Rattle.std.specs.List.Sorted.{IsStrictlyIncreasing}
use Rattle.path_graph.specs.declared.set_bits.SetBits.{SetBits}
use Rattle.path_graph.specs.Within.{IsWithin}
use Rattle.route_model.specs.declared.limits.TheConstants.{MAX_MULT}
use Rattle.route_model.specs.Parts.{ModelParts, graph_in}
use Rattle.multipliers.specs.Ranges.{MultFits}
use Rattle.safe_bound.specs.Promise.{IsLeastNear}
use Rattle.label_rules.specs.declared.label.Label.{Label}
use Rattle.label_rules.specs.declared.table.ProofTable.{ProofTable}
use Rattle.label_rules.specs.Labels.{state_at}
use Rattle.certificate.specs.declared.cert.Proof.{Proof}

-- the cost of a label is within 2^112 of 0, and its states are 0 from the number of cuts on
pub record LabelKeeps (cuts : ℕ) (l : Label) : Type 0 where
  pub cost : IsWithin (2 ^ 112) l.cost
  pub unused : (i : ℕ) → i < 64 → cuts ≤ i → state_at l i ≡ 0

-- so do all labels of a list
abbrev pub ListKeeps : ℕ → List Label → Type 0
ListKeeps cuts labels = All (LabelKeeps cuts) labels

-- a table is one of a graph that is there, its lists keep their labels, and its least is within 2^112 of 0
pub record TableKeeps (graphs cuts : ℕ) (t : ProofTable) : Type 0 where
  pub graph : t.graph < graphs
  pub least : IsLeastNear t.least
  pub fore : ListKeeps cuts t.fore
  pub back : ListKeeps cuts t.back

-- the vertex of a near list is there
abbrev pub IsKnown : ModelParts → ℕ × ℕ × SetBits → Type 0
IsKnown m line = (line.0 < length m.graphs) × (line.1 < length (graph_in m.graphs line.0).vertices)

-- the graphs of tables, in their order
abbrev pub graphs_of : List ProofTable → List ℕ
graphs_of tables = map (λ (t : ProofTable). t.graph) tables

-- a proof: multipliers in their ranges, at most 64 cuts, each with a weight, near lists of vertices that are there, and
-- tables that ascend by their graphs
pub record ProofKeeps (m : ModelParts) (p : Proof) : Type 0 where
  pub mult : MultFits m p.mult
  pub few_cuts : length p.cuts ≤ 64
  pub weights : length p.mult.cuts ≡ length p.cuts
  pub each_weight : All (λ y. y ≤ MAX_MULT) p.mult.cuts
  pub near : All (IsKnown m) p.near
  pub tables : All (TableKeeps (length m.graphs) (length p.cuts)) p.tables
  pub ascend : IsStrictlyIncreasing (graphs_of p.tables)
