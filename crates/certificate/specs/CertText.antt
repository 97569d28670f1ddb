-- The words of the lines of a certificate, with numbers in printed form, and what holds of them.
use Rattle.std.specs.Prelude.{◌≡◌, ◌≢◌, ℕ, ◌<◌, ◌≤◌, ◌-◌, ◌^◌, ℤ, pos, neg_ℤ, ◌≤ℤ◌, List, [], ◌∷◌, ◌++◌, length, map, codes, decimal, Bool, true, false, MatchBool, All, nat_lt, IfSome, option_map}
use Rattle.std.specs.Fmt.{signed_decimal}
use Rattle.std.specs.List.{flat_map}
use Rattle.path_graph.specs.declared.set_bits.SetBits.{SetBits}
use Rattle.path_graph.specs.Fit.{is_used_at}
use Rattle.path_graph.specs.SetBits.{IsWhole}
use Rattle.path_graph.specs.Walk.{positions}
use Rattle.path_graph.specs.Within.{IsWithin}
use Rattle.rank1_cuts.specs.declared.cut.CutSet.{CutSet}
use Rattle.route_model.specs.declared.limits.TheConstants.{MAX_MULT, MAX_COST_RANGE}
use Rattle.route_model.specs.declared.multipliers.Quantity.{Quantity}
use Rattle.route_model.specs.declared.multipliers.Quantity.TheVariants as quantity
use Rattle.route_model.specs.declared.plan.Plan.{Plan}
use Rattle.label_rules.specs.declared.label.Label.{Label}
use Rattle.label_rules.specs.declared.table.Form.{Form}
use Rattle.label_rules.specs.declared.table.Form.TheVariants as form
use Rattle.label_rules.specs.declared.table.ProofTable.{ProofTable}
use Rattle.line_text.specs.Words.{Words}
use Rattle.line_text.specs.Items.{EachAfter, AllAt}
use Rattle.model_text.specs.LineWords.{last_of, is_above}
use Rattle.model_text.specs.PathText.{path_words, PlanFits}
use Rattle.certificate.specs.declared.cert.Goal.{Goal}
use Rattle.certificate.specs.declared.cert.Goal.TheVariants as goal
use Rattle.certificate.specs.declared.cert.Step.{Step}
use Rattle.certificate.specs.declared.cert.Trie.{Trie}
use Rattle.certificate.specs.declared.draft.CutLine.{CutLine}
use Rattle.certificate.specs.declared.draft.DropLine.{DropLine}
use Rattle.certificate.specs.declared.draft.Head.{Head}
use Rattle.certificate.specs.declared.draft.Head.TheVariants as head
use Rattle.certificate.specs.declared.draft.MultLine.{MultLine}
use Rattle.certificate.specs.declared.draft.NodeDraft.{NodeDraft}
use Rattle.certificate.specs.declared.limits.TheConstants.{MAX_NODES, MAX_CUTS, MAX_LABELS, MAX_STEPS}
use Rattle.certificate.specs.declared.sizes.Sizes.{Sizes}
use Rattle.certificate.specs.Sizes.{graph_at}
use Rattle.certificate.specs.SetWords.{members}
use Rattle.certificate.specs.LabelWords.{Shape, state_places, label_words}
use Rattle.certificate.specs.ProofWords.{NearLine, falls, rises, rank, kind_count, mult_key, near_key, mult_words, cut_words, near_words, table_words, drop_words, step_words, head_words}
use Rattle.certificate.specs.Draft.{has_proof, has_mults, is_fix, is_list, has_back, shape_of}

-- A certificate as its lines say it: the claim, the plan, and each node with its lines.
pub record Written : Type 0 where
  pub goal : Goal
  pub plan : Plan
  pub nodes : List NodeDraft

-- a table, and its labels
abbrev pub table_lines : Sizes → ℕ → ProofTable → List Words
table_lines s cuts t =
    table_words t ∷ map (λ l. codes "fore" ∷ label_words (shape_of s cuts t) l) t.fore
    ++ map (λ l. codes "back" ∷ label_words (shape_of s cuts t) l) t.back

-- a prefix tree, and its steps
abbrev pub trie_lines : Trie → List Words
trie_lines t = (codes "tree" ∷ decimal t.graph ∷ []) ∷ map step_words t.steps

-- a node: its first line, then multipliers, cuts, near lists, tables, dropped arcs, prefix trees
abbrev pub node_lines : Sizes → NodeDraft → List Words
node_lines s n =
    head_words n.head ∷ map mult_words n.mults ++ (map cut_words n.cuts ++ (map near_words n.near
    ++ (flat_map (table_lines s (length n.cuts)) n.tables ++ (map drop_words n.drops ++ flat_map trie_lines n.tries))))

abbrev pub goal_words : Goal → Words
goal_words (goal.Optimal cost) = codes "optimal" ∷ signed_decimal cost ∷ []
goal_words goal.Infeasible = codes "infeasible" ∷ []

-- the lines before the line of the version, that line, and the lines behind it
abbrev pub claim_lines : Written → List Words
claim_lines w = goal_words w.goal ∷ map path_words w.plan.paths

abbrev pub version_words : Words
version_words = codes "proof" ∷ codes "1" ∷ []

abbrev pub proof_lines : Sizes → Written → List Words
proof_lines s w = flat_map (node_lines s) w.nodes ++ (codes "end" ∷ []) ∷ []

-- What holds of the numbers: those of variables, rows, sets, graphs and vertices are known, lists ascend, and all keep their limits.
abbrev pub IsSigned : ℕ → ℤ → Type 0
IsSigned bits z = ((neg_ℤ (pos (2 ^ bits))) ≤ℤ z) × (z ≤ℤ (pos (2 ^ bits - 1)))

pub record SetFits (sets : ℕ) (set : SetBits) : Type 0 where
  pub whole : IsWhole set
  pub known : All (λ s. s < sets) (members set)

abbrev pub MultMay : Sizes → List MultLine → MultLine → Type 0
MultMay s before m =
    (falls (option_map mult_key (last_of before)) (rank m.kind) ≡ false) × (m.number < kind_count s m.kind)
    × (rises (option_map mult_key (last_of before)) (rank m.kind) m.number ≡ true) × IsWithin MAX_MULT m.value

abbrev pub CutSetFits : ℕ → CutSet → Type 0
CutSetFits sets c = (c.set < sets) × (c.num ≤ 255)

pub record CutLineFits (sets : ℕ) (c : CutLine) : Type 0 where
  pub den : c.cut.den ≤ 255
  pub weight : c.weight ≤ MAX_MULT
  pub count : length c.cut.sets ≤ 4294967295
  pub each : All (CutSetFits sets) c.cut.sets
  pub memory : SetFits sets c.cut.memory

abbrev pub NearMay : Sizes → List NearLine → NearLine → Type 0
NearMay s before n =
    (n.0 < length s.graphs) × (falls (option_map near_key (last_of before)) n.0 ≡ false)
    × (n.1 < (graph_at s n.0).vertices) × (rises (option_map near_key (last_of before)) n.0 n.1 ≡ true) × SetFits s.sets n.2

abbrev pub ValueFits : Bool → ℤ → Type 0
ValueFits used value = MatchBool used (IsSigned 31 value) (value ≡ pos 0)

abbrev pub StateFits : Bool → ℕ → Type 0
StateFits used state = MatchBool used (state ≤ 255) (state ≡ 0)

-- a value for each resource and 0 beside them, a state for each cut and 0 behind them
pub record LabelFits (shape : Shape) (l : Label) : Type 0 where
  pub vertex : l.vertex < shape.vertices
  pub cost : IsWithin (2 ^ 112) l.cost
  pub values : AllAt (λ k value. ValueFits (is_used_at shape.ends k) value) positions l.values.at
  pub memory : SetFits shape.sets l.memory
  pub states : AllAt (λ k state. StateFits (nat_lt k shape.cuts) state) state_places l.states

abbrev pub FormFits : Form → Type 0
FormFits (form.Half t) = IsSigned 31 t
FormFits f = Unit {0}

-- the line of a table, after the tables before
abbrev pub TableMay : Sizes → List ProofTable → ProofTable → Type 0
TableMay s before t =
    (t.graph < length s.graphs) × (is_above (option_map (λ u. u.graph) (last_of before)) t.graph ≡ true)
    × FormFits t.form × IfSome t.least (IsWithin (2 ^ 112))

pub record LabelsFit (shape : Shape) (t : ProofTable) : Type 0 where
  pub fore : All (LabelFits shape) t.fore
  pub few_fore : length t.fore ≤ MAX_LABELS
  pub back : All (LabelFits shape) t.back
  pub few_back : length t.back ≤ MAX_LABELS
  pub none_back : has_back t.form ≡ false → t.back ≡ []

pub record DropFits (s : Sizes) (d : DropLine) : Type 0 where
  pub graph : d.graph < length s.graphs
  pub some_arcs : d.arcs ≢ []
  pub arcs : All (λ arc. arc ≤ 4294967295) d.arcs

abbrev pub StepFits : Step → Type 0
StepFits p = (p.parent ≤ 4294967295) × (p.arc ≤ 4294967295)

pub record TrieFits (s : Sizes) (t : Trie) : Type 0 where
  pub graph : t.graph < length s.graphs
  pub steps : All StepFits t.steps
  pub few : length t.steps ≤ MAX_STEPS

-- a split stands on a variable or on the paths of a graph
abbrev pub QuantityFits : Sizes → Quantity → Type 0
QuantityFits s (quantity.Var n) = n < s.vars
QuantityFits s (quantity.Paths n) = n < length s.graphs
QuantityFits s q = ⊥

abbrev pub HeadFits : Sizes → Head → Type 0
HeadFits s (head.Split split) = QuantityFits s split.quantity × IsSigned 63 split.at
HeadFits s (head.CountSplit walk at) = (walk ≤ 4294967295) × IsSigned 63 at
HeadFits s h = Unit {0}

-- a node has the lines of its form alone
pub record Belongs (n : NodeDraft) : Type 0 where
  pub mults : has_mults n.head ≡ false → n.mults ≡ []
  pub cuts : has_proof n.head ≡ false → n.cuts ≡ []
  pub near : has_proof n.head ≡ false → n.near ≡ []
  pub tables : has_proof n.head ≡ false → n.tables ≡ []
  pub drops : is_fix n.head ≡ false → n.drops ≡ []
  pub tries : is_list n.head ≡ false → n.tries ≡ []

pub record NodeFits (s : Sizes) (n : NodeDraft) : Type 0 where
  pub head : HeadFits s n.head
  pub belongs : Belongs n
  pub mults : EachAfter (MultMay s) [] n.mults
  pub cuts : All (CutLineFits s.sets) n.cuts
  pub few_cuts : length n.cuts ≤ MAX_CUTS
  pub near : EachAfter (NearMay s) [] n.near
  pub tables : EachAfter (TableMay s) [] n.tables
  pub labels : All (λ t. LabelsFit (shape_of s (length n.cuts) t) t) n.tables
  pub drops : All (DropFits s) n.drops
  pub tries : All (TrieFits s) n.tries

-- the plan of `infeasible` has no path
abbrev pub GoalFits : Goal → Plan → Type 0
GoalFits (goal.Optimal cost) plan = IsWithin MAX_COST_RANGE cost
GoalFits goal.Infeasible plan = plan.paths ≡ []

pub record WrittenFits (s : Sizes) (w : Written) : Type 0 where
  pub goal : GoalFits w.goal w.plan
  pub plan : PlanFits w.plan
  pub few : length w.nodes ≤ MAX_NODES
  pub each : All (NodeFits s) w.nodes
