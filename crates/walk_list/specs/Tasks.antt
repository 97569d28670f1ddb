-- The parts of a listing by graph, and a listing graph by graph.
use Rattle.std.specs.Prelude.{◌≡◌, ℕ, ◌<◌, ◌≤◌, ◌+◌, ℤ, Option, List, length, map, sum_by}
use Rattle.path_graph.specs.First.{EachBelow}
use Rattle.label_rules.specs.declared.label.Label.{Label}
use Rattle.label_rules.specs.declared.table.ProofTable.{ProofTable}
use Rattle.label_rules.specs.Labels.{Setting}
use Rattle.safe_bound.specs.Bounds.{limit_of}
use Rattle.proof_rules.specs.ListWalls.{IsDemandedTree, IsUnfinished}
use Rattle.proof_rules.specs.PrefixTrees.{Step}
use Rattle.proof_rules.specs.Proofs.{Proof}
use Rattle.route_labels.specs.declared.field.Field.{Field}
use Rattle.route_labels.specs.Meaning.{setting_of}
use Rattle.certificate.specs.declared.cert.Trie.{Trie}
use Rattle.cert_rules.specs.Meaning.{steps_of}
use Rattle.walk_list.specs.declared.task.Task.{Task}
use Rattle.walk_list.specs.Growing.{IsWhole}
use Rattle.walk_list.specs.Listings.{AreInOrder, IsProofWith, ListingFits, table_at, trie_at}

abbrev pub TaskFits : Task → Type 0
TaskFits t = ListingFits t.model.now t.spot.now t.priced.now t.near.now t.cuts.now t.y.now t.tables.now

-- a proof has the parts of a task
abbrev pub IsProofOf : Task → Proof → Type 0
IsProofOf t = IsProofWith t.model.now t.spot.now t.priced.now t.near.now t.cuts.now t.y.now t.tables.now

-- what labels of a graph are made from, what they see, the labels of rests, and the limit
abbrev pub field_in : Task → ℕ → Field
field_in t g = record { model = t.model; graph = g; spot = t.spot; priced = t.priced; near = t.near; cuts = t.cuts; y = t.y }

abbrev pub setting_in : Task → ℕ → Setting
setting_in t g = setting_of (field_in t g)

abbrev pub back_in : Task → ℕ → List Label
back_in t g = (table_at t.tables.now g).back

abbrev pub leasts_in : Task → List (Option ℤ)
leasts_in t = map (λ (table : ProofTable). table.least) t.tables.now

abbrev pub limit_in : Task → ℕ → Option ℤ
limit_in t g = limit_of (length t.spot.now.boxes.paths) t.spot.now.boxes.paths (leasts_in t) t.priced.now.base g t.z

-- a property of the tree of a graph
abbrev pub InGraph : ((S : Setting) → List Label → Option ℤ → List Step → Type 0) → Task → List Trie → ℕ → Type 0
InGraph Is t tries g = Is (setting_in t g) (back_in t g) (limit_in t g) (steps_of (trie_at tries g))

-- how many lines they have together
abbrev pub lines_in : List Trie → ℕ
lines_in tries = sum_by (λ (trie : Trie). length trie.steps) tries

-- the trees of the graphs below a number are whole, and there is so much room left
pub record AreWholeBelow (t : Task) (limit room n : ℕ) (tries : List Trie) : Type 0 where
  pub order : AreInOrder n tries
  pub each : EachBelow n (InGraph IsWhole t tries)
  pub lines : lines_in tries + room ≡ limit

-- the trees of all graphs are whole, and have at most so many lines
pub record AreAllWhole (t : Task) (limit : ℕ) (tries : List Trie) : Type 0 where
  pub order : AreInOrder (length t.model.now.graphs) tries
  pub each : EachBelow (length t.model.now.graphs) (InGraph IsWhole t tries)
  pub lines : lines_in tries ≤ limit

-- the trees have so many lines, each over a demanded arc, and in one of them a demanded arc leads to no child
pub record AreFull (t : Task) (limit n : ℕ) (tries : List Trie) : Type 0 where
  pub order : AreInOrder n tries
  pub each : EachBelow n (InGraph IsDemandedTree t tries)
  pub lines : lines_in tries ≡ limit
  pub graph : ℕ
  pub there : graph < n
  pub unfinished : InGraph IsUnfinished t tries graph
