-- Why a list of walks stops at a limit of labels: its trees have so many lines, and one more is demanded.
use Rattle.std.specs.Prelude.{◌≡◌, ◌≢◌, ℕ, suc, ◌<◌, ℤ, ◌≤ℤ◌, Option, List, [], length, sum_by, All}
use Rattle.std.specs.List.{AllPairs}
use Rattle.path_graph.specs.First.{EachBelow}
use Rattle.path_graph.specs.Walk.{GraphParts, Leads, Passes, root_of}
use Rattle.route_model.specs.declared.places.Spot.{Spot}
use Rattle.route_model.specs.Costs.{cost_above_all}
use Rattle.route_model.specs.Parts.{ModelParts, graph_in}
use Rattle.route_model.specs.Places.{SpotFits}
use Rattle.label_rules.specs.declared.label.Label.{Label}
use Rattle.label_rules.specs.Labels.{Setting}
use Rattle.proof_rules.specs.Counts.{Walk}
use Rattle.proof_rules.specs.Nodes.{ArePoints, tree_at}
use Rattle.proof_rules.specs.PrefixTrees.{IsDemanded, IsPrefix, IsStep, IsTree, Step, node_vertex, step_at}
use Rattle.proof_rules.specs.Proofs.{AreBoth, IsProof, Proof, setting_of, table_at, walk_limit}

-- a tree each of whose steps is over a demanded arc
pub record IsDemandedTree (S : Setting) (back : List Label) (limit : Option ℤ) (steps : List Step) : Type 0 where
  pub tree : IsTree S steps
  pub demanded : (n : ℕ) (arcs : List ℕ) → n < length steps → IsPrefix steps (step_at steps n).parent arcs → IsDemanded S back limit arcs (step_at steps n).arc

-- a demanded arc of a node, but at the sink, leads to no child
pub record IsUnfinished (S : Setting) (back : List Label) (limit : Option ℤ) (steps : List Step) : Type 0 where
  pub node : ℕ
  pub arcs : List ℕ
  pub prefix : IsPrefix steps node arcs
  pub inside : node_vertex S steps node ≢ S.graph.ends.sink
  pub arc : ℕ
  pub demanded : IsDemanded S back limit arcs arc
  pub none : (n : ℕ) → ¬ (IsStep steps node arc n)

-- the backward labels and the limit of a graph
abbrev pub OfGraph : ((S : Setting) → List Label → Option ℤ → List Step → Type 0) → ModelParts → Spot → Proof → ℤ → List (List Step) → ℕ → Type 0
OfGraph Is m spot p z trees g = Is (setting_of m spot p g) (table_at p.tables g).back (walk_limit m spot p z g) (tree_at trees g)

-- at a place of the model whose variables are fixed, with a proof whose tables are pairs of whole lists, the trees of the
-- graphs have exactly so many lines, each over a demanded arc, and some demanded arc leads to no child
pub record IsListWall (m : ModelParts) (limit : ℕ) (spot : Spot) (p : Proof) (z : ℤ) (trees : List (List Step)) : Type 0 where
  pub place : SpotFits m spot
  pub points : ArePoints spot.boxes.vars
  pub proof : IsProof m spot p
  pub both : AreBoth m p
  pub most : z ≤ℤ cost_above_all m
  pub count : length trees ≡ length m.graphs
  pub each : EachBelow (length m.graphs) (OfGraph IsDemandedTree m spot p z trees)
  pub lines : sum_by length trees ≡ limit
  pub graph : ℕ
  pub there : graph < length m.graphs
  pub unfinished : OfGraph IsUnfinished m spot p z trees graph

-- a partial walk of a graph that is feasible and has an arc
pub record IsSomePartial (g : GraphParts) (arcs : List ℕ) : Type 0 where
  pub some : arcs ≢ []
  pub ends : ℕ
  pub leads : Leads g g.ends.source arcs ends
  pub passes : Passes g (root_of g) arcs

pub record IsPartialOf (m : ModelParts) (w : Walk) : Type 0 where
  pub graph : w.graph < length m.graphs
  pub partial : IsSomePartial (graph_in m.graphs w.graph) w.arcs

-- different ones
pub record AreDifferentPartials (m : ModelParts) (walks : List Walk) : Type 0 where
  pub each : All (IsPartialOf m) walks
  pub differ : AllPairs (λ x y. x ≢ y) walks

-- so there are more different feasible partial walks with an arc, over all graphs, than the limit
abbrev pub ListWallLaw : Type 0
ListWallLaw = (m : ModelParts) (limit : ℕ) (spot : Spot) (p : Proof) (z : ℤ) (trees : List (List Step)) → IsListWall m limit spot p z trees
    → (walks : List Walk) × (length walks ≡ suc limit) × AreDifferentPartials m walks
