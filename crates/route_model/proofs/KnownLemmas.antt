-- The arcs of walks of a model are there, and have their lists of variables.
use Rattle.std.proofs.Common.{ℕ, ◌<◌, List, [], ◌∷◌, All, length, sym, subst}
use Rattle.std.proofs.lemmas.List.Elements.{All-nil, All-cons, All-from_get_or}
use Rattle.path_graph.specs.Walk.{GraphParts, arc_at, Leads, IsFeasibleWalk}
use Rattle.route_model.specs.declared.plan.Taken.{Taken}
use Rattle.route_model.specs.declared.plan.Plan.{Plan}
use Rattle.route_model.specs.Fit.{ModelFits}
use Rattle.route_model.specs.Known.{AreArcsOf, AreMapped}
use Rattle.route_model.specs.Parts.{ModelParts, graph_at, taken_at}
use Rattle.route_model.specs.Solution.{IsPath, ArePaths}

-- arcs that lead on are there
pub leads_below : (g : GraphParts) (v : ℕ) (arcs : List ℕ) (w : ℕ) → Leads g v arcs w → All (λ a. a < length g.arcs) arcs
leads_below g v [] w h = All-nil (λ a. a < length g.arcs)
leads_below g v (a ∷ arcs) w h = All-cons (λ b. b < length g.arcs) a arcs h.0 (leads_below g (arc_at g.arcs a).head arcs w h.2)

pub arcs_there : (g : GraphParts) (arcs : List ℕ) → IsFeasibleWalk g arcs → All (λ a. a < length g.arcs) arcs
arcs_there g arcs walk = leads_below g g.ends.source arcs g.ends.sink walk.walk

pub path_arcs : (m : ModelParts) (t : Taken) → IsPath m t → AreArcsOf m.graphs t.graph t.arcs
path_arcs m t path = record { graph = path.graph; each = arcs_there (graph_at m t.graph) t.arcs path.walk }

pub path_mapped : (m : ModelParts) (t : Taken) → ModelFits m → IsPath m t → AreMapped m.maps t.graph t.arcs
path_mapped m t fits path = record {
  graph = subst (λ (n : ℕ). t.graph < n) (sym fits.maps.graphs_mapped) path.graph;
  each =
      subst (λ (n : ℕ). All (λ a. a < n) t.arcs) (sym (fits.maps.each t.graph path.graph).arcs) (arcs_there (graph_at m t.graph) t.arcs path.walk);
}

-- so are those of all paths of a plan
pub plan_arcs : (m : ModelParts) (plan : Plan) → ArePaths m plan → All (λ t. AreArcsOf m.graphs t.graph t.arcs) plan.paths
plan_arcs m plan paths = All-from_get_or (λ t. AreArcsOf m.graphs t.graph t.arcs) plan.paths (record { graph = 0; count = 0; arcs = [] }) (λ i l. path_arcs m (taken_at plan.paths i) (paths i l))

pub plan_mapped : (m : ModelParts) (plan : Plan) → ModelFits m → ArePaths m plan → All (λ t. AreMapped m.maps t.graph t.arcs) plan.paths
plan_mapped m plan fits paths = All-from_get_or (λ t. AreMapped m.maps t.graph t.arcs) plan.paths (record { graph = 0; count = 0; arcs = [] }) (λ i l. path_mapped m (taken_at plan.paths i) fits (paths i l))
