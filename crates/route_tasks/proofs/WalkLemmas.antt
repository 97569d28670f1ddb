-- Lemmas on the walks of the model of a task.
use Rattle.std.proofs.Common.{◌≡◌, ℕ, ◌+◌, ◌<◌, ◌≤◌, List, [], ◌∷◌, ◌++◌, length, map, take, get_or, All, sym, ◌∙◌, ap, subst, arith}
use Rattle.std.proofs.lemmas.List.{get_or_default, take_more, map_push}
use Rattle.std.proofs.lemmas.List.Elements.{All-cons}
use Rattle.path_graph.specs.Walk.{GraphParts, Leads, IsFeasibleWalk, arc_at}
use Rattle.route_model.specs.declared.plan.Taken.{Taken}
use Rattle.route_model.specs.declared.plan.Plan.{Plan}
use Rattle.route_model.specs.Parts.{graph_at, taken_at}
use Rattle.route_model.specs.Solution.{IsPath, ArePaths}
use Rattle.route_tasks.specs.declared.task.RouteTask.{RouteTask}
use Rattle.route_tasks.specs.Places.{place_at}
use Rattle.route_tasks.specs.ModelOf.{arcs_of, graph_of, model_of}
use Rattle.route_tasks.specs.Routes.{visited, numbers_of}
use Rattle.route_tasks.proofs.ListLemmas.{all_none}

-- a walk has arcs of the graph
pub leads_known : (g : GraphParts) (v : ℕ) (arcs : List ℕ) (w : ℕ) → Leads g v arcs w → All (λ a. a < length g.arcs) arcs
leads_known g v [] w leads = all_none (λ a. a < length g.arcs)
leads_known g v (a ∷ rest) w leads = All-cons (λ b. b < length g.arcs) a rest leads.0 (leads_known g (arc_at g.arcs a).head rest w leads.2)

-- a path of a plan of the model is a walk of its one graph
pub record IsTaskPath (task : RouteTask) (t : Taken) : Type 0 where
  pub graph : t.graph ≡ 0
  pub count : 1 ≤ t.count
  pub walk : IsFeasibleWalk (graph_of task) t.arcs

task_path : (task : RouteTask) (t : Taken) → IsPath (model_of task) t → IsTaskPath task t
task_path task t is =
    let first : t.graph ≡ 0 = only t.graph is.graph in
    record { graph = first; count = is.count; walk = subst (λ (g : ℕ). IsFeasibleWalk (graph_at (model_of task) g) t.arcs) first is.walk }
  where
    only : (g : ℕ) → g < 1 → g ≡ 0
    only g l = omega (arith, l)

pub each_path : (task : RouteTask) (plan : Plan) → ArePaths (model_of task) plan → All (IsTaskPath task) plan.paths
each_path task plan are k d l =
    let at : taken_at plan.paths k ≡ get_or plan.paths k d = get_or_default plan.paths k _ d l in
    task_path task (get_or plan.paths k d) (subst (IsPath (model_of task)) at (are k l))

pub plan_known : (task : RouteTask) (plan : Plan) → ArePaths (model_of task) plan → All (λ t. All (λ a. a < length (arcs_of task)) t.arcs) plan.paths
plan_known task plan are k d l =
    let path = each_path task plan are k d l in
    leads_known (graph_of task) 0 (get_or plan.paths k d).arcs _ path.walk.walk

-- one path more
pub routes_more : (task : RouteTask) (paths : List Taken) (i : ℕ) (t : Taken) → i < length paths → t ≡ get_or paths i t
    → numbers_of task (map (λ u. visited task u.arcs) (take (i + 1) paths)) ≡ numbers_of task (map (λ u. visited task u.arcs) (take i paths)) ++ map (λ v. (place_at task v).number) (visited task t.arcs) ∷ []
routes_more task paths i t l is =
    ap (λ ts. numbers_of task (map (λ (u : Taken). visited task u.arcs) ts)) (take_more paths i t l ∙ ap (λ (u : Taken). take i paths ++ u ∷ []) (sym is))
    ∙ (ap (numbers_of task) (map_push (λ (u : Taken). visited task u.arcs) (take i paths) t)
    ∙ map_push (map (λ v. (place_at task v).number)) (map (λ (u : Taken). visited task u.arcs) (take i paths)) (visited task t.arcs))

pub routes_pushed : (task : RouteTask) (paths : List Taken) (i : ℕ) (t : Taken) (xs ys : List (List ℕ)) (x : List ℕ) → i < length paths → t ≡ get_or paths i t → xs ≡ numbers_of task (map (λ u. visited task u.arcs) (take i paths))
    → ys ≡ xs ++ x ∷ [] → x ≡ map (λ v. (place_at task v).number) (visited task t.arcs) → ys ≡ numbers_of task (map (λ u. visited task u.arcs) (take (i + 1) paths))
routes_pushed task paths i t xs ys x l is before more item = more ∙ ((λ k. before k ++ item k ∷ []) ∙ sym (routes_more task paths i t l is))
