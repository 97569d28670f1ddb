use Rattle.std.proofs.Common.{◌≡◌, ◌<◌, ◌∙◌, ap, sym, subst, All, length, List, ℕ}
use Rattle.path_graph.specs.declared.parts.GraphArc.{GraphArc}
use Rattle.route_model.specs.declared.plan.Taken.{Taken}
use Rattle.route_tasks.proofs.WalkLemmas.{plan_known}
use Rattle.route_tasks.proofs.PlanLemmas.{numbered_plan}
use Rattle.std.proofs.Common.{Result, Ok, Err, map}
use Rattle.std.specs.Prelude.{IfOk}
use Rattle.path_graph.specs.declared.list.NoMemory.{NoMemory}
use Rattle.route_model.specs.declared.plan.Plan.{Plan}
use Rattle.route_model.specs.Quantities.{cost_of}
use Rattle.route_model.specs.Solution.{IsSolution}
use Rattle.route_tasks.specs.declared.task.RouteTask.{RouteTask}
use Rattle.route_tasks.specs.Fit.{TaskFits}
use Rattle.route_tasks.specs.ModelOf.{model_of}
use Rattle.route_tasks.specs.Routes.{visited, numbers_of, IsNumberedPlan}
use Rattle.route_tasks.proofs.routing.routes_of.Goals as goal

moved : (arcs arcs2 : List GraphArc) (paths paths2 : List Taken) → arcs2 ≡ arcs → paths2 ≡ paths → All (λ (t : Taken). All (λ a. a < length arcs) t.arcs) paths → All (λ (t : Taken). All (λ a. a < length arcs2) t.arcs) paths2
moved arcs arcs2 paths paths2 e f h =
    subst (λ (xs : List GraphArc). All (λ (t : Taken). All (λ a. a < length xs) t.arcs) paths2) (sym e)
    (subst (λ (xs : List Taken). All (λ (t : Taken). All (λ a. a < length arcs) t.arcs) xs) (sym f) h)

pub routes-requires-clause-known : goal.routes-requires-clause-known
routes-requires-clause-known c =
    moved _ c.as_slice.result.now c.args.plan.now.paths c.as_slice-2.result.now (c.as_slice.ensures ∙ c.in_ok-arcs.ensures) c.as_slice-2.ensures
    (plan_known c.args.task.now c.args.plan.now c.requires.solution.paths)

told : (task : RouteTask) (plan : Plan) (paths : List Taken) (r : Result (List (List ℕ)) NoMemory) → TaskFits task → IsSolution (model_of task) plan → paths ≡ plan.paths → IfOk r (λ routes. routes ≡ numbers_of task (map (λ (t : Taken). visited task t.arcs) paths)) → IfOk r (IsNumberedPlan task (cost_of (model_of task) plan))
told task plan paths (Ok numbers) fits solution same is = numbered_plan task plan numbers fits solution (is ∙ ap (λ (ts : List Taken). numbers_of task (map (λ (t : Taken). visited task t.arcs) ts)) same)
told task plan paths (Err e) fits solution same is = tt

pub returns-clause-plan : goal.returns-clause-plan
returns-clause-plan c = told c.args.task.now c.args.plan.now c.as_slice-2.result.now c.routes.result c.requires.fits c.requires.solution c.as_slice-2.ensures c.routes.ensures
