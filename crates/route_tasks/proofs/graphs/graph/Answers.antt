use Rattle.std.proofs.Common.{◌≡◌, List, ◌∙◌, subst, sym}
use Rattle.path_graph.specs.declared.parts.GraphArc.{GraphArc}
use Rattle.path_graph.specs.declared.parts.Vertex.{Vertex}
use Rattle.path_graph.specs.declared.parts.Ends.{Ends}
use Rattle.path_graph.specs.Fit.{PartsFit}
use Rattle.path_graph.specs.Free.{HasNoFreeCycle}
use Rattle.path_graph.specs.Ranking.{IsCycleFault}
use Rattle.route_tasks.specs.declared.task.RouteTask.{RouteTask}
use Rattle.route_tasks.specs.Fit.{TaskFits}
use Rattle.route_tasks.specs.ModelOf.{ends_of, vertices_of, arcs_of}
use Rattle.route_tasks.proofs.FitLemmas.{parts_fit, no_free_cycle}
use Rattle.route_tasks.proofs.graphs.graph.Goals as goal

parts : (task : RouteTask) (ends : Ends) (vertices : List Vertex) (arcs : List GraphArc) → TaskFits task → ends ≡ ends_of task → vertices ≡ vertices_of task → arcs ≡ arcs_of task → PartsFit ends vertices arcs
parts task ends vertices arcs fits e v a =
    subst (λ (x : Ends). PartsFit x vertices arcs) (sym e)
    (subst (λ (x : List Vertex). PartsFit (ends_of task) x arcs) (sym v)
    (subst (λ (x : List GraphArc). PartsFit (ends_of task) (vertices_of task) x) (sym a) (parts_fit task fits)))

pub new-requires : goal.new-requires
new-requires c = record { fit = parts c.args.task.now c.ends.result c.as_slice.result.now c.args.arcs.now c.requires.fits c.ends.ensures (c.as_slice.ensures ∙ c.in_ok-vertices.ensures) c.requires.arcs_of_task }

pub unreachable-requires : goal.unreachable-requires
unreachable-requires c =
    let fault = subst (IsCycleFault c.args.arcs.now) c.in-Err-FreeCycle.field-0-is c.in-Err-FreeCycle.ensures.cycle in
    subst HasNoFreeCycle (sym c.requires.arcs_of_task) (no_free_cycle c.args.task.now) c.in-Err-FreeCycle.field-0-0 fault
