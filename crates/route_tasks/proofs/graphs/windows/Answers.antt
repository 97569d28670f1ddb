use Rattle.std.proofs.Common.{ap, ◌∙◌, pos, ◌*ℤ◌}
use Rattle.path_graph.specs.declared.parts.Window.{Window}
use Rattle.route_tasks.specs.declared.limits.TheConstants.{TENTHS}
use Rattle.route_tasks.specs.declared.task.Stop.{Stop}
use Rattle.route_tasks.specs.ModelOf.{window}
use Rattle.route_tasks.proofs.GraphLemmas.{laid_is}
use Rattle.route_tasks.proofs.graphs.windows.Goals as goal

times : Stop → Window
times s = window (TENTHS *ℤ s.ready) (TENTHS *ℤ s.due)

pub returns : goal.returns
unfolding times
returns c =
    laid_is c.args.task.now c.args.shape c.time_window-time.result c.stop_window-stops.result c.load_window-load.result (window (pos 0) (pos 0)) _ _ _ c.laid_windows.result
    c.requires.of_task c.laid_windows.ensures (c.time_window-time.ensures ∙ ap times c.place.ensures.place) c.stop_window-stops.ensures c.load_window-load.ensures
