-- Which resources a task has.
use Rattle.route_tasks.specs.declared.graphs.Shape.{Shape}
use Rattle.route_tasks.specs.declared.task.RouteTask.{RouteTask}
use Rattle.route_tasks.specs.ModelOf.{is_timed, is_load_main}

abbrev pub shape_of : RouteTask → Shape
shape_of task = record { timed = is_timed task.style; load_is_main = is_load_main task }
