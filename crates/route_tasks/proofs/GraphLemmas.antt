-- Lemmas on the parts of the graph of a task.
use Rattle.std.proofs.Common.{◌≡◌, List, ◌∙◌}
use Rattle.route_tasks.specs.declared.graphs.Shape.{Shape}
use Rattle.route_tasks.specs.declared.task.RouteTask.{RouteTask}
use Rattle.route_tasks.specs.Shape.{shape_of}
use Rattle.route_tasks.specs.ModelOf.{laid}

-- what is laid out by the shape of the task
pub laid_is : {X : Type 0} (task : RouteTask) (shape : Shape) (time stops load none time2 stops2 load2 : X) (r : List X) → shape ≡ shape_of task → r ≡ laid shape.timed shape.load_is_main time stops load none
    → time ≡ time2 → stops ≡ stops2 → load ≡ load2 → r ≡ laid (shape_of task).timed (shape_of task).load_is_main time2 stops2 load2 none
laid_is task shape time stops load none time2 stops2 load2 r of_task is t s l =
    is ∙ (λ i. laid (of_task i).timed (of_task i).load_is_main (t i) (s i) (l i) none)
