use Rattle.std.proofs.Common.{◌≡◌, map, take}
use Rattle.route_tasks.specs.Routes.{visited, numbers_of}
use Rattle.route_tasks.proofs.routing.routes.Given as goal

abbrev pub invariant-loop-taken : goal.invariant-loop-taken
invariant-loop-taken l = l.routes ≡ numbers_of l.task (map (λ t. visited l.task t.arcs) (take l.taken-index l.paths))
