use Rattle.std.proofs.Common.{◌≡◌, map, take}
use Rattle.route_tasks.specs.Places.{place_at}
use Rattle.route_tasks.specs.Routes.{visited}
use Rattle.route_tasks.proofs.routing.route.Given as goal

abbrev pub invariant-loop-a : goal.invariant-loop-a
invariant-loop-a l = l.numbers ≡ map (λ v. (place_at l.task v).number) (visited l.task (take l.a-index l.walk))
