use Rattle.std.proofs.Common.{List, ℕ, ap, ◌∙◌, map}
use Rattle.route_tasks.specs.Places.{place_at}
use Rattle.route_tasks.specs.Routes.{visited}
use Rattle.route_tasks.proofs.WalkLemmas.{routes_pushed}
use Rattle.route_tasks.proofs.routing.routes.Goals as goal

pub loop-taken-preserved : goal.loop-taken-preserved
loop-taken-preserved c =
    let task = c.args.task.now in
    let numbers = λ (walk : List ℕ). map (λ (v : ℕ). (place_at task v).number) (visited task walk) in
    routes_pushed task c.args.paths.now c.loop-taken.taken-index c.taken-item.result c.loop-taken.routes c.push.new.self c.in_ok-route.field-0 c.loop-taken-test.true c.taken-item.is
    c.loop-taken.invariant c.in_ok-push.ensures.ok (c.in_ok-route.ensures ∙ ap numbers c.as_slice.ensures)
