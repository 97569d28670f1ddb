use Rattle.std.proofs.Common.{◌≡◌, ap, ◌∙◌, pos, ℤ, ◌+ℤ◌, ◌*ℤ◌, to_z, of_z, rules, w32, w64}
use Rattle.route_tasks.specs.declared.limits.TheConstants.{TENTHS}
use Rattle.route_tasks.specs.declared.task.Stop.{Stop}
use Rattle.route_tasks.specs.Distance.{distance_of}
use Rattle.route_tasks.specs.Places.{place_at}
use Rattle.route_tasks.proofs.graphs.time_of.Goals as goal

pub returns : goal.returns
returns c =
    let task = c.args.task.now in
    let service = c.place-from.result.service in
    let back : to_z w32 (of_z w32 c.sum.result) ≡ c.sum.result = search rules in
    let first : to_z w32 (of_z w32 c.tenfold.result) ≡ c.tenfold.result = search rules in
    let second : to_z w64 (of_z w64 c.distance.result) ≡ c.distance.result = search rules in
    let third : to_z w32 (of_z w32 service) ≡ service = search rules in
    let served : c.tenfold.result ≡ TENTHS *ℤ (place_at task c.args.tail).service =
    c.tenfold.ensures.value ∙ (ap (λ (z : ℤ). TENTHS *ℤ z) third ∙ ap (λ (s : Stop). TENTHS *ℤ s.service) c.place-from.ensures.place) in
    let far : c.distance.result ≡ pos (distance_of task.style (place_at task c.args.tail) (place_at task c.args.head)) =
    c.distance.ensures.value ∙ (λ i. pos (distance_of task.style (c.place-from.ensures.place i) (c.place-to.ensures.place i))) in
    back ∙ (c.sum.ensures ∙ (λ i. ((first ∙ served) i) +ℤ ((second ∙ far) i)))
