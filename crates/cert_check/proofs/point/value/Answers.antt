use Rattle.std.proofs.Common.{◌≡◌, ℕ, ◌*◌, get_or, List, length, ap, ◌∙◌, arith}
use Rattle.std.proofs.lemmas.List.Sums.{sum_by_more}
use Rattle.route_model.specs.declared.plan.Taken.{Taken}
use Rattle.route_model.specs.Quantities.{uses_in}
use Rattle.cert_check.proofs.point.value.Goals as goal

pub loop-taken-preserved : goal.loop-taken-preserved
loop-taken-preserved c =
    let item = c.taken-item.result in
    let paths = c.args.plan.now.paths in
    let k = c.loop-taken.taken-index in
    let f : Taken → ℕ = λ t. t.count * uses_in c.args.maps.now c.args.var t.graph t.arcs in
    let is : item ≡ get_or paths k item = c.taken-item.is ∙ ap (λ (ps : List Taken). get_or ps k item) c.as_slice-taken-items.ensures in
    let here : c.path_uses-total.result ≡ f (get_or paths k item) = c.path_uses-total.ensures.uses ∙ ap f is in
    let more = sum_by_more f paths k item (omega (arith, c.loop-taken-test.true, ap (λ (ps : List Taken). length ps) c.as_slice-taken-items.ensures)) in
    (omega (arith, c.loop-taken.invariant.0, more, here), omega (arith, c.loop-taken.invariant.1, c.path_uses-total.ensures.bound))
