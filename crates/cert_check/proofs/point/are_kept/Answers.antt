use Rattle.std.proofs.Common.{◌≡◌, ◌<◌, ℕ, All, List, [], true, false, length, get_or, sym, ap, subst, ◌∙◌, arith}
use Rattle.std.proofs.lemmas.List.{get_or_default}
use Rattle.route_model.specs.declared.plan.Taken.{Taken}
use Rattle.route_model.specs.Parts.{taken_at}
use Rattle.route_model.specs.Places.{is_dropped}
use Rattle.cert_check.proofs.LoopLemmas.{not_each}
use Rattle.cert_check.proofs.point.are_kept.Goals as goal

pub returns-then-not-path_kept : goal.returns-then-not-path_kept
returns-then-not-path_kept c =
    let spot = c.args.spot.now in
    let paths = c.args.plan.now.paths in
    let item = c.taken-item.result in
    let k = c.loop-taken.taken-index in
    let none : Taken = record { graph = 0; count = 0; arcs = [] } in
    let below : k < length paths = omega (arith, c.loop-taken-test.true, ap (λ (ps : List Taken). length ps) c.as_slice-taken-items.ensures) in
    let same : item ≡ taken_at paths k = (c.taken-item.is ∙ ap (λ (ps : List Taken). get_or ps k item) c.as_slice-taken-items.ensures) ∙ get_or_default paths k item none below in
    not_each (λ i. All (λ (a : ℕ). is_dropped spot (taken_at paths i).graph a ≡ false) (taken_at paths i).arcs) (length paths) k below
    (λ all.
    let t : c.path_kept.result ≡ true = c.path_kept.ensures.1 (subst (λ (p : Taken). All (λ (a : ℕ). is_dropped spot p.graph a ≡ false) p.arcs) (sym same) all) in
    cc)
