use Rattle.std.proofs.Common.{◌+◌, ℕ, List, to_z, of_z, w64, subst, ap, ◌∙◌}
use Rattle.route_model.specs.declared.places.Span.{Span}
use Rattle.count_trees.specs.Growth.{IsGrown}
use Rattle.count_trees.specs.Rounds.{walks_in}
use Rattle.count_trees.proofs.grow.grow.Goals as goal

pub loop-made-preserved : goal.loop-made-preserved
loop-made-preserved c =
    let t = c.args.task.now in
    let g = c.loop-made.growth in
    let z = to_z w64 (of_z w64 c.args.z) in
    let before = subst (λ (rest : List (List Span)). IsGrown t.model.now t.spot.now (walks_in t) c.args.boxes z g.nodes rest g.z g.best) c.in-Some.ensures c.loop-made.invariant.grown in
    record {
      grown = c.in_ok-growth-in-Some.ensures.grown c.args.boxes z before;
      count = c.in_ok-growth-in-Some.ensures.count ∙ ap (λ (n : ℕ). n + 1) c.loop-made.invariant.count;
    }
