use Rattle.std.proofs.Common.{ℤ, pos, w64, subst, rules}
use Rattle.std.proofs.lemmas.Int.{to_z-of_z}
use Rattle.certificate.specs.declared.cert.NodeForm.TheVariants as node
use Rattle.made_nodes.specs.declared.node.MadeNode.{MadeNode}
use Rattle.count_trees.specs.Rounds.{AddsNode, IsFoundBelow, IsRound}
use Rattle.count_trees.proofs.RoundLemmas.{if_ok, point_round}
use Rattle.count_trees.proofs.rounds.point_round.Goals as goal

pub returns : goal.returns
returns c =
    let t = c.args.task.now in
    let g = c.args.growth in
    let boxes = c.args.boxes.now in
    let plan = c.in_ok-plan.plan in
    let found = c.in_ok-found.found in
    let n : MadeNode = record { form = node.Point; bound = pos 0 } in
    let below = subst (λ (z : ℤ). IsFoundBelow t.model.now z plan found) (to_z-of_z w64 g.z (search rules)) c.in_ok-found.ensures in
    if_ok (AddsNode c.with_found.result n) (IsRound t g boxes) c.with_node.result
    (λ new adds. point_round t g c.with_found.result new boxes plan found (pos 0) c.requires.points c.in_ok-plan.ensures.plan below c.with_found.ensures adds) c.with_node.ensures
