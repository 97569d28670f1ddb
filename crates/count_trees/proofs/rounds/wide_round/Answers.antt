use Rattle.std.proofs.Common.{ℤ, pos, ◌-ℤ◌, ◌<ℤ◌, to_z, of_z, w64, ap, ◌∙◌, rules, arith}
use Rattle.std.specs.Int.{w128}
use Rattle.std.proofs.lemmas.Int.{ints, to_z-of_z}
use Rattle.multipliers.specs.Quantities.{scaled}
use Rattle.made_nodes.specs.Zeros.{zero_bound}
use Rattle.count_trees.specs.Rounds.{AddsNode, IsRound, SplitsAt, walks_in}
use Rattle.count_trees.proofs.RoundLemmas.{closed_round, if_ok, parts_round}
use Rattle.count_trees.proofs.rounds.wide_round.Goals as goal

pub returns-in_ok-zero_close : goal.returns-in_ok-zero_close
returns-in_ok-zero_close c =
    let t = c.args.task.now in
    let g = c.args.growth in
    let n = c.in_ok-zero_close.field-0 in
    let is = to_z-of_z w128 c.bound_of-bound.result (search rules) ∙ (c.bound_of-bound.ensures ∙ ap (zero_bound t.model.now t.spot.now (walks_in t)) c.as_slice.ensures) in
    let is_y = to_z-of_z w128 c.closing_bound.result (search rules) ∙ (c.closing_bound.ensures.scaled ∙ ap (λ (z : ℤ). scaled (z -ℤ pos 1)) (to_z-of_z w64 g.z (search rules))) in
    let above : to_z w128 (of_z w128 c.closing_bound.result) <ℤ to_z w128 (of_z w128 c.bound_of-bound.result) = omega (arith, ints, c.if-bound-closing_bound.true) in
    if_ok (AddsNode g n) (IsRound t g c.args.boxes) c.with_node.result
    (λ new adds. closed_round t g new c.args.boxes n (to_z w128 (of_z w128 c.bound_of-bound.result)) (to_z w128 (of_z w128 c.closing_bound.result)) c.requires.task c.requires.fits c.in_ok-zero_close.ensures is is_y above adds)
    c.with_node.ensures

pub returns-else-bound-closing_bound : goal.returns-else-bound-closing_bound
returns-else-bound-closing_bound c =
    let t = c.args.task.now in
    let g = c.args.growth in
    let bound = to_z w128 (of_z w128 c.bound_of-bound.result) in
    let is = to_z-of_z w128 c.bound_of-bound.result (search rules) ∙ (c.bound_of-bound.ensures ∙ ap (zero_bound t.model.now t.spot.now (walks_in t)) c.as_slice.ensures) in
    let is_y = to_z-of_z w128 c.closing_bound.result (search rules) ∙ (c.closing_bound.ensures.scaled ∙ ap (λ (z : ℤ). scaled (z -ℤ pos 1)) (to_z-of_z w64 g.z (search rules))) in
    let below : ¬ (to_z w128 (of_z w128 c.closing_bound.result) <ℤ to_z w128 (of_z w128 c.bound_of-bound.result)) = λ above. omega (arith, ints, above, c.if-bound-closing_bound.false) in
    if_ok (SplitsAt g c.args.boxes c.args.i bound) (IsRound t g c.args.boxes) c.split_round.result
    (λ new splits. parts_round t g new c.args.boxes c.args.i bound (to_z w128 (of_z w128 c.closing_bound.result)) c.requires.task c.requires.fits c.requires.wide is is_y below splits)
    c.split_round.ensures
