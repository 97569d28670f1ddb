use Rattle.std.proofs.Common.{List, pos, ◌++◌, ap, ◌∙◌, subst, sym, arith}
use Rattle.route_model.specs.declared.plan.Plan.{Plan}
use Rattle.route_model.specs.declared.plan.Taken.{Taken}
use Rattle.route_model.specs.Verdicts.{IsCounted}
use Rattle.walk_list.specs.declared.walks.ListedWalk.{ListedWalk}
use Rattle.walk_list.specs.Walks.{walk_said}
use Rattle.count_trees.specs.Points.{taken_if}
use Rattle.count_trees.proofs.PointLemmas.{plan_counted, plan_more, plan_whole}
use Rattle.count_trees.proofs.points.plan_left.Goals as goal

pub loop-k-preserved : goal.loop-k-preserved
loop-k-preserved c =
    let walks = c.args.walks.now in
    let boxes = c.args.boxes.now in
    let item = c.index-walks-k.result in
    let made = c.in_ok-take_walk.ensures ∙ ap (λ (w : ListedWalk). c.loop-k.paths ++ taken_if (walk_said w) c.low_count-count.result) c.index-walks-k.is in
    plan_more walks boxes c.loop-k.k item (record { low = pos 0; high = pos 0 }) c.loop-k.paths c.take_walk.new.paths c.low_count-count.result c.loop-k-test.true c.requires.size c.loop-k.invariant made c.low_count-count.ensures.count

pub returns-clause-plan : goal.returns-clause-plan
returns-clause-plan c =
    ap (λ (ts : List Taken). let p : Plan = record { paths = ts } in p) (plan_whole c.args.walks.now c.args.boxes.now c.loop-k.k c.loop-k.paths (omega arith) c.requires.size c.loop-k.invariant)

pub returns-clause-counted : goal.returns-clause-counted
returns-clause-counted c = subst IsCounted (sym (returns-clause-plan c)) (plan_counted c.args.walks.now c.args.boxes.now c.requires.few c.requires.each)
