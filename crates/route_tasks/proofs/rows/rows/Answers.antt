use Rattle.std.proofs.Common.{[]}
use Rattle.route_tasks.specs.ModelOf.{row_of}
use Rattle.route_tasks.proofs.RangeLemmas.{pushed}
use Rattle.route_tasks.proofs.rows.rows.Goals as goal

pub loop-i-preserved : goal.loop-i-preserved
loop-i-preserved c =
    pushed (row_of c.args.n) [] c.loop-i.rows c.push.new.self 1 c.loop-i.i c.in_ok-row.field-0
    c.loop-i.auto.i c.loop-i.invariant c.in_ok-push.ensures.ok c.in_ok-row.ensures
