use Rattle.std.proofs.Common.{ℕ, ◌+◌, ◌-◌, map}
use Rattle.std.specs.List.{range_with_len}
use Rattle.route_tasks.specs.Places.{customers}
use Rattle.route_tasks.specs.ModelOf.{var_of}
use Rattle.route_tasks.proofs.RangeLemmas.{joined_more}
use Rattle.route_tasks.proofs.rows.vars.Goals as goal

pub loop-low-preserved : goal.loop-low-preserved
loop-low-preserved c =
    let task = c.args.task.now in
    joined_more (λ (low : ℕ). map (var_of task low) (range_with_len (low + 1) (customers task - low))) c.loop-low.vars c.push_vars.new.vars c.loop-low.low
    c.loop-low.invariant c.in_ok-push_vars.ensures
