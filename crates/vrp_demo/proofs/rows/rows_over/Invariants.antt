use Rattle.std.proofs.Common.{◌≡◌, ◌-◌}
use Rattle.vrp_demo.specs.Generated.{rows_over}
use Rattle.vrp_demo.proofs.rows.rows_over.Given as goal

abbrev pub invariant-loop-customer : goal.invariant-loop-customer
invariant-loop-customer l = l.rows ≡ rows_over (l.customer - 1) l.graph.arcs
