use Rattle.std.proofs.Common.{◌<◌}
use Rattle.cuts_tests.proofs.cuts.states_of.Given as goal

-- the state is below the denominator
abbrev pub invariant-loop-visit : goal.invariant-loop-visit
invariant-loop-visit l = l.state < l.cut.den
