use Rattle.std.proofs.Common.{◌≡◌, map, take}
use Rattle.route_model.specs.Places.{var_span}
use Rattle.multipliers.proofs.roots.var_spans.Given as goal

abbrev pub invariant-loop-var : goal.invariant-loop-var
invariant-loop-var l = l.spans.items ≡ map var_span (take l.var-index l.vars)
