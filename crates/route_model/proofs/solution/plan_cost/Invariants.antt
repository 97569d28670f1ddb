use Rattle.std.proofs.Common.{take, pos, ◌*ℤ◌}
use Rattle.path_graph.proofs.SumLemmas.{IsSumWithin}
use Rattle.route_model.specs.Fit.{cost_range}
use Rattle.route_model.specs.Parts.{var_at}
use Rattle.route_model.specs.Quantities.{value_of}
use Rattle.route_model.proofs.solution.plan_cost.Given as goal

abbrev pub invariant-loop-var : goal.invariant-loop-var
invariant-loop-var l = IsSumWithin l.var (λ j. (var_at l.model.vars j).cost *ℤ pos (value_of l.model l.plan j)) (cost_range (take l.var l.model.vars)) l.total
