use Rattle.std.proofs.Common.{take}
use Rattle.path_graph.proofs.SumLemmas.{IsSumWithin}
use Rattle.route_model.specs.Costs.{least_var_cost}
use Rattle.route_model.specs.Fit.{cost_range}
use Rattle.route_model.specs.Parts.{var_at}
use Rattle.route_model.proofs.costs.least_total.Given as goal

abbrev pub invariant-loop-var : goal.invariant-loop-var
invariant-loop-var l = IsSumWithin l.var (λ j. least_var_cost (var_at l.vars j)) (cost_range (take l.var l.vars)) l.total
