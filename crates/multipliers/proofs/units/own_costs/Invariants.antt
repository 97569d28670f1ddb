use Rattle.std.proofs.Common.{◌≡◌, ◌-ℤ◌, map}
use Rattle.std.specs.List.{range_with_len}
use Rattle.path_graph.specs.Fit.{int_at}
use Rattle.route_model.specs.Parts.{var_at}
use Rattle.multipliers.specs.Quantities.{scaled}
use Rattle.multipliers.proofs.units.own_costs.Given as goal

abbrev pub invariant-loop-j : goal.invariant-loop-j
invariant-loop-j l = l.costs.items ≡ map (λ j. scaled (var_at l.vars j).cost -ℤ int_at l.mults j) (range_with_len 0 l.j)
