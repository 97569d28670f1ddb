use Rattle.std.proofs.Common.{◌-ℤ◌, to_z, of_z, pos, arith}
use Rattle.std.specs.Int.{w128}
use Rattle.path_graph.specs.Fit.{int_at}
use Rattle.route_model.specs.Parts.{var_at}
use Rattle.multipliers.specs.Quantities.{scaled}
use Rattle.multipliers.proofs.UnitLemmas.{map_pushed, own_told}
use Rattle.multipliers.proofs.units.own_costs.Goals as goal

pub loop-j-preserved : goal.loop-j-preserved
loop-j-preserved c =
    let j = c.loop-j.j in
    let vars = c.args.vars.now in
    let mults = c.args.mults.now in
    map_pushed (λ k. scaled (var_at vars k).cost -ℤ int_at mults k) j c.loop-j.costs.items c.push.new.self.items (to_z w128 (of_z w128 c.own_cost.result)) c.loop-j.invariant c.in_ok-push.ensures.items
    (own_told (var_at vars j).cost (int_at mults j) c.own_cost.result (c.requires.fits.each j _ c.loop-j-test.true).cost (c.requires.small j (pos 0) (omega arith)) c.own_cost.ensures)
