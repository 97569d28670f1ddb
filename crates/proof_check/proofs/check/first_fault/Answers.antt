use Rattle.std.proofs.Common.{◌<◌, length, ap, arith}
use Rattle.route_model.specs.Parts.{ModelParts}
use Rattle.proof_check.specs.Demands.{Demand, IsMet}
use Rattle.proof_check.proofs.DemandLemmas.{graph_fault_told, one_graph_more}
use Rattle.proof_check.proofs.check.first_fault.Goals as goal

pub returns-in-Some : goal.returns-in-Some
returns-in-Some c =
    let at = c.args.at.now in
    let size = ap (λ (x : ModelParts). length x.graphs) c.model.view_is in
    let there : c.loop-g.g < length at.model.now.graphs = omega (arith, c.loop-g-test.true, c.len-g-end.ensures, size) in
    graph_fault_told at.model.now at.spot.now at.proof.now c.args.whole c.loop-g.g c.in-Some.fault there c.loop-g.invariant (rw c.in-Some.is at c.in_ok-fault.ensures)

pub loop-g-preserved : goal.loop-g-preserved
loop-g-preserved c =
    let P = λ (d : Demand). IsMet c.args.at.now.model.now c.args.at.now.spot.now c.args.at.now.proof.now c.args.whole d in
    one_graph_more P c.loop-g.g c.loop-g.invariant (rw c.in-None.is at c.in_ok-fault.ensures)
