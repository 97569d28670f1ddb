use Rattle.std.proofs.Common.{to_z, of_z, w64, rules, arith}
use Rattle.std.proofs.lemmas.Int.{to_z-of_z}
use Rattle.cert_check.proofs.ReadLemmas.{go_on, stop_node, stop_past, stop_short}
use Rattle.cert_check.proofs.tree.read_tree.Goals as goal

pub loop-node-preserved : goal.loop-node-preserved
loop-node-preserved c =
    let item = c.node-item.result in
    go_on c.args.model.now c.args.z _ c.args.nodes.now c.loop-node.node-index item c.loop-node-test.true (to_z-of_z w64 c.args.z (search rules)) c.node-item.is c.in-Some.at c.loop-node.left c.in-Ok.next c.loop-node.tree c.read_node.new.tree
    c.unread.ensures.fits (c.requires c.loop-node.node-index item c.loop-node-test.true) c.in-Some.is c.loop-node.invariant c.in-Ok.ensures

pub returns-in-Err : goal.returns-in-Err
returns-in-Err c =
    stop_node c.args.model.now c.args.z _ c.args.nodes.now c.loop-node.node-index c.node-item.result c.loop-node-test.true (to_z-of_z w64 c.args.z (search rules)) c.node-item.is c.args.end c.loop-node.tree c.loop-node.left c.in-Some.at c.in-Err.error c.at_line-in-Err.result
    c.in-Some.is c.loop-node.invariant c.in-Err.ensures c.at_line-in-Err.ensures

pub returns-in_default : goal.returns-in_default
returns-in_default c =
    stop_past c.args.model.now c.args.z _ c.args.nodes.now c.loop-node.node-index c.node-item.result c.loop-node-test.true (to_z-of_z w64 c.args.z (search rules)) c.node-item.is c.args.end c.loop-node.tree c.loop-node.left c.at_line.result
    c.in_default.not-Some c.loop-node.invariant c.at_line.ensures

pub returns : goal.returns
returns c =
    stop_short c.args.model.now c.args.z _ c.args.nodes.now c.loop-node.node-index c.args.end c.loop-node.tree c.loop-node.left c.in-Some-left.field-0 c.at_line-in-Some-left.result
    (to_z-of_z w64 c.args.z (search rules)) (omega arith) c.in-Some-left.is c.loop-node.invariant c.at_line-in-Some-left.ensures

pub loop-node-init : goal.loop-node-init
loop-node-init c = c.in_ok-tree.ensures.read (to_z w64 (of_z w64 c.args.z))
