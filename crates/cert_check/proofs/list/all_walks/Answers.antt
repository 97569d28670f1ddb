use Rattle.std.proofs.Common.{w64, rules, arith}
use Rattle.std.proofs.lemmas.Int.{to_z-of_z}
use Rattle.cert_check.proofs.NameLemmas.{so_far_all, so_far_begins, so_far_more, so_far_none}
use Rattle.cert_check.proofs.list.all_walks.Goals as goal

pub loop-g-init : goal.loop-g-init
loop-g-init c = so_far_begins c.args.at.now _ c.args.tries.now _ c.new-walks.ensures

pub loop-g-preserved : goal.loop-g-preserved
loop-g-preserved c =
    let both = rw c.in-Some.is at c.in_ok-tree_walks.ensures in
    so_far_more c.args.at.now _ c.args.tries.now c.loop-g.g c.index-tries-g.result c.loop-g.walks c.add_walks.new.walks c.in-Some.more c.loop-g-test.true c.index-tries-g.is c.loop-g.invariant both.0 both.1 c.in_ok-add_walks-in-Some.ensures

pub returns-in-None : goal.returns-in-None
returns-in-None c =
    let none = rw c.in-None.is at c.in_ok-tree_walks.ensures in
    so_far_none c.args.at.now c.args.z _ c.args.tries.now c.loop-g.g c.index-tries-g.result (to_z-of_z w64 c.args.z (search rules)) c.loop-g-test.true c.index-tries-g.is none

pub returns : goal.returns
returns c = so_far_all c.args.at.now c.args.z _ c.args.tries.now c.loop-g.g c.loop-g.walks (to_z-of_z w64 c.args.z (search rules)) (omega arith) c.loop-g.invariant
