use Rattle.std.proofs.Common.{◌<◌, set, ap, arith, refl}
use Rattle.path_graph.specs.Parts.{arc_at}
use Rattle.path_graph.proofs.IndexLemmas.{index_size, rows_of, pushed_rows}
use Rattle.path_graph.proofs.arc_lists.lists_into.Goals as goal

pub index_mut-requires : goal.index_mut-requires
index_mut-requires c =
    let arcs = c.args.arcs.now in
    let lists = c.loop-a.lists in
    let size = index_size (rows_of (λ a. (arc_at arcs a).head) c.loop-a.a) lists.items c.args.count c.loop-a.invariant in
    let below : (arc_at arcs c.loop-a.a).head < c.args.count = c.requires.ends c.loop-a.a _ c.loop-a-test.true in
    omega (arith, size, lists.ok.0, below)

pub loop-a-preserved : goal.loop-a-preserved
loop-a-preserved c =
    let arcs = c.args.arcs.now in
    let v = (arc_at arcs c.loop-a.a).head in
    let rows = c.loop-a.lists.items in
    pushed_rows (λ a. (arc_at arcs a).head) c.loop-a.a c.args.count v rows (set rows v c.push.new.self) c.index_mut.result.now c.loop-a.invariant refl
    (c.requires.ends c.loop-a.a _ c.loop-a-test.true) c.index_mut.ensures.value (ap (λ xs. set rows v xs) c.in_ok-push.ensures.ok)
