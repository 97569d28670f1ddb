use Rattle.std.proofs.Common.{◌<◌, set, ap, arith, refl}
use Rattle.path_graph.proofs.IndexLemmas.{index_size, rows_of, pushed_rows}
use Rattle.list_check.specs.Heads.{label_at}
use Rattle.list_check.proofs.heads.heads_of.Goals as goal

pub index_mut-requires : goal.index_mut-requires
index_mut-requires c =
    let labels = c.args.labels.now in
    let lists = c.loop-k.lists in
    let size = index_size (rows_of (λ k. (label_at labels k).vertex) c.loop-k.k) lists.items c.args.count c.loop-k.invariant in
    let below : (label_at labels c.loop-k.k).vertex < c.args.count = c.requires c.loop-k.k _ c.loop-k-test.true in
    omega (arith, size, lists.ok.0, below)

pub loop-k-preserved : goal.loop-k-preserved
loop-k-preserved c =
    let labels = c.args.labels.now in
    let v = (label_at labels c.loop-k.k).vertex in
    let rows = c.loop-k.lists.items in
    pushed_rows (λ k. (label_at labels k).vertex) c.loop-k.k c.args.count v rows (set rows v c.push.new.self) c.index_mut.result.now c.loop-k.invariant refl
    (c.requires c.loop-k.k _ c.loop-k-test.true) c.index_mut.ensures.value (ap (λ xs. set rows v xs) c.in_ok-push.ensures.ok)
