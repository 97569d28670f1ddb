use Rattle.std.proofs.Common.{◌<◌, set, ap, arith, refl}
use Rattle.path_graph.proofs.IndexLemmas.{index_size, rows_of, pushed_rows}
use Rattle.proof_check.specs.Index.{label_at}
use Rattle.proof_check.proofs.index.label_index.Goals as goal

pub index_mut-requires : goal.index_mut-requires
index_mut-requires c =
    let labels = c.args.labels.now in
    let lists = c.loop-place.index in
    let size = index_size (rows_of (λ k. (label_at labels k).vertex) c.loop-place.place) lists.items c.args.count c.loop-place.invariant in
    let below : (label_at labels c.loop-place.place).vertex < c.args.count = c.requires c.loop-place.place _ c.loop-place-test.true in
    omega (arith, size, lists.ok.0, below)

pub loop-place-preserved : goal.loop-place-preserved
loop-place-preserved c =
    let labels = c.args.labels.now in
    let v = (label_at labels c.loop-place.place).vertex in
    let rows = c.loop-place.index.items in
    pushed_rows (λ k. (label_at labels k).vertex) c.loop-place.place c.args.count v rows (set rows v c.push.new.self) c.index_mut.result.now c.loop-place.invariant refl
    (c.requires c.loop-place.place _ c.loop-place-test.true) c.index_mut.ensures.value (ap (λ xs. set rows v xs) c.in_ok-push.ensures.ok)
