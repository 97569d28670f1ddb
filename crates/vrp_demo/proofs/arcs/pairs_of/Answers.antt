use Rattle.std.proofs.Common.{◌++◌, sym, ap, ◌∙◌}
use Rattle.vrp_demo.specs.Arcs.{pairs_from}
use Rattle.vrp_demo.proofs.PairLemmas.{flat_map_more}
use Rattle.vrp_demo.proofs.arcs.pairs_of.Goals as goal

pub loop-tail-preserved : goal.loop-tail-preserved
loop-tail-preserved c =
    let size = c.args.size in
    let tail = c.loop-tail.tail in
    c.in_ok-push_pairs.ensures
    ∙ (ap (λ them. them ++ pairs_from size tail) c.loop-tail.invariant ∙ sym (flat_map_more (pairs_from size) tail))
