use Rattle.std.proofs.Common.{◌∙◌}
use Rattle.ng_sets.proofs.NearLemmas.{nothing_near_all}
use Rattle.ng_sets.proofs.near.nothing_near.Goals as goal

pub returns : goal.returns
returns c =
    nothing_near_all c.args.graph.now c.vertex_count.result c.empty.result c.from_vec.result c.empty.ensures.members c.vertex_count.ensures.count
    (c.from_vec.ensures ∙ c.in_ok-sets.ensures.items_if_clones_equal (λ y e. e))
