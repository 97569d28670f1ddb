use Rattle.std.proofs.Common.{ℕ, ℤ, pos, ◌≤ℤ◌, ◌+ℤ◌, ◌^◌, subst, sym}
use Rattle.path_graph.specs.Walk.{arc_at, over_of}
use Rattle.path_graph.specs.Rest.{back_of}
use Rattle.path_graph.specs.Within.{IsWithin}
use Rattle.path_graph.specs.Level.{level_of}
use Rattle.path_graph.proofs.WalkLemmas.{small_values}
use Rattle.path_graph.proofs.LevelLemmas.{level_told, level_within, level_rises, level_falls}
use Rattle.path_graph.proofs.levels.level.Goals as goal

pub wide-requires-clause-values : goal.wide-requires-clause-values
wide-requires-clause-values c = small_values c.args.g.now c.args.v c.args.value.now c.vertex_count-count.ensures.fits c.requires.vertex c.requires.value

pub wide-requires-2-clause-values : goal.wide-requires-2-clause-values
wide-requires-2-clause-values c = small_values c.args.g.now c.args.v c.args.value.now c.vertex_count-count.ensures.fits c.requires.vertex c.requires.value

pub returns-clause-level : goal.returns-clause-level
returns-clause-level c =
    level_told c.args.g.now c.args.v c.args.value.now c.vertex_count-count.result c.rank.result c.wide.result c.wide-2.result c.sum_of-mains.result c.weighted_sum.result c.with_rank.result c.vertex_count-count.ensures.fits c.requires.vertex c.requires.value c.vertex_count-count.ensures.count c.rank.ensures.rank (c.wide.ensures.value, c.wide.ensures.range) (c.wide-2.ensures.value, c.wide-2.ensures.range) (c.sum_of-mains.ensures.sum, c.sum_of-mains.ensures.range) (c.weighted_sum.ensures.product, c.weighted_sum.ensures.range) c.with_rank.ensures

pub returns-clause-range : goal.returns-clause-range
returns-clause-range c =
    let is = level_told c.args.g.now c.args.v c.args.value.now c.vertex_count-count.result c.rank.result c.wide.result c.wide-2.result c.sum_of-mains.result c.weighted_sum.result c.with_rank.result c.vertex_count-count.ensures.fits c.requires.vertex c.requires.value c.vertex_count-count.ensures.count c.rank.ensures.rank (c.wide.ensures.value, c.wide.ensures.range) (c.wide-2.ensures.value, c.wide-2.ensures.range) (c.sum_of-mains.ensures.sum, c.sum_of-mains.ensures.range) (c.weighted_sum.ensures.product, c.weighted_sum.ensures.range) c.with_rank.ensures in
    subst (λ (z : ℤ). IsWithin (2 ^ 38) z) (sym is) (level_within c.args.g.now c.args.v c.args.value.now c.vertex_count-count.ensures.fits c.requires.vertex c.requires.value)

pub returns-clause-rises : goal.returns-clause-rises
returns-clause-rises c a l e takes =
    let g = c.args.g.now in
    let is = level_told c.args.g.now c.args.v c.args.value.now c.vertex_count-count.result c.rank.result c.wide.result c.wide-2.result c.sum_of-mains.result c.weighted_sum.result c.with_rank.result c.vertex_count-count.ensures.fits c.requires.vertex c.requires.value c.vertex_count-count.ensures.count c.rank.ensures.rank (c.wide.ensures.value, c.wide.ensures.range) (c.wide-2.ensures.value, c.wide-2.ensures.range) (c.sum_of-mains.ensures.sum, c.sum_of-mains.ensures.range) (c.weighted_sum.ensures.product, c.weighted_sum.ensures.range) c.with_rank.ensures in
    let rises = level_rises g a c.args.value.now c.vertex_count-count.ensures.fits l in
    subst (λ (z : ℤ). (z +ℤ pos 1) ≤ℤ (level_of g (arc_at g.arcs a).head (over_of g c.args.value.now a))) (sym is)
    (subst (λ (v : ℕ). (level_of g v c.args.value.now +ℤ pos 1) ≤ℤ (level_of g (arc_at g.arcs a).head (over_of g c.args.value.now a))) e rises)

pub returns-clause-falls : goal.returns-clause-falls
returns-clause-falls c a l e takes =
    let g = c.args.g.now in
    let is = level_told c.args.g.now c.args.v c.args.value.now c.vertex_count-count.result c.rank.result c.wide.result c.wide-2.result c.sum_of-mains.result c.weighted_sum.result c.with_rank.result c.vertex_count-count.ensures.fits c.requires.vertex c.requires.value c.vertex_count-count.ensures.count c.rank.ensures.rank (c.wide.ensures.value, c.wide.ensures.range) (c.wide-2.ensures.value, c.wide-2.ensures.range) (c.sum_of-mains.ensures.sum, c.sum_of-mains.ensures.range) (c.weighted_sum.ensures.product, c.weighted_sum.ensures.range) c.with_rank.ensures in
    let falls = level_falls g a c.args.value.now c.vertex_count-count.ensures.fits l in
    subst (λ (z : ℤ). (level_of g (arc_at g.arcs a).tail (back_of g c.args.value.now a) +ℤ pos 1) ≤ℤ z) (sym is)
    (subst (λ (v : ℕ). (level_of g (arc_at g.arcs a).tail (back_of g c.args.value.now a) +ℤ pos 1) ≤ℤ (level_of g v c.args.value.now)) e falls)
