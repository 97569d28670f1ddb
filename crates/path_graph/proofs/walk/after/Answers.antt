use Rattle.std.proofs.Common.{subst, sym, refl, true, false, ◌≡◌}
use Rattle.path_graph.specs.declared.parts.Values.{Values}
use Rattle.path_graph.specs.Fit.{vertex_at}
use Rattle.path_graph.specs.Walk.{arc_at}
use Rattle.path_graph.specs.Within.{AreWithin}
use Rattle.path_graph.proofs.WalkLemmas.{small_values, next_is, takes_from, takes_to, moved_is_within}
use Rattle.path_graph.proofs.walk.after.Goals as goal

pub values_over-next-requires-clause-values : goal.values_over-next-requires-clause-values
values_over-next-requires-clause-values c =
    let fit = c.arc-parts.ensures.fits in
    small_values c.args.g.now (arc_at c.args.g.now.arcs c.args.arc).tail c.args.value.now fit (fit.fits.each_arc c.args.arc _ c.requires.arc).tail c.requires.value

pub returns-then-are_below-clause-exact : goal.returns-then-are_below-clause-exact
returns-then-are_below-clause-exact c =
    let e = next_is c.args.g.now c.args.value.now c.args.arc _ _ _ c.arc-parts.ensures.arc c.vertex.ensures.vertex c.values_over-next.ensures in
    (takes_from c.args.g.now c.args.value.now c.args.arc _ _ e (c.if-are_below.ensures.0 refl), e.0)

pub returns-then-are_below-clause-in_windows : goal.returns-then-are_below-clause-in_windows
returns-then-are_below-clause-in_windows c =
    let e = next_is c.args.g.now c.args.value.now c.args.arc _ _ _ c.arc-parts.ensures.arc c.vertex.ensures.vertex c.values_over-next.ensures in
    let takes = takes_from c.args.g.now c.args.value.now c.args.arc _ _ e (c.if-are_below.ensures.0 refl) in
    let windows = (vertex_at c.args.g.now.vertices (arc_at c.args.g.now.arcs c.args.arc).head).windows in
    subst (λ (n : Values). AreWithin windows n) (sym e.0) (moved_is_within c.args.value.now.at (arc_at c.args.g.now.arcs c.args.arc).needs windows takes)

pub returns-else-are_below-clause-exact : goal.returns-else-are_below-clause-exact
returns-else-are_below-clause-exact c takes =
    let e = next_is c.args.g.now c.args.value.now c.args.arc _ _ _ c.arc-parts.ensures.arc c.vertex.ensures.vertex c.values_over-next.ensures in
    let no : false ≡ true = c.if-are_below.ensures.1 (takes_to c.args.g.now c.args.value.now c.args.arc _ _ e takes) in
    cc
