use Rattle.std.proofs.Common.{sym, subst}
use Rattle.path_graph.specs.declared.parts.GraphArc.{GraphArc}
use Rattle.path_graph.specs.Walk.{arc_at}
use Rattle.path_graph.specs.Rest.{JoinOver}
use Rattle.path_graph.proofs.WalkLemmas.{small_values}
use Rattle.path_graph.proofs.RestLemmas.{join_law, joined_alone}
use Rattle.path_graph.proofs.rest.joins.Goals as goal

pub are_at_most-requires-clause-front : goal.are_at_most-requires-clause-front
are_at_most-requires-clause-front c =
    let g = c.args.g.now in
    let fit = c.arc.ensures.fits in
    small_values g (arc_at g.arcs c.args.arc).tail c.args.front.now fit (fit.fits.each_arc c.args.arc _ c.requires.arc).tail c.requires.front

pub returns-clause-walk : goal.returns-clause-walk
returns-clause-walk c first rest p r =
    let g = c.args.g.now in
    let law = join_law g c.args.arc c.args.front.now c.args.back.now first rest c.arc.ensures.fits c.requires.arc c.requires.front c.requires.back p r in
    let arc = c.arc.ensures.arc in
    let back = λ (x : GraphArc). JoinOver c.args.front.now x c.args.back.now in
    (λ t. law.0 (subst back arc (c.are_at_most.ensures.0 t)), λ w. c.are_at_most.ensures.1 (subst back (sym arc) (law.1 w)))

pub returns-clause-alone : goal.returns-clause-alone
returns-clause-alone c first rest = joined_alone c.args.g.now c.args.arc first rest c.arc.ensures.fits
