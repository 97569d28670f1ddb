use Rattle.std.proofs.Common.{◌∙◌, List, map, ap, arith}
use Rattle.std.proofs.lemmas.List.{take_all}
use Rattle.path_graph.specs.declared.ranking.Progress.{Progress}
use Rattle.path_graph.proofs.RankingLemmas.{all_ranked}
use Rattle.path_graph.proofs.ranking.rank_all.Goals as goal

pub loop-root-init : goal.loop-root-init
loop-root-init c = (c.in_ok-ranking.ensures c.args.arcs.now, λ v l. absurd (omega (arith, l)))

pub returns-clause-ranks : goal.returns-clause-ranks
returns-clause-ranks c =
    let done = c.loop-root.invariant in
    all_ranked c.args.arcs.now c.args.count c.loop-root.ranking c.loop-progress.ranks done.0 (λ v l. done.1 v (omega (arith, l, c.loop-root-test.false))) (c.loop-progress.invariant ∙ ap (λ (ps : List Progress). map (λ (p : Progress). p.rank) ps) (take_all c.loop-progress.progress-index _ c.loop-progress-test.false ∙ c.as_slice-progress-items.ensures))
