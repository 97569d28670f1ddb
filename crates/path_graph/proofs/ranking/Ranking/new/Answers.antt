use Rattle.std.proofs.Common.{◌∙◌}
use Rattle.path_graph.proofs.RankingLemmas.{start_rests}
use Rattle.path_graph.proofs.ranking.Ranking.new.Goals as goal

pub returns : goal.returns
returns c arcs = start_rests arcs c.args.count _ (c.from_vec.ensures ∙ c.in_ok-vec.ensures.items_if_clones_equal (λ y e. e)) c.new.ensures
