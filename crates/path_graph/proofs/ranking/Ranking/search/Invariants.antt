use Rattle.std.proofs.Common.{◌≡◌, length}
use Rattle.path_graph.specs.Ranking.{IsSearch, KeepsRanked, ranking_left, begun}
use Rattle.path_graph.proofs.ranking.Ranking.search.Given as goal

abbrev pub invariant-loop : goal.invariant-loop
invariant-loop l =
    IsSearch l.arcs (length l.fn.self.progress) l.self × KeepsRanked (begun l.fn.self l.root) l.self × (l.self.root ≡ l.root)

abbrev pub decreases-loop : goal.decreases-loop
decreases-loop l = ranking_left l.arcs l.self
