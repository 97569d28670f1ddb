use Rattle.std.proofs.Common.{◌≡◌, ℕ, ◌<◌, map, take}
use Rattle.path_graph.specs.declared.ranking.Progress.{Progress}
use Rattle.path_graph.specs.Ranking.{IsResting, IsRankedAt}
use Rattle.path_graph.proofs.ranking.rank_all.Given as goal

abbrev pub invariant-loop-root : goal.invariant-loop-root
invariant-loop-root l = IsResting l.arcs l.count l.ranking × ((v : ℕ) → v < l.root → IsRankedAt l.ranking v)

abbrev pub invariant-loop-progress : goal.invariant-loop-progress
invariant-loop-progress l = l.ranks ≡ map (λ (p : Progress). p.rank) (take l.progress-index l.progress-items)
