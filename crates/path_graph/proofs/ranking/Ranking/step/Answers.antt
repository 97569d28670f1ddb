use Rattle.std.proofs.Common.{◌≡◌, ◌≤◌, ℕ, List, length, arith, sym, ap, ◌∙◌}
use Rattle.path_graph.specs.declared.ranking.Progress.{Progress}
use Rattle.path_graph.specs.Parts.{arcs_into}
use Rattle.path_graph.specs.Ranking.{progress_at}
use Rattle.path_graph.proofs.IndexLemmas.{index_size, index_is}
use Rattle.path_graph.proofs.RankingLemmas.{back_below, closes, next_is}
use Rattle.path_graph.proofs.ranking.Ranking.step.Goals as goal

pub bounds-into-self : goal.bounds-into-self
bounds-into-self c =
    let size = index_size (arcs_into c.args.arcs.now) c.args.into.now (length c.args.self.now.progress) c.requires.into in
    omega (arith, size, c.requires.search.stands)

pub close-requires-clause-path : goal.close-requires-clause-path
close-requires-clause-path c = back_below c.args.arcs.now c.args.self.now.root c.args.self.now.path c.args.self.now.vertex c.requires.search.back

pub returns-then-progress-into-clause-steps : goal.returns-then-progress-into-clause-steps
returns-then-progress-into-clause-steps c =
    let arcs = c.args.arcs.now in
    let r = c.args.self.now in
    let row = index_is (arcs_into arcs) c.args.into.now (length r.progress) r.vertex c.index-into-self.result c.requires.into c.requires.search.stands c.index-into-self.is in
    let at : progress_at r.progress r.vertex ≡ c.at-progress.result.now = c.at-progress.ensures _ in
    let all : length (arcs_into arcs r.vertex) ≤ (progress_at r.progress r.vertex).next =
    omega (arith, ap (λ (xs : List ℕ). length xs) (c.as_slice-into.ensures ∙ row), c.if-progress-into.true, ap (λ (p : Progress). p.next) at) in
    closes arcs (length r.progress) r c.close.new.self c.close.result c.requires.between c.requires.search all c.close.ensures

pub pass-requires-clause-arc : goal.pass-requires-clause-arc
pass-requires-clause-arc c =
    let arcs = c.args.arcs.now in
    let r = c.args.self.now in
    let row = index_is (arcs_into arcs) c.args.into.now (length r.progress) r.vertex c.index-into-self.result c.requires.into c.requires.search.stands c.index-into-self.is in
    let into = c.as_slice-into.ensures ∙ row in
    let at : progress_at r.progress r.vertex ≡ c.at-progress.result.now = c.at-progress.ensures _ in
    next_is arcs r c.as_slice-into.result.now c.at-progress.result.now c.requires.few_arcs into (sym at) c.if-progress-into.false
