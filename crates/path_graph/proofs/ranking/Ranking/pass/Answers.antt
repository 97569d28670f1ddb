use Rattle.std.proofs.Common.{◌≡◌, ◌+◌, ℕ, length, max, arith, subst, sym, ap, ◌∙◌}
use Rattle.path_graph.specs.declared.ranking.Ranking.{Ranking}
use Rattle.path_graph.specs.declared.ranking.Progress.{Progress}
use Rattle.path_graph.specs.declared.ranking.Stage.TheVariants.{New, Open}
use Rattle.path_graph.specs.Parts.{arc_at}
use Rattle.path_graph.specs.Ranking.{progress_at, GoesOn, advanced, LeadsBack}
use Rattle.path_graph.proofs.FreeLemmas.{rank_small}
use Rattle.path_graph.proofs.RankingLemmas.{pass_over, pass_by, open_goes_on, tail_there, before_ranked}
use Rattle.path_graph.proofs.ranking.Ranking.pass.Goals as goal

pub overflow_add-before : goal.overflow_add-before
overflow_add-before c =
    let arcs = c.args.arcs.now in
    let r = c.args.self.now in
    let tail = (arc_at arcs c.args.arc).tail in
    let there = tail_there arcs (length r.progress) c.args.arc c.requires.between c.requires.arc.there in
    let rank = before_ranked arcs (length r.progress) r tail c.at-before.result.now c.requires.search there (c.at-before.ensures _) c.in-Ranked.is in
    let small = rank_small (length r.progress) arcs tail c.at-before.result.now.rank c.requires.between there rank in
    omega (arith, small, c.requires.few)

pub cycle_by-requires-clause-path : goal.cycle_by-requires-clause-path
cycle_by-requires-clause-path c =
    let arcs = c.args.arcs.now in
    let r = c.args.self.now in
    let tail = (arc_at arcs c.args.arc).tail in
    let there = tail_there arcs (length r.progress) c.args.arc c.requires.between c.requires.arc.there in
    let stage : (progress_at r.progress tail).stage ≡ Open = ap (λ (p : Progress). p.stage) (c.at-before.ensures _) ∙ c.in-Open.is in
    rw c.as_slice.ensures (r.root, subst (λ (v : ℕ). LeadsBack arcs r.root r.path v) (sym c.requires.arc.enters) c.requires.search.back, c.requires.search.on_path tail there stage)

pub returns-then-not-is_free_arc-clause-steps : goal.returns-then-not-is_free_arc-clause-steps
returns-then-not-is_free_arc-clause-steps c =
    let arcs = c.args.arcs.now in
    let r = c.args.self.now in
    subst (λ (x : Ranking). GoesOn arcs (length r.progress) r x) (sym (c.advance.ensures ∙ ap (λ (p : Progress). advanced r p.rank) c.requires.progress))
    (pass_by arcs (length r.progress) r c.args.arc c.requires.search c.requires.arc (sym c.is_free_arc.ensures ∙ c.if-not-is_free_arc.true))

pub returns-in-Ranked-clause-steps : goal.returns-in-Ranked-clause-steps
returns-in-Ranked-clause-steps c =
    let arcs = c.args.arcs.now in
    let r = c.args.self.now in
    let tail = (arc_at arcs c.args.arc).tail in
    let there = tail_there arcs (length r.progress) c.args.arc c.requires.between c.requires.arc.there in
    let rank = before_ranked arcs (length r.progress) r tail c.at-before.result.now c.requires.search there (c.at-before.ensures _) c.in-Ranked.is in
    let most : c.max.result ≡ max (progress_at r.progress r.vertex).rank (c.at-before.result.now.rank + 1) = c.max.ensures ∙ ap (λ (p : Progress). max p.rank (c.at-before.result.now.rank + 1)) c.requires.progress in
    subst (λ (x : Ranking). GoesOn arcs (length r.progress) r x) (sym (c.advance-in-Ranked.ensures ∙ ap (λ (n : ℕ). advanced r n) most))
    (pass_over arcs (length r.progress) r c.args.arc c.at-before.result.now.rank c.requires.search c.requires.arc (sym c.is_free_arc.ensures ∙ c.if-not-is_free_arc.false) rank)

pub returns-in_ok-open-in-New-clause-steps : goal.returns-in_ok-open-in-New-clause-steps
returns-in_ok-open-in-New-clause-steps c =
    let arcs = c.args.arcs.now in
    let r = c.args.self.now in
    let there = tail_there arcs (length r.progress) c.args.arc c.requires.between c.requires.arc.there in
    let stage : (progress_at r.progress (arc_at arcs c.args.arc).tail).stage ≡ New = ap (λ (p : Progress). p.stage) (c.at-before.ensures _) ∙ c.in-New.is in
    subst (λ (x : Ranking). GoesOn arcs (length r.progress) r x) (sym c.in_ok-open-in-New.ensures)
    (open_goes_on arcs (length r.progress) r c.args.arc c.requires.search c.requires.arc.there (sym c.is_free_arc.ensures ∙ c.if-not-is_free_arc.false) c.requires.arc.enters there stage)
