use Rattle.std.proofs.Common.{ℕ, ◌+◌, ◌<◌, List, length, drop, get_or, subst, sym, refl, arith}
use Rattle.std.proofs.lemmas.List.{take_rest}
use Rattle.path_graph.specs.Ranking.{LeadsBack}
use Rattle.path_graph.proofs.RankingLemmas.{back_after, on_root}
use Rattle.path_graph.proofs.ranking.part_from.Goals as goal

pub returns-then-arcs-a : goal.returns-then-arcs-a
returns-then-arcs-a c root v back on =
    let arcs = c.args.arcs.now in
    let path = c.args.path.now in
    let i = c.loop-i.i in
    let part = back_after arcs path root v i (get_or path i 0) back c.loop-i-test.true refl in
    subst (λ (xs : List ℕ). LeadsBack arcs c.args.vertex xs v) (sym (take_rest path (i + 1)))
    (subst (λ (w : ℕ). LeadsBack arcs w (drop (i + 1) path) v) c.if-arcs-a.true part)

pub returns : goal.returns
returns c root v back on =
    let arcs = c.args.arcs.now in
    let path = c.args.path.now in
    let below : (k : ℕ) → k < length path → k < c.loop-i.i = λ k l. omega (arith, l, c.loop-i-test.false) in
    subst (λ (w : ℕ). LeadsBack arcs w path v) (on_root arcs path root c.args.vertex on (λ k l. c.loop-i.invariant k (below k l))) back
