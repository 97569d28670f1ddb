use Rattle.std.proofs.Common.{◌+◌, pos, List, ◌++◌, ◌∷◌, [], take, sym, subst, ap, ◌∙◌, get_or}
use Rattle.std.specs.List.{AllZip}
use Rattle.std.proofs.lemmas.List.{take_more}
use Rattle.pricing.specs.declared.ranking.Ranked.{Ranked}
use Rattle.pricing.specs.Cheap.{IsTakenFrom}
use Rattle.pricing.proofs.RankLemmas.{zip_more}
use Rattle.pricing.proofs.walks.taken_walks.Goals as goal

pub loop-rank-preserved : goal.loop-rank-preserved
loop-rank-preserved c =
    let R = IsTakenFrom c.args.graph.now c.args.number c.args.made.now.cells in
    let none : Ranked = record { cost = pos 0; cell = 0; index = 0 } in
    subst (AllZip R (take (c.loop-rank.rank-index + 1) c.args.ranked.now)) (sym c.in_ok-push.ensures.ok)
    (subst (λ (rs : List Ranked). AllZip R rs (c.loop-rank.walks ++ c.in_ok-taken_walk.field-0 ∷ [])) (sym (take_more c.args.ranked.now c.loop-rank.rank-index none c.loop-rank-test.true))
    (zip_more R (take c.loop-rank.rank-index c.args.ranked.now) c.loop-rank.walks (get_or c.args.ranked.now c.loop-rank.rank-index none) c.in_ok-taken_walk.field-0 c.loop-rank.invariant c.in_ok-taken_walk.ensures))
