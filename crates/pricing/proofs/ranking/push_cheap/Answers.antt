use Rattle.std.proofs.Common.{ℕ, List, ◌++◌, ◌∷◌, [], ◌∙◌, ap, sym}
use Rattle.pricing.specs.declared.ranking.Ranked.{Ranked}
use Rattle.pricing.specs.Ranks.{ranked_at}
use Rattle.pricing.proofs.RankLemmas.{push_none, push_one}
use Rattle.pricing.proofs.ranking.push_cheap.Goals as goal
use Rattle.pricing.proofs.ranking.push_cheap.Goals.{then-is_cheap+in_ok-number+in_ok-push, else-is_cheap}

pub loop-index-preserved : goal.loop-index-preserved
loop-index-preserved c =
    elim c.if-is_cheap.branch [
      | then-is_cheap+in_ok-number+in_ok-push w ↦
          ap (λ v. v.items) w.ranked-is
          ∙ (w.in_ok-push.ensures.items
          ∙ (ap (λ (r : Ranked). c.loop-index.ranked.items ++ r ∷ []) (w.ranked_at.ensures ∙ ap (λ (n : ℕ). ranked_at c.args.cell n c.index-entries-index.result) w.in_ok-number.ensures)
          ∙ (ap (λ (rs : List Ranked). rs ++ ranked_at c.args.cell c.loop-index.index c.index-entries-index.result ∷ []) c.loop-index.invariant
          ∙ push_one c.args.sink c.args.cell c.loop-index.index c.args.entries.now c.index-entries-index.result c.is_cheap.result c.args.ranked.now.items c.loop-index-test.true c.index-entries-index.is c.is_cheap.ensures w.if-is_cheap.true)))
      | else-is_cheap w ↦
          ap (λ v. v.items) w.ranked-is
          ∙ (c.loop-index.invariant
          ∙ push_none c.args.sink c.args.cell c.loop-index.index c.args.entries.now c.index-entries-index.result c.is_cheap.result c.args.ranked.now.items c.loop-index-test.true c.index-entries-index.is c.is_cheap.ensures w.if-is_cheap.false)
    ]
