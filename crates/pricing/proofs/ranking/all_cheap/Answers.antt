use Rattle.std.proofs.Common.{◌≡◌, ◌+◌, subst, ℕ, List, take, ◌++◌, ◌∙◌, ap, sym}
use Rattle.label_core.specs.Tables.{Cells}
use Rattle.label_rules.specs.declared.label.Label.{Label}
use Rattle.pricing.specs.declared.ranking.Ranked.{Ranked}
use Rattle.pricing.specs.Ranks.{cheap_from, cheap_in}
use Rattle.std.proofs.lemmas.List.{get_or_default}
use Rattle.pricing.proofs.RankLemmas.{cells_more}
use Rattle.pricing.proofs.ranking.all_cheap.Goals as goal

pub loop-cell-preserved : goal.loop-cell-preserved
loop-cell-preserved c =
    c.in_ok-push_cheap.ensures
    ∙ (ap (λ (rs : List Ranked). rs ++ cheap_in c.args.sink c.in_ok-number.field-0 0 c.as_slice.result.now) c.loop-cell.invariant
    ∙ (ap (λ (n : ℕ). cheap_from c.args.sink 0 (take c.loop-cell.cell c.args.made.now.cells) ++ cheap_in c.args.sink n 0 c.as_slice.result.now) c.in_ok-number.ensures
    ∙ subst (λ (t : Cells Label). cheap_from c.args.sink 0 (take c.loop-cell.cell t) ++ cheap_in c.args.sink c.loop-cell.cell 0 c.as_slice.result.now ≡ cheap_from c.args.sink 0 (take (c.loop-cell.cell + 1) t))
    c.as_slice-entries-items.ensures
    (sym (cells_more c.args.sink c.loop-cell.cell c.as_slice-entries-items.result.now c.as_slice.result.now c.loop-cell-test.true (c.as_slice.ensures ∙ (c.entries-item.is ∙ get_or_default c.as_slice-entries-items.result.now c.loop-cell.cell _ c.as_slice.result.now c.loop-cell-test.true))))))
