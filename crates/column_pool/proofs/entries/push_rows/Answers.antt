use Rattle.std.proofs.Common.{[], ◌∙◌, ap, rules}
use Rattle.std.specs.Prelude.{slice_index}
use Rattle.std.proofs.lemmas.List.{get_or_default}
use Rattle.route_model.specs.declared.parts.Row.{Row}
use Rattle.route_model.specs.Parts.{row_at}
use Rattle.column_pool.specs.Amounts.{sum_with}
use Rattle.column_pool.proofs.EntryLemmas.{entries_told}
use Rattle.column_pool.proofs.entries.push_rows.Goals as goal

pub loop-k-preserved : goal.loop-k-preserved
loop-k-preserved c =
    entries_told (λ (row : Row). sum_with (slice_index c.args.uses.now) row.terms) _ _ _ c.args.from c.loop-k.k c.args.rows.now (row_at [] 0) c.term_sum.result c.loop-k-test.true (search rules) c.loop-k.invariant c.in_ok-push_entry.ensures
    (c.term_sum.ensures
    ∙ ap (sum_with (slice_index c.args.uses.now)) (c.as_slice.ensures ∙ ap (λ (row : Row). row.terms) (c.index-rows-k.is ∙ get_or_default c.args.rows.now c.loop-k.k _ _ c.loop-k-test.true)))
