use Rattle.std.proofs.Common.{[], pos, ◌∙◌, ap, rules}
use Rattle.std.proofs.lemmas.List.{get_or_default}
use Rattle.rank1_cuts.specs.declared.cut.Cut.{Cut}
use Rattle.rank1_cuts.specs.Visits.{coef_of}
use Rattle.multipliers.specs.Quantities.{cut_at}
use Rattle.column_pool.proofs.EntryLemmas.{entries_told}
use Rattle.column_pool.proofs.entries.push_cuts.Goals as goal

pub loop-k-preserved : goal.loop-k-preserved
loop-k-preserved c =
    entries_told (λ (cut : Cut). pos (coef_of cut c.args.visits.now)) _ _ _ c.args.from c.loop-k.k c.args.cuts.now (cut_at [] 0) c.coefficient.result c.loop-k-test.true (search rules) c.loop-k.invariant c.in_ok-push_entry.ensures
    (c.coefficient.ensures ∙ ap (λ (cut : Cut). pos (coef_of cut c.args.visits.now)) (c.index-cuts-k.is ∙ get_or_default c.args.cuts.now c.loop-k.k _ _ c.loop-k-test.true))
