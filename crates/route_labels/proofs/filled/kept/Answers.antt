use Rattle.std.proofs.Common.{◌++◌, List, sym, ◌∙◌, ap}
use Rattle.label_core.specs.declared.table.Entry.{Entry}
use Rattle.label_rules.specs.declared.label.Label.{Label}
use Rattle.route_labels.specs.Tables.{kept_in}
use Rattle.route_labels.proofs.KeptLemmas.{cells_more}
use Rattle.route_labels.proofs.filled.kept.Goals as goal

pub loop-entries-preserved : goal.loop-entries-preserved
loop-entries-preserved c =
    let cells = c.as_slice-entries-items.result.now in
    let more = cells_more cells c.loop-entries.entries-index c.entries-item.result c.loop-entries-test.true c.entries-item.is in
    let here = ap (λ (es : List (Entry Label)). kept_in es) c.as_slice.ensures in
    c.in_ok-push_kept.ensures ∙ ((λ i. c.loop-entries.invariant i ++ here i) ∙ sym more)
