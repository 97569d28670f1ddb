use Rattle.std.proofs.Common.{◌++◌, List, Vec, Global, take, sym, ◌∙◌, ap, append-nil}
use Rattle.label_core.specs.declared.table.Entry.{Entry}
use Rattle.label_rules.specs.declared.label.Label.{Label}
use Rattle.route_labels.specs.Tables.{kept_in}
use Rattle.route_labels.proofs.KeptLemmas.{kept_more, kept_none, kept_one}
use Rattle.route_labels.proofs.filled.push_kept.Goals as goal
use Rattle.route_labels.proofs.filled.push_kept.Goals.{then-is_none+in_ok-push, else-is_none}

pub loop-entry-preserved : goal.loop-entry-preserved
loop-entry-preserved c =
    let e : Entry Label = c.entry-item.result in
    let before : List Label = c.args.labels.now.items ++ kept_in (take c.loop-entry.entry-index c.args.entries.now) in
    let more = kept_more c.args.entries.now c.loop-entry.entry-index e c.args.labels.now.items c.loop-entry-test.true c.entry-item.is in
    elim c.if-is_none.branch [
      | then-is_none+in_ok-push w ↦
          let one = kept_one e c.is_none.result c.is_none.ensures w.if-is_none.true in
          ap (λ (v : Vec Label Global). v.items) w.labels-is
          ∙ (w.in_ok-push.ensures.items ∙ ((λ i. c.loop-entry.invariant i ++ sym one i) ∙ sym more))
      | else-is_none w ↦
          let none = kept_none e c.is_none.result c.is_none.ensures w.if-is_none.false in
          ap (λ (v : Vec Label Global). v.items) w.labels-is
          ∙ (c.loop-entry.invariant ∙ (sym (append-nil before) ∙ ((λ i. before ++ sym none i) ∙ sym more)))
    ]
