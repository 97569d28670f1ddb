use Rattle.std.proofs.Common.{sym, ◌∙◌, ap, subst, take}
use Rattle.concatenate.specs.Costs.{IsLeastWith}
use Rattle.concatenate.proofs.LeastLemmas.{no_label}
use Rattle.pricing.specs.Tables.{IsSinkCost}
use Rattle.pricing.proofs.SinkLemmas.{all_taken, with_item, without_item}
use Rattle.pricing.proofs.sink.least_at.Goals as goal
use Rattle.pricing.proofs.sink.least_at.Goals.{then-label-sink, else-label-sink}

pub loop-label-preserved : goal.loop-label-preserved
loop-label-preserved c =
    elim c.if-label-sink.branch [
      | then-label-sink w ↦ with_item c.args.sink c.args.labels.now c.loop-label.label-index no_label c.loop-label.least c.if-label-sink.least
          c.loop-label-test.true c.loop-label.invariant w.if-label-sink.true (w.least-is ∙ w.lesser-least.ensures)
      | else-label-sink w ↦ without_item c.args.sink c.args.labels.now c.loop-label.label-index no_label c.if-label-sink.least
          c.loop-label-test.true (subst (IsLeastWith (IsSinkCost c.args.sink (take c.loop-label.label-index c.args.labels.now))) (sym w.least-is) c.loop-label.invariant)
          w.if-label-sink.false
    ]

pub returns : goal.returns
returns c = all_taken c.args.sink c.args.labels.now c.loop-label.label-index c.loop-label.least c.loop-label-test.false c.loop-label.invariant
