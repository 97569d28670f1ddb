use Rattle.std.proofs.Common.{◌∙◌}
use Rattle.open_tree.proofs.SlotLemmas.{opens_at_made}
use Rattle.open_tree.proofs.slots.first_open.Goals as goal

pub loop-at-preserved : goal.loop-at-preserved
loop-at-preserved g c =
    opens_at_made c.args.slots.now c.loop-at.at c.index-slots-at.result c.in_default.field-0 c.loop-at-test.true c.index-slots-at.is c.in_default.is
    ∙ c.loop-at.invariant
