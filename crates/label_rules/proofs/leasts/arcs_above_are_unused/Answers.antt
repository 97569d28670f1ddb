use Rattle.label_rules.proofs.LeastLemmas.{unused_arc, limit_falls}
use Rattle.label_rules.proofs.leasts.arcs_above_are_unused.Goals as goal

pub returns-clause-unused : goal.returns-clause-unused
returns-clause-unused c = unused_arc

pub returns-clause-falls : goal.returns-clause-falls
returns-clause-falls c = limit_falls
