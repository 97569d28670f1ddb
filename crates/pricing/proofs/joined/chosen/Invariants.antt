use Rattle.route_labels.specs.Meaning.{setting_of}
use Rattle.pricing.specs.JoinedWalks.{AreTakenOnce}
use Rattle.pricing.proofs.joined.chosen.Given as goal

abbrev pub invariant-loop-join : goal.invariant-loop-join
invariant-loop-join l = AreTakenOnce (setting_of l.field).graph l.field.graph l.k l.walks.items
