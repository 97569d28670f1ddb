use Rattle.route_labels.specs.Meaning.{setting_of}
use Rattle.arc_fixing.specs.Chosen.{AppendsChosen}
use Rattle.arc_fixing.specs.Fixable.{arcs_in}
use Rattle.arc_fixing.specs.Pairs.{IsFixableIn}
use Rattle.arc_fixing.proofs.fixing.push_fixable.Given as goal

abbrev pub invariant-loop-arc : goal.invariant-loop-arc
invariant-loop-arc l = AppendsChosen (IsFixableIn (setting_of l.field) l.table.fore l.table.back l.limit) (arcs_in l.field.graph l.arc) l.initial.arcs.items l.arcs.items
