use Rattle.arc_fixing.specs.Chosen.{IsChosen}
use Rattle.arc_fixing.specs.Fixable.{IsFixable, arcs_below}
use Rattle.arc_fixing.proofs.fixing.fixable.Given as goal

abbrev pub invariant-loop-g : goal.invariant-loop-g
invariant-loop-g l =
    IsChosen (IsFixable l.model (record { spot = l.spot; priced = l.priced; near = l.near; cuts = l.cuts; y = l.y }) l.tables l.z) (arcs_below l.model l.g) l.arcs.items
