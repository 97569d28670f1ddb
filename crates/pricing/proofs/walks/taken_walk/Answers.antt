use Rattle.std.proofs.Common.{sym, subst, refl}
use Rattle.label_core.specs.Tables.{place}
use Rattle.label_core.specs.Walks.{IsWalkOf}
use Rattle.pricing.proofs.ChosenLemmas.{choices_on, taken_from}
use Rattle.pricing.proofs.walks.taken_walk.Goals as goal

pub arcs_of-requires : goal.arcs_of-requires
arcs_of-requires c =
    let t = c.args.made.now.cells in
    let p = place c.args.rank.now.cell c.args.rank.now.index in
    (choices_on c.args.graph.now t p c.requires.cheap.entry c.as_slice.result.now c.requires.made c.requires.cheap.stands
    (subst (IsWalkOf t p) (sym c.as_slice.ensures) c.in_ok-choices.ensures)).0

pub returns : goal.returns
returns c =
    let t = c.args.made.now.cells in
    let p = place c.args.rank.now.cell c.args.rank.now.index in
    taken_from c.args.graph.now c.args.number t c.args.rank.now c.as_slice.result.now _ c.requires.made c.requires.cheap
    (subst (IsWalkOf t p) (sym c.as_slice.ensures) c.in_ok-choices.ensures) refl refl c.in_ok-arcs_of.ensures
