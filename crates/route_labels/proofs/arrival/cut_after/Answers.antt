use Rattle.std.proofs.Common.{sym, ◌∙◌, ap, subst, arith}
use Rattle.rank1_cuts.specs.declared.cut.Cut.{Cut}
use Rattle.rank1_cuts.specs.Fit.{CutFits}
use Rattle.rank1_cuts.specs.Visits.{rises as rises_at}
use Rattle.rank1_cuts.specs.Visits.{state_after}
use Rattle.route_labels.proofs.ArrivalLemmas.{cut_read}
use Rattle.route_labels.proofs.arrival.cut_after.Goals as goal

pub step_state-requires-clause-fits : goal.step_state-requires-clause-fits
step_state-requires-clause-fits c = subst CutFits (sym (cut_read c.args.cuts.now c.args.i c.index-cuts-i.result c.requires.there c.index-cuts-i.is)) c.requires.fits

pub step_state-requires-clause-state : goal.step_state-requires-clause-state
step_state-requires-clause-state c =
    let same = ap (λ (cut : Cut). cut.den) (cut_read c.args.cuts.now c.args.i c.index-cuts-i.result c.requires.there c.index-cuts-i.is) in
    omega (arith, same, c.requires.state)

pub returns-clause-state : goal.returns-clause-state
returns-clause-state c =
    c.step_state.ensures.state ∙ ap (λ (cut : Cut). state_after cut c.args.state c.args.set) (cut_read c.args.cuts.now c.args.i c.index-cuts-i.result c.requires.there c.index-cuts-i.is)

pub returns-clause-rises : goal.returns-clause-rises
returns-clause-rises c =
    c.step_state.ensures.rises ∙ ap (λ (cut : Cut). rises_at cut c.args.state c.args.set) (cut_read c.args.cuts.now c.args.i c.index-cuts-i.result c.requires.there c.index-cuts-i.is)
