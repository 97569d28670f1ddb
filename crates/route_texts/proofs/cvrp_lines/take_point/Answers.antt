use Rattle.route_texts.proofs.CvrpFitLemmas.{fits-point}
use Rattle.route_texts.proofs.cvrp_lines.take_point.Goals as goal

pub returns-clause-fits : goal.returns-clause-fits
returns-clause-fits c =
    rw c.place.ensures
    (fits-point c.args.draft.now c.in_ok-number.number c.in_ok-number.point c.requires c.in_ok-number.ensures.within c.in_ok-number.ensures.fits)
