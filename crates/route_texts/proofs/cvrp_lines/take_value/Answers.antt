use Rattle.std.proofs.Common.{◌≡◌, false}
use Rattle.route_texts.specs.CvrpDraft.{are_some_nodes}
use Rattle.route_texts.proofs.CvrpFitLemmas.{fits-nodes}
use Rattle.route_texts.proofs.cvrp_lines.take_value.Goals as goal

pub returns-in_ok-draft-in-Dimension-clause-fits : goal.returns-in_ok-draft-in-Dimension-clause-fits
returns-in_ok-draft-in-Dimension-clause-fits c =
    let none : are_some_nodes c.args.draft.now.nodes ≡ false = rw c.in-Dimension.is at c.requires.fresh in
    let within = c.in_ok-dimension-in-Dimension.ensures.within in
    rw c.in_ok-draft-in-Dimension.ensures
    (fits-nodes c.args.draft.now c.in_ok-dimension-in-Dimension.field-0 c.requires.fits none within.0 within.1)
