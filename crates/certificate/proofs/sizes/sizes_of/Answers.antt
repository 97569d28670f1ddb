use Rattle.certificate.proofs.SizesLemmas.{sizes_fit}
use Rattle.certificate.proofs.sizes.sizes_of.Goals as goal

pub returns-clause-fit : goal.returns-clause-fit
returns-clause-fit c =
    let fits = sizes_fit (record { vars = c.model.inside.vars; rows = c.model.inside.rows; sets = c.model.inside.sets; graphs = c.model.inside.graphs; maps = c.model.inside.maps }) c.model.invariant.fits in
    rw (c.in_ok-graphs.ensures, c.as_slice.ensures, c.len-vars.ensures, c.len-rows.ensures) fits
