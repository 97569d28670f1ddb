use Rattle.path_graph.specs.Fit.{int_at}
use Rattle.multipliers.proofs.UnitLemmas.{less_fits, product_small}
use Rattle.multipliers.proofs.units.take_term.Goals as goal

pub minus-requires : goal.minus-requires
minus-requires c =
    let term = c.args.term.now in
    less_fits (int_at c.args.units.now term.var) c.product.result (c.requires.small term.var c.requires.fits.var)
    (product_small c.args.mult term.coef c.product.result c.requires.mult c.requires.fits.coef c.product.ensures)
