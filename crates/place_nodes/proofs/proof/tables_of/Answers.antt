use Rattle.std.proofs.Common.{ℕ, List, sym, subst}
use Rattle.rank1_cuts.specs.declared.cut.Cut.{Cut}
use Rattle.pricing.specs.Fields.{PlaceFits}
use Rattle.place_nodes.specs.Tasks.{graphs_of}
use Rattle.place_nodes.proofs.BasisLemmas.{basis_fits, basis_outcome}
use Rattle.place_nodes.proofs.proof.tables_of.Goals as goal

pub tables-requires-clause-fit : goal.tables-requires-clause-fit
tables-requires-clause-fit c =
    let t = c.args.task.now in
    let b = c.args.basis.now in
    subst (λ (cuts : List Cut). PlaceFits t.model.now t.spot.now b.priced b.near cuts c.as_slice-2.result.now) (sym c.as_slice.ensures)
    (subst (λ (y : List ℕ). PlaceFits t.model.now t.spot.now b.priced b.near b.cuts y) (sym c.as_slice-2.ensures) (basis_fits t.model.now t.spot.now b c.requires.basis c.requires.task.spot))

pub returns-clause-outcome : goal.returns-clause-outcome
returns-clause-outcome c =
    let t = c.args.task.now in
    basis_outcome t.model.now t.spot.now c.args.basis.now c.requires.basis (graphs_of t) t.limit c.tables.result c.as_slice.result.now c.as_slice-2.result.now c.as_slice.ensures c.as_slice-2.ensures
    c.tables.ensures.outcome
