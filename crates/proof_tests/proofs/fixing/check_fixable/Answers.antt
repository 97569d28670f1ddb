use Rattle.proof_tests.proofs.WholeLemmas.{parts_fit, tables_whole}
use Rattle.proof_tests.proofs.fixing.check_fixable.Goals as goal

pub fixable-requires-clause-parts : goal.fixable-requires-clause-parts
fixable-requires-clause-parts g c =
    parts_fit c.args.at.now c.requires.proved c.requires.both c.as_slice-cuts.result.now c.as_slice-weights.result.now c.as_slice-cuts.ensures c.as_slice-weights.ensures

pub fixable-requires-clause-tables : goal.fixable-requires-clause-tables
fixable-requires-clause-tables g c =
    tables_whole c.args.at.now c.requires.proved c.requires.both c.as_slice-cuts.result.now c.as_slice-weights.result.now c.as_slice-tables.result.now
    c.as_slice-cuts.ensures c.as_slice-weights.ensures c.as_slice-tables.ensures
