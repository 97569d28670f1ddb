use Rattle.std.proofs.lemmas.Slice.Zip.{AllZip-long}
use Rattle.fixed_master.specs.Duals.{SuitsSide}
use Rattle.column_rounds.proofs.MasterLemmas.{all_within}
use Rattle.column_rounds.proofs.master.solved.Goals as goal

pub returns-clause-count : goal.returns-clause-count
returns-clause-count c = AllZip-long SuitsSide c.args.sides.now c.in_ok-duals.duals.mult c.in_ok-duals.ensures.mult

pub returns-clause-each : goal.returns-clause-each
returns-clause-each c = all_within c.args.sides.now c.in_ok-duals.duals.mult c.in_ok-duals.ensures.mult
