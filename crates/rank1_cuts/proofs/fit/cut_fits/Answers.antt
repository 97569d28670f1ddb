use Rattle.rank1_cuts.proofs.FitLemmas.{refused, accepted}
use Rattle.rank1_cuts.proofs.fit.cut_fits.Goals as goal

pub returns-in-Some-clause-fits : goal.returns-in-Some-clause-fits
returns-in-Some-clause-fits c = (refused c.args.cut.now c.in-Some.fault c.in-Some.ensures).0

pub returns-in-Some-clause-fault : goal.returns-in-Some-clause-fault
returns-in-Some-clause-fault c = (refused c.args.cut.now c.in-Some.fault c.in-Some.ensures).1

pub returns-in-None-clause-fault : goal.returns-in-None-clause-fault
returns-in-None-clause-fault c = (accepted c.args.cut.now tt c.in-None.ensures).1
