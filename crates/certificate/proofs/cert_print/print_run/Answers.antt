use Rattle.certificate.proofs.PrintSteps.{run_more, begins_with}
use Rattle.certificate.proofs.cert_print.print_run.Goals as goal

pub returns-clause-some : goal.returns-clause-some
returns-clause-some c =
    (run_more _ c.args.drops.now c.run_of-count.result c.args.text.now c.print_drop.new.text (begins_with c.args.drops.now (0, 0) c.requires) c.run_of-count.ensures.within c.run_of-count.ensures.inside c.run_of-count.ensures.behind c.in_ok-print_drop.ensures).1

pub returns-clause-text : goal.returns-clause-text
returns-clause-text c =
    (run_more _ c.args.drops.now c.run_of-count.result c.args.text.now c.print_drop.new.text (begins_with c.args.drops.now (0, 0) c.requires) c.run_of-count.ensures.within c.run_of-count.ensures.inside c.run_of-count.ensures.behind c.in_ok-print_drop.ensures).0
