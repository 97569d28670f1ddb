use Rattle.label_core.proofs.RunRule.{keeps_rule}
use Rattle.label_core.proofs.machine_law.every_run_keeps_the_rule.Goals as goal

pub returns : goal.returns
returns g c = keeps_rule (g.S.Space.rules c.args.space.now) (g.met.S.Space.lawful c.args.space.now)
