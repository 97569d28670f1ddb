use Rattle.model_text.proofs.PlanCountLemmas.{spelled_counted}
use Rattle.vrp_cli.proofs.eval.eval_paths.Goals as goal

pub eval_plan-requires : goal.eval_plan-requires
eval_plan-requires c = spelled_counted c.args.paths.now c.in-Ok.plan c.requires c.in-Ok.ensures.ok
