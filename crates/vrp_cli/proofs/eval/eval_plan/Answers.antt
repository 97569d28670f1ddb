use Rattle.vrp_cli.proofs.JudgeLemmas.{fault_unsolved}
use Rattle.vrp_cli.proofs.eval.eval_plan.Goals as goal

pub returns-in_ok-plan_fault_line-in_default : goal.returns-in_ok-plan_fault_line-in_default
returns-in_ok-plan_fault_line-in_default c =
    let unsolved = fault_unsolved c.args.model.now c.args.plan.now c.judge.result c.judge.ensures c.in_default.not-Fine in
    (c.judge.result, c.judge.ensures, unsolved, c.in_ok-plan_fault_line-in_default.ensures)
