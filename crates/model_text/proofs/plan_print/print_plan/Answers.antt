use Rattle.model_text.proofs.PlanLaws.{plan_text_spells}
use Rattle.model_text.proofs.plan_print.print_plan.Goals as goal

pub returns-clause-spells : goal.returns-clause-spells
returns-clause-spells c =
    rw (c.into_list.ensures, c.in_ok-first.ensures, c.in_ok-print_paths.ensures, c.as_slice.ensures, c.new-text.ensures)
    (plan_text_spells c.args.plan.now c.requires)
