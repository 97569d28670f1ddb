use Rattle.std.proofs.lemmas.Result.{err_from_is_err_and}
use Rattle.model_text.proofs.PlanLaws.{plan_reads_spelled, plan_refused, spelled_is_read}
use Rattle.model_text.proofs.path_reader.read_plan.Goals as goal

pub returns-in_err-reader-clause-refused : goal.returns-in_err-reader-clause-refused
returns-in_err-reader-clause-refused c =
    let handed = err_from_is_err_and c.from_residual.result c.from_residual.ensures.1 in
    rw (handed.1, handed.2) (plan_refused c.args.bytes.now c.in_err-reader.field-0.0 c.in_err-reader.ensures.gives)

pub returns-clause-ok : goal.returns-clause-ok
returns-clause-ok c = plan_reads_spelled c.args.bytes.now c.in_ok-reader.reader.draft c.in_ok-reader.ensures.gives

pub returns-clause-only : goal.returns-clause-only
returns-clause-only c paths spells = spelled_is_read c.args.bytes.now c.in_ok-reader.reader.draft paths c.in_ok-reader.ensures.gives spells
