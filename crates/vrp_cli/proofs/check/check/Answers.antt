use Rattle.vrp_cli.proofs.EndingLemmas.{check_behind_model, check_refused_there}
use Rattle.vrp_cli.proofs.check.check.Goals as goal

pub returns-in-Ok : goal.returns-in-Ok
returns-in-Ok c = check_behind_model c.args.input.now c.model_end-end.result c.in-Ok.model c.check_text.result c.model_end-end.ensures c.in-Ok.ensures.ok c.check_text.ensures

pub returns-in_ok-fault_line-in-Err-Text : goal.returns-in_ok-fault_line-in-Err-Text
returns-in_ok-fault_line-in-Err-Text c =
    let refused = rw c.in-Err-Text.field-0-is at c.in-Err-Text.ensures.refused in
    check_refused_there c.args.input.now c.model_end-end.result c.in-Err-Text.fault c.in_ok-fault_line-in-Err-Text.field-0 c.model_end-end.ensures refused c.in_ok-fault_line-in-Err-Text.ensures
