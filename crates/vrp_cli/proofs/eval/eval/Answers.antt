use Rattle.vrp_cli.proofs.EndingLemmas.{behind_model, refused_there}
use Rattle.vrp_cli.proofs.eval.eval.Goals as goal

pub returns-in-Ok : goal.returns-in-Ok
returns-in-Ok c = behind_model c.args.input.now c.model_end-end.result c.in-Ok.model c.eval_paths.result c.model_end-end.ensures c.in-Ok.ensures.ok c.eval_paths.ensures

pub returns-in_ok-fault_line-in-Err-Text : goal.returns-in_ok-fault_line-in-Err-Text
returns-in_ok-fault_line-in-Err-Text c =
    let refused = rw c.in-Err-Text.field-0-is at c.in-Err-Text.ensures.refused in
    refused_there c.args.input.now c.model_end-end.result c.in-Err-Text.fault c.in_ok-fault_line-in-Err-Text.field-0 c.model_end-end.ensures refused c.in_ok-fault_line-in-Err-Text.ensures
