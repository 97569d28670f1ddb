use Rattle.std.proofs.lemmas.Result.{on_ok_weaker}
use Rattle.certificate.proofs.PrintSteps.{values_text}
use Rattle.certificate.proofs.label_print.print_values.Goals as goal

pub returns : goal.returns
returns c =
    on_ok_weaker c.numbers-2.result (λ e. values_text c.args.ends.now c.args.values.now.at c.args.text.now c.numbers.new.self c.numbers-2.new.self c.in_ok-numbers.ensures e) c.numbers-2.ensures
