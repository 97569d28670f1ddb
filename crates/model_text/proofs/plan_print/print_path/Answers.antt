use Rattle.std.specs.Prelude.{decimal}
use Rattle.std.proofs.lemmas.Result.{on_ok_weaker}
use Rattle.model_text.proofs.LineLemmas.{path_line_of}
use Rattle.model_text.proofs.plan_print.print_path.Goals as goal

pub returns : goal.returns
returns c =
    on_ok_weaker c.end_line.result
    (λ e. path_line_of c.args.text.now c.first.new.self c.number.new.self c.number-2.new.self c.numbers.new.self _ _ _ _ _ decimal c.in_ok-first.ensures c.in_ok-number.ensures c.in_ok-number-2.ensures (rw c.as_slice.ensures at c.in_ok-numbers.ensures) e)
    c.end_line.ensures
