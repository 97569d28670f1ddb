use Rattle.std.proofs.Common.{FitsSigned, w64, rules}
use Rattle.std.proofs.lemmas.Int.{to_z-of_z}
use Rattle.std.proofs.lemmas.Result.{on_ok_weaker}
use Rattle.model_text.proofs.LineLemmas.{line_of}
use Rattle.model_text.proofs.model_print.print_var.Goals as goal

pub returns : goal.returns
returns c =
    let v = c.args.var.now in
    let low : FitsSigned w64 v.low = search rules in
    let high : FitsSigned w64 v.high = search rules in
    let cost : FitsSigned w64 v.cost = search rules in
    let words = simp to_z-of_z at c.in_ok-numbers.ensures in
    on_ok_weaker c.end_line.result
    (λ e. line_of c.args.text.now c.first.new.self c.numbers.new.self _ _ _ c.in_ok-first.ensures words e)
    c.end_line.ensures
