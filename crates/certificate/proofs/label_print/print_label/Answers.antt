use Rattle.std.proofs.Common.{FitsSigned, rules, ◌≡◌, ◌++◌, ◌∷◌}
use Rattle.std.specs.Fmt.{signed_decimal}
use Rattle.std.specs.Int.{w128}
use Rattle.std.proofs.lemmas.Int.{to_z-of_z}
use Rattle.std.proofs.lemmas.Result.{on_ok_weaker}
use Rattle.certificate.proofs.PrintSteps.{label_line}
use Rattle.certificate.proofs.label_print.print_label.Goals as goal

pub returns : goal.returns
returns c =
    let fits : FitsSigned w128 c.args.label.now.cost = search rules in
    let cost : c.number-2.new.self ≡ c.number.new.self ++ 32 ∷ signed_decimal c.args.label.now.cost = simp to_z-of_z at c.in_ok-number-2.ensures in
    on_ok_weaker c.end_line.result
    (λ e. label_line c.args.key.now c.args.shape.now c.args.label.now c.args.text.now c.first.new.self c.number.new.self c.number-2.new.self c.print_values.new.text c.print_memory.new.text c.print_states.new.text c.end_line.new.self c.in_ok-first.ensures c.in_ok-number.ensures cost c.in_ok-print_values.ensures c.in_ok-print_memory.ensures c.in_ok-print_states.ensures e)
    c.end_line.ensures
