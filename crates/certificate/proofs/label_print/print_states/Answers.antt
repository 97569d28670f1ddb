use Rattle.std.proofs.Common.{ℕ, List, length, ap, ◌∙◌}
use Rattle.std.specs.Prelude.{◌==◌}
use Rattle.std.proofs.lemmas.Result.{on_ok_weaker}
use Rattle.certificate.proofs.PrintSteps.{untrue, states_text}
use Rattle.certificate.proofs.label_print.print_states.Goals as goal

pub returns : goal.returns
returns c =
    on_ok_weaker c.numbers.result
    (λ e. states_text c.args.states.now c.args.text.now c.word.new.self c.numbers.new.self (λ none. untrue c.is_empty.result c.if-is_empty.false (c.is_empty.ensures ∙ ap (λ (xs : List ℕ). length xs == 0) none)) c.in_ok-word.ensures e) c.numbers.ensures
