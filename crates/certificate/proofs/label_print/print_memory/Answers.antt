use Rattle.std.proofs.lemmas.Result.{on_ok_weaker}
use Rattle.certificate.proofs.PrintSteps.{untrue, memory_none, memory_some}
use Rattle.certificate.proofs.label_print.print_memory.Goals as goal

pub returns-then-within : goal.returns-then-within
returns-then-within c =
    memory_none c.args.memory.now c.empty.result c.args.text.now c.empty.ensures.members (c.within.ensures.0 c.if-within.true)

pub returns : goal.returns
returns c =
    on_ok_weaker c.print_sets.result
    (λ e. memory_some c.args.memory.now c.empty.result c.args.text.now c.word.new.self c.print_sets.new.text (λ sub. untrue c.within.result c.if-within.false (c.within.ensures.1 sub)) c.in_ok-word.ensures e) c.print_sets.ensures
