use Rattle.std.proofs.Common.{List, ℕ, map, refl, subst}
use Rattle.std.specs.Prelude.{string_bytes}
use Rattle.vrp_cli.specs.Headline.{stream, words_refused, read_failed, no_memory, too_long}
use Rattle.vrp_cli.specs.Answer.{AnswersInput}
use Rattle.vrp_cli.proofs.EndingLemmas.{answers_input, fit_in, none_taken}
use Rattle.vrp_cli.proofs.run.decide.Goals as goal

pub returns-in_default-clause-answers : goal.returns-in_default-clause-answers
returns-in_default-clause-answers g c = words_refused (none_taken (map string_bytes c.args.words.now) c.in_default.ensures.only)

pub returns-in-Ok-answer_input-clause-answers : goal.returns-in-Ok-answer_input-clause-answers
returns-in-Ok-answer_input-clause-answers g c =
    let holds = subst (λ (bytes : List ℕ). AnswersInput c.in-Some.command bytes c.in-Ok-answer_input.answer) c.as_slice.ensures c.in-Ok-answer_input.ensures in
    answers_input (map string_bytes c.args.words.now) (stream (g.S.Source.left c.args.source.now) (g.S.Source.faults c.args.source.now) g.S.Source.answers_each_fault) (stream (g.S.Source.left c.read_all.new.source) (g.S.Source.faults c.read_all.new.source) g.S.Source.answers_each_fault) c.in-Some.command c.in-Ok.input c.in-Ok-answer_input.answer c.in-Some.ensures.command c.in-Ok.ensures.bytes (c.in-Ok.ensures.kept (λ e. cc)) c.in-Ok.ensures.few holds

pub returns-in-Ok-clause-answers : goal.returns-in-Ok-clause-answers
returns-in-Ok-clause-answers g c = no_memory (c.in-Some.command, c.in-Some.ensures.command) (c.in-Ok.ensures.short (λ e. cc)) (c.in-Ok.ensures.kept (λ e. cc))

pub returns-in-Err-Read-clause-answers : goal.returns-in-Err-Read-clause-answers
returns-in-Err-Read-clause-answers g c =
    let read = rw c.in-Err-Read.field-0-is at c.in-Err-Read.ensures in
    read_failed (c.in-Some.command, c.in-Some.ensures.command) (read.read refl)

pub returns-in-Err-TooLong-clause-answers : goal.returns-in-Err-TooLong-clause-answers
returns-in-Err-TooLong-clause-answers g c =
    let read = rw c.in-Err-TooLong.field-0-is at c.in-Err-TooLong.ensures in
    too_long (c.in-Some.command, c.in-Some.ensures.command) (read.long refl) (read.kept (λ e. cc))

pub returns-clause-answers : goal.returns-clause-answers
returns-clause-answers g c =
    let read = rw c.in-Err-Memory.field-0-is at c.in-Err-Memory.ensures in
    no_memory (c.in-Some.command, c.in-Some.ensures.command) (read.short (λ e. cc)) (read.kept (λ e. cc))

pub answer_input-requires-clause-limits : goal.answer_input-requires-clause-limits
answer_input-requires-clause-limits g c κs sized = fit_in (map string_bytes c.args.words.now) c.in-Some.command c.in-Some.ensures.command
