use Rattle.std.proofs.Common.{rules, ◌<◌, Some, map, length, string_bytes, ap, arith}
use Rattle.std.proofs.lemmas.List.{length-map}
use Rattle.command_words.specs.declared.command.Command.{Command}
use Rattle.command_words.specs.declared.command.Command.TheVariants.{Solve}
use Rattle.command_words.proofs.OptionLemmas.{never}
use Rattle.command_words.proofs.CommandLemmas.{takes_solve, one_command, lone_only}
use Rattle.command_words.proofs.command.command_of.Goals as goal

pub returns-then-is_solve-clause-command : goal.returns-then-is_solve-clause-command
returns-then-is_solve-clause-command c =
    let there : 0 < length c.args.words.now = search rules in
    let some : 0 < length (map string_bytes c.args.words.now) = omega (arith, there, length-map c.args.words.now string_bytes) in
    takes_solve (map string_bytes c.args.words.now) c.first_word-word.result.now c.in_ok-limits_from.field-0 some c.first_word-word.ensures (c.is_solve.ensures.0 c.if-is_solve.true) c.in_ok-limits_from.ensures

pub returns-then-is_solve-clause-only : goal.returns-then-is_solve-clause-only
returns-then-is_solve-clause-only c other taken =
    let there : 0 < length c.args.words.now = search rules in
    let some : 0 < length (map string_bytes c.args.words.now) = omega (arith, there, length-map c.args.words.now string_bytes) in
    let takes = takes_solve (map string_bytes c.args.words.now) c.first_word-word.result.now c.in_ok-limits_from.field-0 some c.first_word-word.ensures (c.is_solve.ensures.0 c.if-is_solve.true) c.in_ok-limits_from.ensures in
    ap (λ (d : Command). Some d) (one_command (map string_bytes c.args.words.now) (Solve c.in_ok-limits_from.field-0) other takes taken)

pub returns-clause-only : goal.returns-clause-only
returns-clause-only c other taken =
    lone_only (map string_bytes c.args.words.now) c.first_word-word.result.now c.lone_command.result c.first_word-word.ensures
    (λ is. never c.is_solve.result (c.is_solve.ensures.1 is) c.if-is_solve.false) c.lone_command.ensures other taken
