use Rattle.std.proofs.Common.{◌<◌, map, length, drop, string_bytes, subst, sym, arith}
use Rattle.std.proofs.lemmas.List.{length-map}
use Rattle.command_words.specs.Options.{MatchNumber}
use Rattle.command_words.proofs.OptionLemmas.{no_number, no_number_past, number_stands}
use Rattle.command_words.proofs.options.number_at.Goals as goal

pub returns-then-at-words : goal.returns-then-at-words
returns-then-at-words c = no_number_past c.args.choice (map string_bytes c.args.words.now) c.args.at (omega (arith, c.if-at-words.true, length-map c.args.words.now string_bytes))

pub returns-in_err-number : goal.returns-in_err-number
returns-in_err-number c =
    let within : c.args.at < length (map string_bytes c.args.words.now) = omega (arith, c.if-at-words.false, length-map c.args.words.now string_bytes) in
    subst (MatchNumber c.args.choice (drop c.args.at (map string_bytes c.args.words.now))) (sym c.from_residual.ensures)
    (no_number c.args.choice (map string_bytes c.args.words.now) c.args.at c.word_at.result.now within c.word_at.ensures c.in_err-number.ensures)

pub returns : goal.returns
returns c =
    let within : c.args.at < length (map string_bytes c.args.words.now) = omega (arith, c.if-at-words.false, length-map c.args.words.now string_bytes) in
    number_stands c.args.choice (map string_bytes c.args.words.now) c.args.at c.word_at.result.now c.in_ok-number.number within c.word_at.ensures c.in_ok-number.ensures.0 c.in_ok-number.ensures.1
