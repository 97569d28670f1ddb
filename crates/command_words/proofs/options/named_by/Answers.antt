use Rattle.std.proofs.Common.{◌<◌, map, length, string_bytes, arith}
use Rattle.std.proofs.lemmas.List.{length-map}
use Rattle.command_words.proofs.OptionLemmas.{by_joined, by_number, never}
use Rattle.command_words.proofs.options.named_by.Goals as goal

pub returns-then-is_name : goal.returns-then-is_name
returns-then-is_name c =
    let within : c.args.at < length (map string_bytes c.args.words.now) = omega (arith, c.requires, length-map c.args.words.now string_bytes) in
    by_number c.args.choice (map string_bytes c.args.words.now) c.args.at c.word_at-word.result.now c.number_at.result within c.word_at-word.ensures (c.is_name.ensures.0 c.if-is_name.true) c.number_at.ensures

pub returns : goal.returns
returns c =
    let within : c.args.at < length (map string_bytes c.args.words.now) = omega (arith, c.requires, length-map c.args.words.now string_bytes) in
    by_joined c.args.choice (map string_bytes c.args.words.now) c.args.at c.word_at-word.result.now c.joined.result within c.word_at-word.ensures (λ is. never c.is_name.result (c.is_name.ensures.1 is) c.if-is_name.false) c.joined.ensures
