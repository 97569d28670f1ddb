use Rattle.route_texts.proofs.WordLemmas.{words_in-none}
use Rattle.std.proofs.lemmas.List.{take_rest}
use Rattle.route_texts.proofs.words.first_word.Goals as goal

pub returns-then-size-eq0 : goal.returns-then-size-eq0
returns-then-size-eq0 c =
    let bytes = c.args.bytes.now in
    let i = c.blanks_length-blanks.result in
    let ends = rw (c.if-size-eq0.true, take_rest bytes i) at c.word_length-size.ensures.ends in
    words_in-none bytes i c.blanks_length-blanks.ensures.blanks c.blanks_length-blanks.ensures.stops ends
