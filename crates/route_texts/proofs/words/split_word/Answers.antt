use Rattle.std.proofs.lemmas.List.{take_rest}
use Rattle.route_texts.proofs.WordLemmas.{words_in-first}
use Rattle.route_texts.proofs.words.split_word.Goals as goal

pub returns : goal.returns
returns c =
    rw take_rest
    (words_in-first c.args.bytes.now (c.in_ok-begin.begin, c.in_ok-begin.end) c.in_ok-begin.ensures)
