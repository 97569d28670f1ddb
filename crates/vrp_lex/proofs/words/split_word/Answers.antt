use Rattle.std.proofs.lemmas.List.{take_rest}
use Rattle.vrp_lex.proofs.WordLemmas.{words_of-first}
use Rattle.vrp_lex.proofs.words.split_word.Goals as goal

pub returns : goal.returns
returns c =
    rw take_rest
    (words_of-first c.args.bytes.now (c.in_ok-begin.begin, c.in_ok-begin.end) c.in_ok-begin.ensures)
