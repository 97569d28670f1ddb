use Rattle.vrp_lex.proofs.WordLemmas.{IsWordEnd}
use Rattle.vrp_lex.proofs.words.word.Given as goal

abbrev pub invariant-loop : goal.invariant-loop
invariant-loop l = IsWordEnd l.bytes l.at l.counter
