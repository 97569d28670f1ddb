use Rattle.std.proofs.Common.{drop}
use Rattle.std.specs.List.{range_with_len}
use Rattle.vrp_lex.specs.Text.{words_of}
use Rattle.line_text.specs.Words.{for_each}
use Rattle.line_text.proofs.ItemLemmas.{EachLeft}
use Rattle.certificate.specs.ProofWords.{cut_set_wanted}
use Rattle.certificate.proofs.proof_words.cut_sets.Given as goal

abbrev pub invariant-loop : goal.invariant-loop
invariant-loop l =
    EachLeft (λ place. cut_set_wanted l.sets) (for_each (λ place. cut_set_wanted l.sets) (range_with_len 0 l.count) (words_of l.words)) l.pairs (drop l.counter (range_with_len 0 l.count)) (words_of l.rest)
