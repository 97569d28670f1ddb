use Rattle.std.proofs.Common.{◌≡◌, take, drop, length}
use Rattle.vrp_lex.specs.Text.{words_of}
use Rattle.line_text.specs.Words.{for_each}
use Rattle.certificate.specs.LabelWords.{state_places, state_at}
use Rattle.line_text.proofs.ItemLemmas.{EachLeft}
use Rattle.certificate.proofs.label_words.each_state.Given as goal

abbrev pub invariant-loop-place : goal.invariant-loop-place
invariant-loop-place l =
    (length l.states ≡ 64)
    × EachLeft (state_at l.cuts) (for_each (state_at l.cuts) state_places (words_of l.words)) (take l.place l.states) (drop l.place state_places) (words_of l.rest)
