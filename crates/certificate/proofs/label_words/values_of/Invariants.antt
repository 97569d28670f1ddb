use Rattle.std.proofs.Common.{◌≡◌, take, drop, length}
use Rattle.vrp_lex.specs.Text.{words_of}
use Rattle.path_graph.specs.Walk.{positions}
use Rattle.line_text.specs.Words.{for_each}
use Rattle.certificate.specs.LabelWords.{value_at}
use Rattle.line_text.proofs.ItemLemmas.{EachLeft}
use Rattle.certificate.proofs.label_words.values_of.Given as goal

abbrev pub invariant-loop-place : goal.invariant-loop-place
invariant-loop-place l =
    (length l.values ≡ 6)
    × EachLeft (value_at l.ends) (for_each (value_at l.ends) positions (words_of l.words)) (take l.place l.values) (drop l.place positions) (words_of l.rest)
