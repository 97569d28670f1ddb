use Rattle.std.proofs.Common.{◌≡◌, take, drop, length}
use Rattle.vrp_lex.specs.Text.{words_of}
use Rattle.path_graph.specs.Walk.{positions}
use Rattle.line_text.specs.Words.{for_each}
use Rattle.model_text.specs.LineWords.{window_at}
use Rattle.line_text.proofs.ItemLemmas.{EachLeft}
use Rattle.model_text.proofs.graph_words.windows_of.Given as goal

abbrev pub invariant-loop-place : goal.invariant-loop-place
invariant-loop-place l =
    (length l.windows ≡ 6)
    × EachLeft (window_at l.ends) (for_each (window_at l.ends) positions (words_of l.words)) (take l.place l.windows) (drop l.place positions) (words_of l.rest)
