use Rattle.std.proofs.Common.{◌≡◌, take, drop, length}
use Rattle.vrp_lex.specs.Text.{words_of}
use Rattle.path_graph.specs.Walk.{positions}
use Rattle.line_text.specs.Words.{for_each}
use Rattle.model_text.specs.LineWords.{need_at}
use Rattle.line_text.proofs.ItemLemmas.{EachLeft}
use Rattle.model_text.proofs.graph_words.needs_of.Given as goal

abbrev pub invariant-loop-place : goal.invariant-loop-place
invariant-loop-place l =
    (length l.needs ≡ 6)
    × EachLeft (need_at l.ends) (for_each (need_at l.ends) positions (words_of l.words)) (take l.place l.needs) (drop l.place positions) (words_of l.rest)
