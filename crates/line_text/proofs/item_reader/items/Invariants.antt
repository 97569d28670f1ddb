use Rattle.std.proofs.Common.{◌≡◌, length}
use Rattle.vrp_lex.specs.Text.{words_of}
use Rattle.line_text.specs.Words.{until}
use Rattle.line_text.proofs.ItemLemmas.{GoesOn}
use Rattle.line_text.proofs.item_reader.items.Given as goal

abbrev pub invariant-loop-reader : goal.invariant-loop-reader
invariant-loop-reader g l =
    GoesOn g.R.ItemReader.stops (g.R.ItemReader.wanted l.initial.reader) (until g.R.ItemReader.stops (g.R.ItemReader.wanted l.initial.reader) (words_of l.initial.rest)) l.items (words_of l.rest)
    × (g.R.ItemReader.wanted l.reader ≡ g.R.ItemReader.wanted l.initial.reader)
    × g.R.ItemReader.sound l.reader l.items

abbrev pub decreases-loop-reader : goal.decreases-loop-reader
decreases-loop-reader g l = length (words_of l.rest)
