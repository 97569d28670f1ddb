use Rattle.std.proofs.Common.{◌≡◌, ◌+◌, ◌-◌, ◌≤◌, drop, length}
use Rattle.vrp_lex.specs.Text.{lines_of}
use Rattle.line_text.specs.Reading.{lines_read}
use Rattle.line_text.proofs.line_reader.read_lines.Given as goal

abbrev pub invariant-loop-line : goal.invariant-loop-line
invariant-loop-line g l =
    (lines_read (g.R.LineReader.reading l.fn.fresh) (g.R.LineReader.told l.reader) l.number (lines_of (drop l.at l.text)) ≡ lines_read (g.R.LineReader.reading l.fn.fresh) (g.R.LineReader.reading l.fn.fresh).empty 1 (lines_of l.text))
    × (g.R.LineReader.reading l.reader ≡ g.R.LineReader.reading l.fn.fresh)
    × g.R.LineReader.sound l.reader
    × (l.at ≤ length l.text)
    × (l.number ≤ l.at + 1)

abbrev pub decreases-loop-line : goal.decreases-loop-line
decreases-loop-line g l = length l.text - l.at
