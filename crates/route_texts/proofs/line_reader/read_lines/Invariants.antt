use Rattle.std.proofs.Common.{◌≡◌, ◌+◌, ◌-◌, ◌≤◌, drop, length}
use Rattle.vrp_lex.specs.Text.{lines_of}
use Rattle.route_texts.specs.Reading.{lines_read, text_read}
use Rattle.route_texts.proofs.line_reader.read_lines.Given as goal

abbrev pub invariant-loop-line : goal.invariant-loop-line
invariant-loop-line g l =
    (lines_read g.R.LineReader.reading l.reader l.number (lines_of (drop l.at l.text)) ≡ text_read g.R.LineReader.reading l.text)
    × g.R.LineReader.sound l.reader
    × (l.at ≤ length l.text)
    × (l.number ≤ l.at + 1)

abbrev pub decreases-loop-line : goal.decreases-loop-line
decreases-loop-line g l = length l.text - l.at
