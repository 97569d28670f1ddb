use Rattle.std.proofs.Common.{◌-◌, length}
use Rattle.model_text.proofs.EndLineLemmas.{EndIsFrom}
use Rattle.model_text.proofs.end_line.model_end.Given as goal

abbrev pub invariant-loop-line : goal.invariant-loop-line
invariant-loop-line l = EndIsFrom l.bytes l.at

abbrev pub decreases-loop-line : goal.decreases-loop-line
decreases-loop-line l = length l.bytes - l.at
