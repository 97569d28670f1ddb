use Rattle.certificate.specs.Sizes.{sizes_of}
use Rattle.column_rounds.specs.Lines.{AreLinesBefore}
use Rattle.column_rounds.proofs.lines.push_lines.Given as goal

abbrev pub invariant-loop-v : goal.invariant-loop-v
invariant-loop-v l = AreLinesBefore (sizes_of l.model) l.lines l.g l.v
