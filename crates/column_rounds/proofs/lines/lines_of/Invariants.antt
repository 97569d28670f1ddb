use Rattle.certificate.specs.Sizes.{sizes_of}
use Rattle.column_rounds.specs.Lines.{AreLinesBefore}
use Rattle.column_rounds.proofs.lines.lines_of.Given as goal

abbrev pub invariant-loop-g : goal.invariant-loop-g
invariant-loop-g l = AreLinesBefore (sizes_of l.model) l.lines l.g 0
