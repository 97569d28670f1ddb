use Rattle.std.proofs.Common.{map, take}
use Rattle.cert_rules.specs.Meaning.{step_of}
use Rattle.list_check.specs.Lines.{AreLines}
use Rattle.list_check.proofs.lines.lines_of.Given as goal

abbrev pub invariant-loop-step : goal.invariant-loop-step
invariant-loop-step l = AreLines (take l.step-index (map step_of l.steps)) l.lines
