use Rattle.std.proofs.Common.{take}
use Rattle.label_core.specs.Runs.{Runs}
use Rattle.label_core.specs.Rule.{IsRuled}
use Rattle.label_core.proofs.playing.play.Given as goal

abbrev pub invariant-loop-i : goal.invariant-loop-i
invariant-loop-i g l =
    record {
      run : Runs (g.S.Space.rules l.space) l.core (take l.i l.events) l.played;
      rule : IsRuled (g.S.Space.rules l.space) l.played;
    }
