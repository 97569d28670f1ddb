use Rattle.std.proofs.Common.{◌≤◌, ◌-◌, ◌+◌, length, vec_len}
use Rattle.std.specs.Io.KnownBytes.{Consumes}
use Rattle.vrp_io.specs.Counts.{Kept}
use Rattle.vrp_io.proofs.reading.read_all.Given as goal

abbrev pub invariant-loop-source : goal.invariant-loop-source
invariant-loop-source g l =
    record {
      few : length l.bytes.items ≤ l.most;
      taken : Consumes (g.S.Source.left l.fn.source) (g.S.Source.left l.source) l.bytes.items;
      later : g.S.Source.faults l.fn.source ≤ g.S.Source.faults l.source;
      kept : Kept g.S.Source.answers_each_fault (g.S.Source.faults l.fn.source) (g.S.Source.faults l.source);
      reads : g.S.Source.calls l.source ≤ g.S.Source.calls l.fn.source + length l.bytes.items;
    }

abbrev pub decreases-loop-source : goal.decreases-loop-source
decreases-loop-source g l = l.most - vec_len l.bytes
