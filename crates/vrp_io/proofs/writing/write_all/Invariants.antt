use Rattle.std.proofs.Common.{◌≡◌, ◌≤◌, ◌+◌, ◌++◌, List, ℕ, length}
use Rattle.std.specs.Io.KnownBytes.{Appends}
use Rattle.vrp_io.specs.Counts.{Kept}
use Rattle.vrp_io.specs.Handed.{Handed}
use Rattle.vrp_io.proofs.writing.write_all.Given as goal

abbrev pub invariant-loop-rest : goal.invariant-loop-rest
invariant-loop-rest g l =
    record {
      front : (front : List ℕ) × (l.fn.bytes ≡ front ++ l.rest) × Appends (g.K.Sink.written l.fn.sink) (g.K.Sink.written l.sink) front;
      handed : Handed g.K.Sink.wrote l.fn.sink l.fn.bytes l.sink l.rest;
      later : g.K.Sink.faults l.fn.sink ≤ g.K.Sink.faults l.sink;
      kept : Kept g.K.Sink.answers_each_fault (g.K.Sink.faults l.fn.sink) (g.K.Sink.faults l.sink);
      writes : g.K.Sink.calls l.sink + length l.rest ≤ g.K.Sink.calls l.fn.sink + length l.fn.bytes;
    }

abbrev pub decreases-loop-rest : goal.decreases-loop-rest
decreases-loop-rest g l = length l.rest
