use Rattle.std.proofs.Common.{◌≡◌, ◌<◌, length}
use Rattle.ng_sets.specs.Widening.{count_below, has_grown}
use Rattle.ng_sets.proofs.WideningLemmas.{AreWidening}
use Rattle.ng_sets.proofs.widening.widen_between.Given as goal

abbrev pub invariant-loop-m : goal.invariant-loop-m
invariant-loop-m l = record {
  past : l.from < l.m;
  lists : AreWidening l.graph l.g l.arcs l.from l.m l.found.set l.initial.near l.near;
  grown : l.grown ≡ count_below (length l.graph.vertices) (has_grown l.initial.near l.near l.g l.found.set);
}
