use Rattle.std.proofs.Common.{◌≡◌, ◌++◌, ◌-◌, ℕ, List, length}
use Rattle.label_core.specs.Tables.{entry_count}
use Rattle.label_core.specs.Walks.{LeadsBack}
use Rattle.label_core.proofs.walk.arcs_back.Given as goal

abbrev pub invariant-loop-origin : goal.invariant-loop-origin
invariant-loop-origin g l = record {
  arcs : List ℕ;
  left : List ℕ;
  so_far : l.back.items ++ left ≡ arcs;
  way : LeadsBack l.t.cells l.fn.at arcs;
  way_on : LeadsBack l.t.cells l.place left;
}

abbrev pub decreases-loop-origin : goal.decreases-loop-origin
decreases-loop-origin g l = entry_count l.t.cells - length l.back.items
