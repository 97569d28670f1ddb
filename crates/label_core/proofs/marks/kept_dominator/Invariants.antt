use Rattle.std.proofs.Common.{◌≡◌, ◌<◌, ℕ, Some, false}
use Rattle.std.specs.Prelude.{slice_get}
use Rattle.label_core.specs.declared.table.Entry.{Entry}
use Rattle.label_core.specs.Tables.{IsKept}
use Rattle.label_core.proofs.marks.kept_dominator.Given as goal

abbrev pub invariant-loop-i : goal.invariant-loop-i
invariant-loop-i g l = (k : ℕ) → k < l.i → (e : Entry g.row.S-Label.Denot) → slice_get l.entries k ≡ Some e → IsKept e
    → (g.S.Space.rules l.space).dominates e.label l.label ≡ false
