use Rattle.std.proofs.Common.{◌≡◌, ℕ, ◌+◌, ◌<◌, Some}
use Rattle.std.specs.Prelude.{slice_get}
use Rattle.label_core.specs.declared.table.Fate.{Fate}
use Rattle.label_core.specs.Steps.{MayNote}
use Rattle.label_core.proofs.puts.may_note_all.Given as goal

abbrev pub invariant-loop-i : goal.invariant-loop-i
invariant-loop-i g l = (j : ℕ) → j < l.i → (f : Fate) → slice_get l.fates j ≡ Some f → MayNote (g.S.Space.rules l.space) l.cells l.pass l.label (l.n + j) f
