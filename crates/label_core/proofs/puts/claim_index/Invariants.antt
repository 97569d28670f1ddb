use Rattle.std.proofs.Common.{◌≡◌, ◌≢◌, ℕ, ◌<◌, Some}
use Rattle.std.specs.Prelude.{slice_get}
use Rattle.label_core.specs.declared.machine.ClaimState.{ClaimState}
use Rattle.label_core.proofs.puts.claim_index.Given as goal

abbrev pub invariant-loop-i : goal.invariant-loop-i
invariant-loop-i l = (j : ℕ) → j < l.i → (k : ClaimState) → slice_get l.claims j ≡ Some k → k.place ≢ l.q
