use Rattle.std.proofs.Common.{◌≢◌, ℕ, ◌<◌, get_or}
use Rattle.label_rules.specs.declared.label.Label.{Label}
use Rattle.concatenate.proofs.lists.first_at.Given as goal

abbrev pub invariant-loop-i : goal.invariant-loop-i
invariant-loop-i l = (k : ℕ) (d : Label) → k < l.i → (get_or l.labels k d).vertex ≢ l.vertex
