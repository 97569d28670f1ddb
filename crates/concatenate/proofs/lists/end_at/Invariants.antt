use Rattle.std.proofs.Common.{◌≢◌, ℕ, ◌<◌, ◌≤◌, length, get_or}
use Rattle.label_rules.specs.declared.label.Label.{Label}
use Rattle.concatenate.proofs.lists.end_at.Given as goal

abbrev pub decreases-loop-end : goal.decreases-loop-end
decreases-loop-end l = l.end

abbrev pub invariant-loop-end : goal.invariant-loop-end
invariant-loop-end l = record {
  within : l.end ≤ length l.labels;
  after : l.first ≤ l.end;
  behind : (k : ℕ) (d : Label) → l.end ≤ k → k < length l.labels → (get_or l.labels k d).vertex ≢ l.vertex;
}
