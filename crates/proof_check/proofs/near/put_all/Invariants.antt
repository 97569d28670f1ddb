use Rattle.std.proofs.Common.{◌≤◌, length, drop}
use Rattle.cert_rules.specs.Meaning.{near_sets}
use Rattle.proof_check.specs.NearParts.{AreNear}
use Rattle.proof_check.proofs.near.put_all.Given as goal

abbrev pub invariant-loop-left : goal.invariant-loop-left
invariant-loop-left l = record {
  within : l.left ≤ length l.lines;
  near : AreNear l.model l.near (near_sets (drop l.left l.lines));
}

abbrev pub decreases-loop-left : goal.decreases-loop-left
decreases-loop-left l = l.left
