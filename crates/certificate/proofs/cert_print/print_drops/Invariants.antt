use Rattle.std.proofs.Common.{◌≡◌, ◌-◌, ◌++◌, ◌≤◌, length, drop}
use Rattle.certificate.specs.CertPrint.{drops_text}
use Rattle.certificate.proofs.cert_print.print_drops.Given as goal

abbrev pub decreases-loop-from : goal.decreases-loop-from
decreases-loop-from l = length l.drops - l.from

abbrev pub invariant-loop-from : goal.invariant-loop-from
invariant-loop-from l =
    record {
      within : l.from ≤ length l.drops;
      text : l.text ++ drops_text (drop l.from l.drops) ≡ l.initial.text ++ drops_text l.drops;
    }
