use Rattle.std.proofs.Common.{◌≡◌, ◌++◌, take}
use Rattle.std.specs.Prelude.{decimal, map}
use Rattle.certificate.specs.CertPrint.{further}
use Rattle.certificate.proofs.cert_print.print_drop.Given as goal

abbrev pub invariant-loop-dropped : goal.invariant-loop-dropped
invariant-loop-dropped l = l.text ≡ l.initial.text ++ further (map (λ d. decimal d.1) (take l.dropped-index l.drops))
