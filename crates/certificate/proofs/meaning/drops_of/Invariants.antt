use Rattle.std.proofs.Common.{◌≡◌, take}
use Rattle.std.specs.List.{flat_map}
use Rattle.certificate.specs.Meaning.{arcs_of}
use Rattle.certificate.proofs.meaning.drops_of.Given as goal

abbrev pub invariant-loop-line : goal.invariant-loop-line
invariant-loop-line l = l.arcs ≡ flat_map arcs_of (take l.line-index l.lines)
