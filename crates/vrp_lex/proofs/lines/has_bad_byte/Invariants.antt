use Rattle.std.proofs.Common.{◌≡◌, drop}
use Rattle.vrp_lex.specs.Text.{has_bad_byte}
use Rattle.vrp_lex.proofs.lines.has_bad_byte.Given as goal

abbrev pub invariant-loop-byte : goal.invariant-loop-byte
invariant-loop-byte l = has_bad_byte l.line ≡ has_bad_byte (drop l.byte-index l.line)
