use Rattle.std.proofs.Common.{◌≡◌, ℕ, ◌<◌, get_or}
use Rattle.std.specs.Prelude.{bit_and}
use Rattle.path_graph.proofs.set_bits.SetBits.within.Given as goal

-- each word before k is within the other's
abbrev pub invariant-loop-k : goal.invariant-loop-k
invariant-loop-k l = (j : ℕ) → j < l.k → bit_and (get_or l.self.bits j 0) (get_or l.o.bits j 0) ≡ get_or l.self.bits j 0
