use Rattle.std.proofs.Common.{◌≡◌, ℕ, ◌<◌, ◌^◌, length, get_or}
use Rattle.std.specs.Prelude.{bit_and}
use Rattle.path_graph.proofs.set_bits.SetBits.meet.Given as goal

-- the words before k are met
abbrev pub invariant-loop-k : goal.invariant-loop-k
invariant-loop-k l = record {
  size : length l.bits ≡ 8;
  met : (j : ℕ) → j < l.k → get_or l.bits j 0 ≡ bit_and (get_or l.self.bits j 0) (get_or l.o.bits j 0);
  fit : (j : ℕ) → j < l.k → get_or l.bits j 0 < 2 ^ 64;
}
