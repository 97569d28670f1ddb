use Rattle.std.proofs.Common.{◌≡◌, ℕ, take}
use Rattle.path_graph.specs.SetBits.{has_set, IsWhole}
use Rattle.certificate.proofs.SetWordLemmas.{is_in}
use Rattle.certificate.proofs.set_words.bits_of.Given as goal

abbrev pub invariant-loop-set : goal.invariant-loop-set
invariant-loop-set l = ((k : ℕ) → has_set l.bits k ≡ is_in (take l.set-index l.sets) k) × IsWhole l.bits
