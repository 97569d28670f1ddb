use Rattle.std.proofs.Common.{arith, refl}
use Rattle.path_graph.proofs.SetBitsLemmas.{subset_by_words, words_of_subset}
use Rattle.path_graph.proofs.set_bits.SetBits.within.Goals as goal

pub returns-then-word-o : goal.returns-then-word-o
returns-then-word-o c = (λ no. cc, λ sub. absurd (c.if-word-o.true (words_of_subset c.args.self.now c.args.o.now c.loop-k.k (omega arith) (omega arith) sub)))

pub returns : goal.returns
returns c = (λ yes. subset_by_words c.args.self.now c.args.o.now (λ j l. c.loop-k.invariant j (omega arith)), λ sub. refl)
