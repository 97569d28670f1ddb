use Rattle.std.proofs.Common.{◌≡◌, ℕ, ◌<◌, ◌^◌, arith, get_or, refl, ◌∙◌}
use Rattle.std.specs.Prelude.{bit_and}
use Rattle.std.proofs.lemmas.List.{length-set}
use Rattle.std.proofs.lemmas.Nat.{and_le_l}
use Rattle.path_graph.proofs.SetBitsLemmas.{has_set-meet, whole_of_words, words_after_set}
use Rattle.path_graph.proofs.set_bits.SetBits.meet.Goals as goal

pub returns-clause-members : goal.returns-clause-members
returns-clause-members c = has_set-meet c.args.self.now c.args.o.now _ (λ j l. c.loop-k.invariant.met j (omega arith))

pub returns-clause-whole : goal.returns-clause-whole
returns-clause-whole c = whole_of_words c.loop-k.bits (omega arith) (λ j l. c.loop-k.invariant.fit j (omega arith))

pub loop-k-preserved : goal.loop-k-preserved
loop-k-preserved c =
    let k : ℕ = c.loop-k.k in
    let a : ℕ = get_or c.args.self.now.bits k 0 in
    let b : ℕ = get_or c.args.o.now.bits k 0 in
    let word : ℕ = bit_and a b in
    record {
      size = length-set c.loop-k.bits k word ∙ c.loop-k.invariant.size;
      met = words_after_set (λ (j w : ℕ). w ≡ bit_and (get_or c.args.self.now.bits j 0) (get_or c.args.o.now.bits j 0)) c.loop-k.bits k word (omega arith) c.loop-k.invariant.met refl;
      fit = words_after_set (λ (j w : ℕ). w < 2 ^ 64) c.loop-k.bits k word (omega arith) c.loop-k.invariant.fit (omega (arith, and_le_l a b));
    }
