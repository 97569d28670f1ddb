use Rattle.std.proofs.Common.{◌≤◌, ◌∙◌, ap, length, arith}
use Rattle.std.proofs.lemmas.List.{take_all}
use Rattle.path_graph.proofs.SetBitsMade.{set_of-same}
use Rattle.certificate.proofs.SetWordLemmas.{is_in}
use Rattle.certificate.proofs.set_words.bits_of.Goals as goal

pub returns : goal.returns
returns c =
    let sets = c.args.sets.now in
    let past : length sets ≤ c.loop-set.set-index = omega (arith, c.loop-set-test.false) in
    set_of-same c.loop-set.bits (is_in sets) c.loop-set.invariant.1 (λ s below. c.loop-set.invariant.0 s ∙ ap (λ xs. is_in xs s) (take_all c.loop-set.set-index sets past))
