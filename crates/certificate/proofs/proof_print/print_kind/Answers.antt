use Rattle.std.proofs.Common.{FitsSigned, get_or, pos, refl, rules}
use Rattle.std.specs.Int.{w64}
use Rattle.std.proofs.lemmas.Int.{to_z-of_z}
use Rattle.line_text.specs.Spelling.{line_of_words}
use Rattle.certificate.specs.ProofWords.{mult_words}
use Rattle.certificate.proofs.PrintSteps.{kind_more}
use Rattle.certificate.proofs.proof_print.print_kind.Goals as goal

pub loop-k-preserved : goal.loop-k-preserved
loop-k-preserved c =
    let fits : FitsSigned w64 (get_or c.args.values.now c.loop-k.k (pos 0)) = search rules in
    kind_more (λ m. line_of_words (mult_words m)) c.args.kind c.args.values.now c.loop-k.k (get_or c.args.values.now c.loop-k.k (pos 0)) (pos 0) c.args.text.now c.loop-k.text c.print_mult.new.text c.loop-k-test.true refl c.loop-k.invariant (simp to_z-of_z at c.in_ok-print_mult.ensures)
