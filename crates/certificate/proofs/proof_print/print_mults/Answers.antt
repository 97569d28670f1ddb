use Rattle.std.proofs.lemmas.Result.{on_ok_weaker}
use Rattle.certificate.proofs.PrintSteps.{mults_text}
use Rattle.certificate.proofs.proof_print.print_mults.Goals as goal

pub returns : goal.returns
returns c =
    on_ok_weaker c.print_kind-4.result
    (λ e. mults_text c.args.mult.now c.args.text.now c.print_kind.new.text c.print_kind-2.new.text c.print_kind-3.new.text c.print_kind-4.new.text (rw c.as_slice.ensures at c.in_ok-print_kind.ensures) (rw c.as_slice-2.ensures at c.in_ok-print_kind-2.ensures) (rw c.as_slice-3.ensures at c.in_ok-print_kind-3.ensures) (rw c.as_slice-4.ensures at e))
    c.print_kind-4.ensures
