use Rattle.std.proofs.lemmas.Result.{on_ok_weaker}
use Rattle.certificate.proofs.PrintSteps.{proof_pieces}
use Rattle.certificate.proofs.proof_print.print_proof.Goals as goal

pub returns : goal.returns
returns c =
    on_ok_weaker c.print_tables.result
    (λ e. proof_pieces c.args.sizes.now c.args.proof.now c.len.result c.args.text.now c.print_mults.new.text c.print_cuts.new.text c.print_near.new.text c.print_tables.new.text c.len.ensures c.in_ok-print_mults.ensures (rw (c.as_slice.ensures, c.as_slice-2.ensures) at c.in_ok-print_cuts.ensures) (rw c.as_slice-3.ensures at c.in_ok-print_near.ensures) (rw c.as_slice-4.ensures at e))
    c.print_tables.ensures
