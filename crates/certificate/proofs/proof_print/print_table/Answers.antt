use Rattle.std.proofs.lemmas.Result.{on_ok_weaker}
use Rattle.certificate.proofs.PrintSteps.{table_text}
use Rattle.certificate.proofs.proof_print.print_table.Goals as goal

pub returns : goal.returns
returns c =
    on_ok_weaker c.print_labels-2.result
    (λ e. table_text c.args.sizes.now c.args.cuts c.args.table.now c.args.text.now c.print_table_line.new.text c.print_labels.new.text c.print_labels-2.new.text c.in_ok-print_table_line.ensures (rw (c.shape_of-shape.ensures.is, c.as_slice.ensures) at c.in_ok-print_labels.ensures) (rw (c.shape_of-shape.ensures.is, c.as_slice-2.ensures) at e))
    c.print_labels-2.ensures
