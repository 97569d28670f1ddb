use Rattle.std.proofs.lemmas.Result.{on_ok_weaker}
use Rattle.certificate.proofs.PrintSteps.{drop_line}
use Rattle.certificate.proofs.cert_print.print_drop.Goals as goal

pub returns : goal.returns
returns c =
    on_ok_weaker c.end_line.result
    (λ e. drop_line c.args.text.now c.first.new.self c.number.new.self c.loop-dropped.text c.end_line.new.self c.args.graph c.args.drops.now c.loop-dropped.dropped-index c.loop-dropped-test.false c.in_ok-first.ensures c.in_ok-number.ensures c.loop-dropped.invariant e)
    c.end_line.ensures
