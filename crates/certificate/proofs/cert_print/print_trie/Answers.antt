use Rattle.std.proofs.lemmas.Result.{on_ok_weaker}
use Rattle.certificate.proofs.PrintSteps.{trie_text}
use Rattle.certificate.proofs.cert_print.print_trie.Goals as goal

pub returns : goal.returns
returns c =
    on_ok_weaker c.print_steps.result
    (λ e. trie_text c.args.trie.now c.args.text.now c.first.new.self c.number.new.self c.end_line.new.self c.print_steps.new.text c.in_ok-first.ensures c.in_ok-number.ensures c.in_ok-end_line.ensures (rw c.as_slice.ensures at e))
    c.print_steps.ensures
