use Rattle.std.proofs.Common.{◌≡◌, ◌++◌, subst, sym, OnOk}
use Rattle.std.proofs.lemmas.Result.{on_ok_weaker}
use Rattle.certificate.specs.declared.cert.NodeForm.{NodeForm}
use Rattle.certificate.specs.CertPrint.{ProofHasWeights, node_text}
use Rattle.certificate.proofs.PrintSteps.{close_text, fix_text, list_text}
use Rattle.certificate.proofs.cert_print.print_node.Goals as goal

pub returns-in_ok-first-in-Close : goal.returns-in_ok-first-in-Close
returns-in_ok-first-in-Close c =
    let has = subst ProofHasWeights c.in-Close.is c.requires.weights in
    subst (λ (f : NodeForm). OnOk c.print_proof.result (c.print_proof.new.text ≡ c.args.text.now ++ node_text c.args.sizes.now f)) (sym c.in-Close.is)
    (on_ok_weaker c.print_proof.result (λ e. close_text c.args.sizes.now c.in-Close.proof c.args.text.now c.first.new.self c.print_proof.new.text has c.in_ok-first-in-Close.ensures e) c.print_proof.ensures)

pub returns-in_ok-print_proof-in-Fix : goal.returns-in_ok-print_proof-in-Fix
returns-in_ok-print_proof-in-Fix c =
    let has = subst ProofHasWeights c.in-Fix.is c.requires.weights in
    subst (λ (f : NodeForm). OnOk c.print_drops.result (c.print_drops.new.text ≡ c.args.text.now ++ node_text c.args.sizes.now f)) (sym c.in-Fix.is)
    (on_ok_weaker c.print_drops.result (λ e. fix_text c.args.sizes.now c.in-Fix.proof c.in-Fix.drops c.args.text.now c.first-in-Fix.new.self c.print_proof-in-Fix.new.text c.print_drops.new.text has c.in_ok-first-in-Fix.ensures c.in_ok-print_proof-in-Fix.ensures (rw c.as_slice.ensures at e)) c.print_drops.ensures)

pub returns-in_ok-print_proof-in-List : goal.returns-in_ok-print_proof-in-List
returns-in_ok-print_proof-in-List c =
    let has = subst ProofHasWeights c.in-List.is c.requires.weights in
    subst (λ (f : NodeForm). OnOk c.print_tries.result (c.print_tries.new.text ≡ c.args.text.now ++ node_text c.args.sizes.now f)) (sym c.in-List.is)
    (on_ok_weaker c.print_tries.result (λ e. list_text c.args.sizes.now c.in-List.proof c.in-List.tries c.args.text.now c.first-in-List.new.self c.print_proof-in-List.new.text c.print_tries.new.text has c.in_ok-first-in-List.ensures c.in_ok-print_proof-in-List.ensures (rw c.as_slice-in-List.ensures at e)) c.print_tries.ensures)
