use Rattle.std.proofs.Common.{subst, sym}
use Rattle.std.specs.Prelude.{All}
use Rattle.std.proofs.lemmas.List.Elements.{All-weaker}
use Rattle.certificate.specs.declared.cert.Node.{Node}
use Rattle.certificate.specs.Sizes.{SizesFit}
use Rattle.certificate.specs.CertFits.{NodeIsTold}
use Rattle.certificate.specs.CertPrint.{ProofHasWeights}
use Rattle.certificate.proofs.PrintSteps.{has_weights, whole_text}
use Rattle.certificate.proofs.cert_print.printed.Goals as goal

pub print_nodes-requires-clause-weights : goal.print_nodes-requires-clause-weights
print_nodes-requires-clause-weights c =
    subst (All (λ (n : Node). ProofHasWeights n.form)) (sym c.as_slice-2.ensures)
    (All-weaker (λ (n : Node). NodeIsTold c.args.model.now n.form) (λ (n : Node). ProofHasWeights n.form) (λ n told. has_weights c.args.model.now n.form told) c.args.cert.now.nodes c.requires.each)

pub returns-clause-text : goal.returns-clause-text
returns-clause-text c =
    whole_text c.args.model.now c.args.cert.now c.print_goal.new.text c.print_paths.new.text c.first.new.self c.print_nodes.new.text c.first-2.new.self (rw c.new-text.ensures at c.in_ok-print_goal.ensures) (rw c.as_slice.ensures at c.in_ok-print_paths.ensures) c.in_ok-first.ensures (rw (c.in_ok-sizes.ensures.is, c.as_slice-2.ensures) at c.in_ok-print_nodes.ensures) c.in_ok-first-2.ensures

pub returns-clause-sizes : goal.returns-clause-sizes
returns-clause-sizes c = subst SizesFit c.in_ok-sizes.ensures.is c.in_ok-sizes.ensures.fit
