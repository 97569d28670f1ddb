use Rattle.std.proofs.Common.{◌≡◌, ◌++◌, take}
use Rattle.std.specs.List.{flat_map}
use Rattle.certificate.specs.CertPrint.{node_text}
use Rattle.certificate.proofs.cert_print.print_nodes.Given as goal

abbrev pub invariant-loop-node : goal.invariant-loop-node
invariant-loop-node l = l.text ≡ l.initial.text ++ flat_map (λ n. node_text l.sizes n.form) (take l.node-index l.nodes)
