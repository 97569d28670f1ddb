use Rattle.std.proofs.Common.{◌≡◌, ◌*◌, ◌++◌, map, filter}
use Rattle.std.specs.Prelude.{decimal}
use Rattle.std.specs.List.{range_with_len}
use Rattle.path_graph.specs.SetBits.{has_set}
use Rattle.certificate.specs.CertPrint.{further}
use Rattle.certificate.proofs.label_print.print_sets.Given as goal

abbrev pub invariant-loop-word : goal.invariant-loop-word
invariant-loop-word l = l.text ≡ l.initial.text ++ further (map decimal (filter (has_set l.set) (range_with_len 0 (l.word * 64))))
