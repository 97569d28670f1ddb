use Rattle.std.proofs.Common.{◌≡◌, ◌++◌, take}
use Rattle.std.specs.List.{flat_map}
use Rattle.line_text.specs.Spelling.{text_of_lines}
use Rattle.certificate.specs.CertText.{table_lines}
use Rattle.certificate.proofs.proof_print.print_tables.Given as goal

abbrev pub invariant-loop-table : goal.invariant-loop-table
invariant-loop-table l = l.text ≡ l.initial.text ++ flat_map (λ t. text_of_lines (table_lines l.sizes l.cuts t)) (take l.table-index l.tables)
