use Rattle.std.proofs.Common.{◌≡◌, ◌++◌, take}
use Rattle.std.specs.List.{flat_map}
use Rattle.line_text.specs.Spelling.{text_of_lines}
use Rattle.certificate.specs.CertText.{trie_lines}
use Rattle.certificate.proofs.cert_print.print_tries.Given as goal

abbrev pub invariant-loop-trie : goal.invariant-loop-trie
invariant-loop-trie l = l.text ≡ l.initial.text ++ flat_map (λ t. text_of_lines (trie_lines t)) (take l.trie-index l.tries)
