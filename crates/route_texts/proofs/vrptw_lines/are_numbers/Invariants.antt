use Rattle.std.proofs.Common.{◌≡◌, length}
use Rattle.route_texts.specs.Words.{words_in}
use Rattle.route_texts.specs.Vrptw.{are_numbers}
use Rattle.route_texts.proofs.vrptw_lines.are_numbers.Given as goal

abbrev pub invariant-loop-word : goal.invariant-loop-word
invariant-loop-word l = are_numbers (words_in l.initial.rest) ≡ are_numbers (words_in l.rest)

abbrev pub decreases-loop-word : goal.decreases-loop-word
decreases-loop-word l = length (words_in l.rest)
