use Rattle.std.proofs.Common.{◌≡◌, true, take}
use Rattle.std.specs.List.{list_all}
use Rattle.vrp_lex.specs.Text.{is_plain}
use Rattle.vrp_lex.proofs.words.word_length.Given as goal

abbrev pub invariant-loop-place : goal.invariant-loop-place
invariant-loop-place l = list_all is_plain (take l.place l.bytes) ≡ true
