use Rattle.std.proofs.Common.{◌≡◌, true, take}
use Rattle.std.specs.List.{list_all}
use Rattle.vrp_lex.specs.Text.{is_blank}
use Rattle.route_texts.proofs.words.blanks_length.Given as goal

abbrev pub invariant-loop-place : goal.invariant-loop-place
invariant-loop-place l = list_all is_blank (take l.place l.bytes) ≡ true
