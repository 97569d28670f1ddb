use Rattle.std.proofs.Common.{◌≡◌, true, take, not}
use Rattle.std.specs.List.{list_all}
use Rattle.vrp_lex.specs.Text.{is_blank}
use Rattle.route_texts.proofs.words.word_length.Given as goal

abbrev pub invariant-loop-place : goal.invariant-loop-place
invariant-loop-place l = list_all (λ b. not (is_blank b)) (take l.place l.bytes) ≡ true
