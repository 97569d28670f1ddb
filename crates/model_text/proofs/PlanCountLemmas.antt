-- A plan that a text spells can be judged.
use Rattle.std.proofs.Common.{◌≡◌, ℕ, ◌+◌, ◌-◌, ◌^◌, ◌<◌, ◌≤◌, List, [], ◌∷◌, length, map, Bool, true, false, refl, ap, arith}
use Rattle.std.specs.Prelude.{All, filter, ◌==◌, if◌then◌else◌}
use Rattle.std.specs.List.{onto_first}
use Rattle.std.proofs.lemmas.List.{length-map}
use Rattle.std.proofs.lemmas.List.Elements.{All-nil, All-cons, All-tail}
use Rattle.route_model.specs.declared.plan.Taken.{Taken}
use Rattle.route_model.specs.declared.plan.Plan.{Plan}
use Rattle.route_model.specs.Parts.{plan_with}
use Rattle.route_model.specs.Verdicts.{IsCounted}
use Rattle.vrp_lex.specs.Text.{lines_of, words_of}
use Rattle.line_text.specs.Words.{Words, are_some_words}
use Rattle.line_text.specs.Spelling.{in_printed_form, lines_with_words}
use Rattle.model_text.specs.PathText.{plan_lines, PathFits, SpellsPlan}

-- no more lines with words than lines, and no more lines than bytes
few_with_words : (lines : List Words) → length (filter are_some_words lines) ≤ length lines
few_with_words [] = omega arith
few_with_words ([] ∷ lines) = omega (arith, few_with_words lines)
few_with_words ((w ∷ words) ∷ lines) = omega (arith, few_with_words lines)

onto_few : (b n : ℕ) (lines : List (List ℕ)) → length lines ≤ n → length (onto_first b lines) ≤ n + 1
onto_few b n [] h = omega arith
onto_few b n (line ∷ lines) h = omega (arith, h)

few_lines : (text : List ℕ) → length (lines_of text) ≤ length text
few_lines [] = omega arith
few_lines (b ∷ bs) = by_test (b == 10) (few_lines bs)
  where
    by_test : (lf : Bool) → length (lines_of bs) ≤ length bs → length (if lf then [] ∷ lines_of bs else onto_first b (lines_of bs)) ≤ length (b ∷ bs)
    by_test true h = omega (arith, h)
    by_test false h = omega (arith, onto_few b (length bs) (lines_of bs) h)

plan_lines_more : (paths : List Taken) → length (plan_lines (plan_with paths)) ≡ length paths + 1
plan_lines_more [] = refl
plan_lines_more (p ∷ paths) = omega (arith, plan_lines_more paths)

few_counts : (paths : List Taken) → All PathFits paths → All (λ t. t.count ≤ 4096) paths
few_counts [] all = All-nil (λ (t : Taken). t.count ≤ 4096)
few_counts (p ∷ paths) all = All-cons (λ (t : Taken). t.count ≤ 4096) p paths (all 0 p (omega arith)).count.1 (few_counts paths (All-tail PathFits p paths all))

-- a plan that a text spells can be judged
pub spelled_counted : (text : List ℕ) (plan : Plan) → length text < 2 ^ 32 - 1 → SpellsPlan text plan → IsCounted plan
spelled_counted text plan short spelled =
    let lines = ap (λ (ws : List Words). length ws) spelled.words in
    let same = length-map (lines_with_words text) (map in_printed_form) in
    record {
      few = omega (arith, short, lines, same, few_with_words (map words_of (lines_of text)), length-map (lines_of text) words_of, few_lines text, plan_lines_more plan.paths);
      each = few_counts plan.paths spelled.fits.each;
    }
