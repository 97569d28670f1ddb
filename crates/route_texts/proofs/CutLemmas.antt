-- The parts before and behind a byte.
use Rattle.std.proofs.Common.{◌≡◌, ◌≢◌, ℕ, zero, suc, ◌+◌, ◌<◌, List, [], ◌∷◌, length, take, drop, refl, ap, true, false, arith, get_or, None, Some}
use Rattle.std.specs.Prelude.{◌==◌}
use Rattle.std.proofs.lemmas.Bool.Decides.{nat_tests}
use Rattle.route_texts.specs.Words.{cut_at, onto_front}

pub cut_at-none : (mark : ℕ) (xs : List ℕ) → ((k : ℕ) → k < length xs → get_or xs k 0 ≢ mark) → cut_at mark xs ≡ None
cut_at-none mark [] before = refl
cut_at-none mark (b ∷ bs) before =
    let no : b ≢ mark = before 0 (omega arith) in
    let test : (b == mark) ≡ false = grind (arith, nat_tests) in
    rw test (ap (onto_front b) (cut_at-none mark bs (λ k below. before (suc k) (omega arith))))

pub cut_at-some : (mark n : ℕ) (xs : List ℕ) → n < length xs → ((k : ℕ) → k < n → get_or xs k 0 ≢ mark) → get_or xs n 0 ≡ mark → cut_at mark xs ≡ Some (take n xs, drop (n + 1) xs)
cut_at-some mark n [] within before found = absurd (omega arith)
cut_at-some mark zero (b ∷ bs) within before found =
    let test : (b == mark) ≡ true = grind (arith, nat_tests) in
    rw test refl
cut_at-some mark (suc n) (b ∷ bs) within before found =
    let no : b ≢ mark = before 0 (omega arith) in
    let test : (b == mark) ≡ false = grind (arith, nat_tests) in
    let more : suc n + 1 ≡ suc (n + 1) = omega arith in
    rw (more, test) (ap (onto_front b) (cut_at-some mark n bs (omega arith) (λ k below. before (suc k) (omega arith)) found))
