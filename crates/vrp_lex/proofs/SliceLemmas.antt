-- Parts of parts of a list.
use Rattle.std.proofs.Common.{◌≡◌, ℕ, ◌+◌, ◌-◌, ◌≤◌, List, ◌++◌, length, take, drop, ap, sym, ◌∙◌, arith, slice_range}
use Rattle.std.proofs.Math.Seq.{take-add}
use Rattle.std.proofs.lemmas.List.{drop-take, drop-drop, take-take, length-take-le, length-drop, take-append-drop}

-- a part of the part between two places
pub drop-slice : (xs : List ℕ) (a b i : ℕ) → a + i ≤ b → drop i (slice_range xs a b) ≡ slice_range xs (a + i) b
drop-slice xs a b i h =
    let split : b - a ≡ i + (b - (a + i)) = omega arith in
    ap (λ n. drop i (take n (drop a xs))) split ∙ (drop-take i (b - (a + i)) (drop a xs) ∙ ap (take (b - (a + i))) (drop-drop i a xs))

pub take-slice : (xs : List ℕ) (a b i : ℕ) → a + i ≤ b → take i (slice_range xs a b) ≡ slice_range xs a (a + i)
take-slice xs a b i h =
    let same : i ≡ a + i - a = omega arith in
    take-take i (b - a) (drop a xs) (omega arith) ∙ ap (λ n. take n (drop a xs)) same

pub slice-slice : (xs : List ℕ) (a b i j : ℕ) → i ≤ j → a + j ≤ b → slice_range (slice_range xs a b) i j ≡ slice_range xs (a + i) (a + j)
slice-slice xs a b i j order h =
    let size : j - i ≡ a + j - (a + i) = omega arith in
    ap (take (j - i)) (drop-slice xs a b i (omega arith)) ∙ (take-take (j - i) (b - (a + i)) (drop (a + i) xs) (omega arith) ∙ ap (λ n. take n (drop (a + i) xs)) size)

pub slice_from : (xs : List ℕ) (i j : ℕ) → i ≤ j → drop i xs ≡ slice_range xs i j ++ drop j xs
slice_from xs i j h =
    let place : i + (j - i) ≡ j = omega arith in
    sym (take-append-drop (j - i) (drop i xs)) ∙ ap (λ ys. slice_range xs i j ++ ys) (drop-drop (j - i) i xs ∙ ap (λ n. drop n xs) place)

pub length-slice : (xs : List ℕ) (a b : ℕ) → b ≤ length xs → length (slice_range xs a b) ≡ b - a
length-slice xs a b h = length-take-le (b - a) (drop a xs) (omega (arith, length-drop a xs, h))

pub take_cut : (xs : List ℕ) (i j : ℕ) → i ≤ j → take j xs ≡ take i xs ++ slice_range xs i j
take_cut xs i j h = let place : j ≡ i + (j - i) = omega arith in ap (λ n. take n xs) place ∙ take-add i (j - i) xs
