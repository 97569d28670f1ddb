-- Lemmas on what holds of each item of a list.
use Rattle.std.proofs.Common.{◌≡◌, ℕ, zero, suc, ◌+◌, ◌*◌, ◌<◌, ◌≤◌, List, [], ◌∷◌, length, filter, Bool, true, false, cond, All, refl, arith, sum_by}
use Rattle.std.specs.List.{range_with_len, flat_map}
use Rattle.std.proofs.lemmas.List.Elements.{All-cons, All-append}
use Rattle.std.proofs.lemmas.List.Sums.{sum_by-cons}

pub all_none : {X : Type 0} (P : X → Type 0) → All P []
all_none P k d l = absurd (omega (arith, l))

pub all_joined : {X Y : Type 0} (P : X → Type 0) (f : Y → List X) (ys : List Y) → All (λ y. All P (f y)) ys → All P (flat_map f ys)
all_joined P f [] each = all_none P
all_joined P f (y ∷ ys) each = All-append P (f y) (flat_map f ys) (each 0 y (omega arith)) (all_joined P f ys (λ k d l. each (suc k) d (omega (arith, l))))

pub all_range : (P : ℕ → Type 0) (a n : ℕ) → ((s : ℕ) → a ≤ s → s < a + n → P s) → All P (range_with_len a n)
all_range P a zero each = all_none P
all_range P a (suc n) each =
    All-cons P a (range_with_len (a + 1) n) (each a (omega arith) (omega arith)) (all_range P (a + 1) n (λ s low high. each s (omega (arith, low)) (omega (arith, high))))

pub all_kept : {X : Type 0} (P : X → Type 0) (p : X → Bool) (xs : List X) → All (λ x. p x ≡ true → P x) xs → All P (filter p xs)
all_kept P p [] each = all_none P
all_kept {X = X} P p (x ∷ xs) each = by_test (p x) refl (all_kept P p xs (λ k d l. each (suc k) d (omega (arith, l))))
  where
    by_test : (b : Bool) → p x ≡ b → All P (filter p xs) → All P (cond b (x ∷ filter p xs) (filter p xs))
    by_test true e rest = All-cons P x (filter p xs) (each 0 x (omega arith) e) rest
    by_test false e rest = rest

-- a sum of items that are each at most m
pub sum_small : {X : Type 0} (f : X → ℕ) (m : ℕ) (xs : List X) → All (λ x. f x ≤ m) xs → sum_by f xs ≤ length xs * m
sum_small f m [] each = omega arith
sum_small f m (x ∷ xs) each =
    let rest = sum_small f m xs (λ k d l. each (suc k) d (omega (arith, l))) in
    let here = each 0 x (omega arith) in
    let sums = sum_by-cons f x xs in
    more (length xs) (f x) (sum_by f xs) (sum_by f (x ∷ xs)) m rest here sums
  where
    more : (n a b c w : ℕ) → b ≤ n * w → a ≤ w → c ≡ a + b → c ≤ suc n * w
    more n a b c w p q r = grind arith
