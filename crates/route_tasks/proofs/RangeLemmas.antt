-- Lemmas on lists over ranges of numbers.
use Rattle.std.proofs.Common.{◌≡◌, ℕ, zero, suc, ◌+◌, ◌-◌, ◌*◌, ◌/◌, ◌≤◌, List, [], ◌∷◌, ◌++◌, map, filter, Bool, true, false, cond, refl, sym, ◌∙◌, ap, subst, arith, append_assoc, sum_by}
use Rattle.std.specs.List.{range_with_len, flat_map}
use Rattle.std.proofs.lemmas.List.{map-id, map-append}
use Rattle.std.proofs.lemmas.List.FromFn.{map-range_with_len_more}
use Rattle.std.proofs.lemmas.List.Elements.{filter-append}
use Rattle.std.proofs.lemmas.List.Sums.{sum_by-append, sum_by-cons}
use Rattle.std.proofs.lemmas.Grind.{flat_map-append}
use Rattle.route_tasks.specs.Places.{pairs_before}

-- one number more
pub range_push : (a n j : ℕ) → a + n ≡ j → range_with_len a (n + 1) ≡ range_with_len a n ++ j ∷ []
range_push a n j e =
    sym (map-id (range_with_len a (n + 1)))
    ∙ (map-range_with_len_more (λ k. k) a n j e
    ∙ ap (λ xs. xs ++ j ∷ []) (map-id (range_with_len a n)))

step_of : (a i : ℕ) → a ≤ i → i + 1 - a ≡ (i - a) + 1
step_of a i l = omega arith

-- a list of f over the numbers from a on has one item more
pub pushed : {X : Type 0} (f : ℕ → X) (start xs ys : List X) (a i : ℕ) (x : X) → a ≤ i → xs ≡ start ++ map f (range_with_len a (i - a)) → ys ≡ xs ++ x ∷ [] → x ≡ f i → ys ≡ start ++ map f (range_with_len a (i + 1 - a))
pushed f start xs ys a i x l before more item =
    more
    ∙ (ap (λ zs. zs ++ x ∷ []) before
    ∙ (append_assoc start (map f (range_with_len a (i - a))) (x ∷ [])
    ∙ ap (λ zs. start ++ zs)
    (ap (λ z. map f (range_with_len a (i - a)) ++ z ∷ []) item
    ∙ (sym (map-range_with_len_more f a (i - a) i (omega (arith, l)))
    ∙ ap (λ n. map f (range_with_len a n)) (sym (step_of a i l))))))

-- the same from 0 on, and with nothing before it
pub pushed_from_zero : {X : Type 0} (f : ℕ → X) (xs ys : List X) (i : ℕ) (x : X) → xs ≡ map f (range_with_len 0 i) → ys ≡ xs ++ x ∷ [] → x ≡ f i → ys ≡ map f (range_with_len 0 (i + 1))
pushed_from_zero f xs ys i x before more item =
    more
    ∙ (ap (λ zs. zs ++ x ∷ []) before
    ∙ (ap (λ z. map f (range_with_len 0 i) ++ z ∷ []) item
    ∙ sym (map-range_with_len_more f 0 i i (omega arith))))

-- the numbers that pass a test, with one more that passes, or one that does not
filtered : (p : ℕ → Bool) (i : ℕ) (b : Bool) → p i ≡ b → filter p (i ∷ []) ≡ cond b (i ∷ []) []
filtered p i b e = ap (λ t. cond t (i ∷ []) []) e

pub kept_range : (p : ℕ → Bool) (a i : ℕ) → a ≤ i → p i ≡ true → filter p (range_with_len a (i + 1 - a)) ≡ filter p (range_with_len a (i - a)) ++ i ∷ []
kept_range p a i l e =
    ap (λ n. filter p (range_with_len a n)) (step_of a i l)
    ∙ (ap (filter p) (range_push a (i - a) i (omega (arith, l)))
    ∙ (filter-append p (range_with_len a (i - a)) (i ∷ [])
    ∙ ap (λ zs. filter p (range_with_len a (i - a)) ++ zs) (filtered p i true e)))

pub left_range : (p : ℕ → Bool) (a i : ℕ) → a ≤ i → p i ≡ false → filter p (range_with_len a (i + 1 - a)) ≡ filter p (range_with_len a (i - a))
left_range p a i l e =
    ap (λ n. filter p (range_with_len a n)) (step_of a i l)
    ∙ (ap (filter p) (range_push a (i - a) i (omega (arith, l)))
    ∙ (filter-append p (range_with_len a (i - a)) (i ∷ [])
    ∙ (ap (λ zs. filter p (range_with_len a (i - a)) ++ zs) (filtered p i false e) ∙ nothing (filter p (range_with_len a (i - a))))))
  where
    nothing : (xs : List ℕ) → xs ++ [] ≡ xs
    nothing [] = refl
    nothing (x ∷ xs) = ap (λ zs. x ∷ zs) (nothing xs)

pub pushed_kept : {X : Type 0} (f : ℕ → X) (p : ℕ → Bool) (start xs ys : List X) (a i : ℕ) (x : X) → a ≤ i → p i ≡ true → xs ≡ start ++ map f (filter p (range_with_len a (i - a))) → ys ≡ xs ++ x ∷ [] → x ≡ f i → ys ≡ start ++ map f (filter p (range_with_len a (i + 1 - a)))
pushed_kept f p start xs ys a i x l passes before more item =
    more
    ∙ (ap (λ zs. zs ++ x ∷ []) before
    ∙ (append_assoc start (map f (filter p (range_with_len a (i - a)))) (x ∷ [])
    ∙ ap (λ zs. start ++ zs)
    (ap (λ z. map f (filter p (range_with_len a (i - a))) ++ z ∷ []) item
    ∙ (sym (map-append f (filter p (range_with_len a (i - a))) (i ∷ []))
    ∙ ap (map f) (sym (kept_range p a i l passes))))))

pub pushed_none : {X : Type 0} (f : ℕ → X) (p : ℕ → Bool) (start xs : List X) (a i : ℕ) → a ≤ i → p i ≡ false → xs ≡ start ++ map f (filter p (range_with_len a (i - a))) → xs ≡ start ++ map f (filter p (range_with_len a (i + 1 - a)))
pushed_none f p start xs a i l fails before = before ∙ ap (λ zs. start ++ map f zs) (sym (left_range p a i l fails))

-- a list of lists, joined, with one list more
pub joined_more : {X : Type 0} (f : ℕ → List X) (xs ys : List X) (i : ℕ) → xs ≡ flat_map f (range_with_len 0 i) → ys ≡ xs ++ f i → ys ≡ flat_map f (range_with_len 0 (i + 1))
joined_more {X = X} f xs ys i before more =
    more
    ∙ (ap (λ zs. zs ++ f i) before
    ∙ (ap (λ zs. flat_map f (range_with_len 0 i) ++ zs) (sym (one (f i)))
    ∙ (sym (flat_map-append f (range_with_len 0 i) (i ∷ []))
    ∙ ap (flat_map f) (sym (range_push 0 i i (omega arith))))))
  where
    one : (zs : List X) → zs ++ [] ≡ zs
    one [] = refl
    one (z ∷ zs) = ap (λ us. z ∷ us) (one zs)

-- the pairs before a place, in closed form
pub before_more : (n k : ℕ) → pairs_before n (k + 1) ≡ pairs_before n k + (n - k)
before_more n k =
    ap (sum_by (λ j. n - j)) (range_push 0 k k (omega arith))
    ∙ (sum_by-append (λ j. n - j) (range_with_len 0 k) (k ∷ []) ∙ ap (λ m. pairs_before n k + m) (sum_by-cons (λ j. n - j) k [] ∙ omega arith))

pub twice_before : (n k : ℕ) → k ≤ n + 1 → 2 * pairs_before n k + k * k ≡ k * (2 * n + 1)
twice_before n zero l = omega arith
twice_before n (suc k) l =
    let less = twice_before n k (omega (arith, l)) in
    let more = before_more n k in
    subst (λ (j : ℕ). 2 * pairs_before n j + j * j ≡ j * (2 * n + 1)) (next k) (sums (pairs_before n k) (pairs_before n (k + 1)) n k less more (omega (arith, l)))
  where
    next : (j : ℕ) → j + 1 ≡ suc j
    next j = omega arith

    sums : (b c m j : ℕ) → 2 * b + j * j ≡ j * (2 * m + 1) → c ≡ b + (m - j) → j ≤ m → 2 * c + (j + 1) * (j + 1) ≡ (j + 1) * (2 * m + 1)
    sums b c m j before after few = grind arith

pub before_closed : (n k : ℕ) → k ≤ n → k * (2 * n + 1 - k) / 2 ≡ pairs_before n k
before_closed n k l =
    let twice = twice_before n k (omega (arith, l)) in
    let parts : k * (2 * n + 1 - k) + k * k ≡ k * (2 * n + 1) = split k (2 * n + 1 - k) (2 * n + 1) (omega (arith, l)) in
    omega (arith, twice, parts)
  where
    split : (x y z : ℕ) → y + x ≡ z → x * y + x * x ≡ x * z
    split x y z e = let m = ap (λ t. x * t) e in omega (arith, m)

-- the same from 0 on, with nothing before it
minus_zero : (i : ℕ) → i - 0 ≡ i
minus_zero i = omega arith

pub pushed_kept_from_zero : {X : Type 0} (f : ℕ → X) (p : ℕ → Bool) (xs ys : List X) (i : ℕ) (x : X) → p i ≡ true → xs ≡ map f (filter p (range_with_len 0 i)) → ys ≡ xs ++ x ∷ [] → x ≡ f i → ys ≡ map f (filter p (range_with_len 0 (i + 1)))
pushed_kept_from_zero f p xs ys i x passes before more item =
    pushed_kept f p [] xs ys 0 i x (omega arith) passes (before ∙ ap (λ n. map f (filter p (range_with_len 0 n))) (sym (minus_zero i))) more item
    ∙ ap (λ n. map f (filter p (range_with_len 0 n))) (minus_zero (i + 1))

pub pushed_none_from_zero : {X : Type 0} (f : ℕ → X) (p : ℕ → Bool) (xs ys : List X) (i : ℕ) → p i ≡ false → xs ≡ map f (filter p (range_with_len 0 i)) → ys ≡ xs → ys ≡ map f (filter p (range_with_len 0 (i + 1)))
pushed_none_from_zero f p xs ys i fails before same =
    same
    ∙ (pushed_none f p [] xs 0 i (omega arith) fails (before ∙ ap (λ n. map f (filter p (range_with_len 0 n))) (sym (minus_zero i)))
    ∙ ap (λ n. map f (filter p (range_with_len 0 n))) (minus_zero (i + 1)))
