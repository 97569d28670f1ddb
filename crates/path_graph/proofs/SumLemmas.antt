-- Lemmas on signed sums: a step of such a sum in a loop, sums over lists, sums in another order, and single terms.
use Rattle.std.proofs.Common.{mul-le-mul, ◌^◌, negsuc, ◌*ℤ◌, unsigned_abs, ◌≡◌, ℕ, ◌+◌, ◌*◌, ◌≤◌, ◌<◌, ◌==◌, Bool, true, false, List, [], ◌∷◌, ◌++◌, All, map, arith, inl, inr, sym, ◌∙◌, ap, subst, refl, zero, suc, add-one, ℤ, pos, neg_ℤ, ◌+ℤ◌, ◌≤ℤ◌, FitsSigned}
use Rattle.std.specs.Prelude.{if◌then◌else◌}
use Rattle.std.specs.List.{range_with_len}
use Rattle.std.proofs.lemmas.Bool.{cases_lt}
use Rattle.std.proofs.lemmas.Bool.Decides.{nat_tests}
use Rattle.std.proofs.lemmas.List.FromFn.{map-range_with_len_more}
use lib.IntN.{*ℤ-zero, *ℤ_comm, +ℤ_idl, +ℤ_idr, +ℤ_assoc}
use Rattle.std.proofs.lemmas.Int.{ints, to_z-of_z, unsigned_abs-mul, fits_signed_mul}
use Rattle.std.specs.Int.{Width}
use mir.Val.{to_z, of_z, hbits}
use Rattle.path_graph.specs.Sums.{sum_below, sum_over}
use Rattle.path_graph.proofs.IntLemmas.{mul_z-add, mul_z_assoc, mul_z_left_comm, add_pairs, add_le}
use Rattle.path_graph.specs.Within.{IsWithin}

pub sum_below-more : (n : ℕ) (f : ℕ → ℤ) → sum_below (n + 1) f ≡ sum_below n f +ℤ f n
sum_below-more n f = rw add-one refl

pub sum_below-same : (n : ℕ) (f h : ℕ → ℤ) → ((k : ℕ) → k < n → f k ≡ h k) → sum_below n f ≡ sum_below n h
sum_below-same zero f h e = refl
sum_below-same (suc n) f h e =
    let before = sum_below-same n f h (λ k l. e k (omega arith)) in
    let here = e n (omega arith) in
    omega (arith, ints, before, here)

pub sum_below-≤ : (n : ℕ) (f h : ℕ → ℤ) → ((k : ℕ) → k < n → f k ≤ℤ h k) → sum_below n f ≤ℤ sum_below n h
sum_below-≤ zero f h e = omega (arith, ints)
sum_below-≤ (suc n) f h e =
    let before = sum_below-≤ n f h (λ k l. e k (omega arith)) in
    let here = e n (omega arith) in
    omega (arith, ints, before, here)

-- a signed sum, and how far it is from 0
pub record IsSumWithin (i : ℕ) (f : ℕ → ℤ) (b : ℕ) (total : ℤ) : Type 0 where
  pub sum : total ≡ sum_below i f
  pub low : (neg_ℤ (pos b)) ≤ℤ total
  pub high : total ≤ℤ (pos b)

-- the same with one term more, which is within m of 0
pub sum_below_step : (i : ℕ) (f : ℕ → ℤ) (b m : ℕ) (total r : ℤ) → IsSumWithin i f b total → r ≡ f i → (neg_ℤ (pos m)) ≤ℤ r → r ≤ℤ (pos m) → IsSumWithin (i + 1) f (b + m) (total +ℤ r)
sum_below_step i f b m total r h e low high =
    let more = sum_below-more i f in
    record {
      sum = omega (arith, ints, h.sum, more, e);
      low = omega (arith, ints, h.low, low);
      high = omega (arith, ints, h.high, high);
    }

-- the same, in the form in which a loop over signed numbers asks for it
pub signed_loop_step : (w : Width) (i : ℕ) (f : ℕ → ℤ) (b m next_b : ℕ) (total r next : ℤ) → IsSumWithin i f b total → FitsSigned w r → FitsSigned w next → r ≡ f i → IsWithin m r → b + m ≡ next_b → next ≡ total +ℤ to_z w (of_z w r) → IsSumWithin (i + 1) f next_b (to_z w (of_z w next))
signed_loop_step w i f b m next_b total r next h fr fn e within bound s =
    let sum : next ≡ total +ℤ r = s ∙ ap (λ (z : ℤ). total +ℤ z) (to_z-of_z w r fr) in
    let step = sum_below_step i f b m total r h e within.0 within.1 in
    subst (λ (z : ℤ). IsSumWithin (i + 1) f next_b z) (sym (to_z-of_z w next fn ∙ sum)) (subst (λ (n : ℕ). IsSumWithin (i + 1) f n (total +ℤ r)) bound step)

-- a number is within n of 0 where its absolute value is at most n
pub abs_within : (n : ℕ) (z : ℤ) → unsigned_abs z ≤ n → IsWithin n z
abs_within n (pos k) h = (omega (arith, ints), omega (arith, ints))
abs_within n (negsuc k) h = (omega (arith, ints), omega (arith, ints))

pub within_abs : (n : ℕ) (z : ℤ) → IsWithin n z → unsigned_abs z ≤ n
within_abs n (pos k) h = omega (arith, ints, h.1)
within_abs n (negsuc k) h = omega (arith, ints, h.0)

pub product_within : (a b : ℕ) (f v : ℤ) → IsWithin a f → IsWithin b v → IsWithin (a * b) (f *ℤ v)
product_within a b f v p q =
    let left = within_abs a f p in
    let right = within_abs b v q in
    let both : unsigned_abs f * unsigned_abs v ≤ a * b = mul-le-mul left right in
    abs_within (a * b) (f *ℤ v) (omega (arith, unsigned_abs-mul f v, both))

-- a product of factors within their bounds, in the form in which code computes it
pub product_is : (w : Width) (a b : ℕ) (f v : ℤ) → FitsSigned w f → FitsSigned w v → IsWithin a f → IsWithin b v → a * b < 2 ^ hbits w → to_z w (of_z w (to_z w (of_z w f) *ℤ to_z w (of_z w v))) ≡ f *ℤ v
product_is w a b f v ff fv p q small =
    ap (λ (z : ℤ). to_z w (of_z w (z *ℤ to_z w (of_z w v)))) (to_z-of_z w f ff)
    ∙ (ap (λ (z : ℤ). to_z w (of_z w (f *ℤ z))) (to_z-of_z w v fv)
    ∙ to_z-of_z w (f *ℤ v) (fits_signed_mul w f v a b (within_abs a f p) (within_abs b v q) small))

-- the same, said of a product that was told
pub product_told : (w : Width) (f v r : ℤ) → FitsSigned w f → FitsSigned w v → FitsSigned w r → r ≡ to_z w (of_z w f) *ℤ to_z w (of_z w v) → to_z w (of_z w r) ≡ f *ℤ v
product_told w f v r ff fv fr e =
    to_z-of_z w r fr ∙ (e ∙ (ap (λ (z : ℤ). z *ℤ to_z w (of_z w v)) (to_z-of_z w f ff) ∙ ap (λ (z : ℤ). f *ℤ z) (to_z-of_z w v fv)))

-- sums over lists
pub sum_over-same : {X : Type 0} (f h : X → ℤ) (xs : List X) → ((x : X) → f x ≡ h x) → sum_over f xs ≡ sum_over h xs
sum_over-same f h [] e = refl
sum_over-same f h (x ∷ xs) e = λ i. e x i +ℤ sum_over-same f h xs e i

pub sum_over-zero : {X : Type 0} (xs : List X) → sum_over (λ (x : X). pos 0) xs ≡ pos 0
sum_over-zero [] = refl
sum_over-zero (x ∷ xs) = ap (λ (z : ℤ). pos 0 +ℤ z) (sum_over-zero xs)

pub sum_over-add : {X : Type 0} (f h : X → ℤ) (xs : List X) → sum_over (λ x. f x +ℤ h x) xs ≡ sum_over f xs +ℤ sum_over h xs
sum_over-add f h [] = refl
sum_over-add f h (x ∷ xs) = ap (λ (z : ℤ). (f x +ℤ h x) +ℤ z) (sum_over-add f h xs) ∙ add_pairs (f x) (h x) (sum_over f xs) (sum_over h xs)

pub sum_over-scale : {X : Type 0} (k : ℤ) (f : X → ℤ) (xs : List X) → sum_over (λ x. k *ℤ f x) xs ≡ k *ℤ sum_over f xs
sum_over-scale k f [] = sym (*ℤ-zero k)
sum_over-scale k f (x ∷ xs) = ap (λ (z : ℤ). k *ℤ f x +ℤ z) (sum_over-scale k f xs) ∙ sym (mul_z-add k (f x) (sum_over f xs))

pub sum_over-≤ : {X : Type 0} (f h : X → ℤ) (xs : List X) → All (λ x. f x ≤ℤ h x) xs → sum_over f xs ≤ℤ sum_over h xs
sum_over-≤ f h [] each = omega (arith, ints)
sum_over-≤ f h (x ∷ xs) each = add_le (f x) (h x) (sum_over f xs) (sum_over h xs) (each 0 x (omega arith)) (sum_over-≤ f h xs (λ k d l. each (suc k) d (omega arith)))

pub sum_over-swap : {X Y : Type 0} (f : X → Y → ℤ) (xs : List X) (ys : List Y) → sum_over (λ x. sum_over (f x) ys) xs ≡ sum_over (λ y. sum_over (λ x. f x y) xs) ys
sum_over-swap f [] ys = sym (sum_over-zero ys)
sum_over-swap f (x ∷ xs) ys = ap (λ (z : ℤ). sum_over (f x) ys +ℤ z) (sum_over-swap f xs ys) ∙ sym (sum_over-add (f x) (λ y. sum_over (λ w. f w y) xs) ys)

pub sum_over-append : {X : Type 0} (f : X → ℤ) (xs ys : List X) → sum_over f (xs ++ ys) ≡ sum_over f xs +ℤ sum_over f ys
sum_over-append f [] ys = sym (+ℤ_idl (sum_over f ys))
sum_over-append f (x ∷ xs) ys = ap (λ (z : ℤ). f x +ℤ z) (sum_over-append f xs ys) ∙ sym (+ℤ_assoc (f x) (sum_over f xs) (sum_over f ys))

-- multiples of sums of multiples, in the other order: this is all that costs, rows, quantities and their multipliers need
pub sum_over-exchange : {X Y : Type 0} (a : Y → ℤ) (c : X → ℤ) (f : Y → X → ℤ) (ys : List Y) (xs : List X)
    → sum_over (λ y. a y *ℤ sum_over (λ x. c x *ℤ f y x) xs) ys ≡ sum_over (λ x. c x *ℤ sum_over (λ y. a y *ℤ f y x) ys) xs
sum_over-exchange {X} {Y} a c f ys xs =
    (λ i. sum_over (λ (y : Y). sym (sum_over-scale (a y) (λ (x : X). c x *ℤ f y x) xs) i) ys)
    ∙ (sum_over-swap (λ (y : Y) (x : X). a y *ℤ (c x *ℤ f y x)) ys xs
    ∙ ((λ i. sum_over (λ (x : X). sum_over (λ (y : Y). mul_z_left_comm (a y) (c x) (f y x) i) ys) xs)
    ∙ (λ i. sum_over (λ (x : X). sum_over-scale (c x) (λ (y : Y). a y *ℤ f y x) ys i) xs)))

-- sums over the numbers below a number
pub sum_below-scale : (k : ℤ) (n : ℕ) (f : ℕ → ℤ) → sum_below n (λ j. k *ℤ f j) ≡ k *ℤ sum_below n f
sum_below-scale k zero f = sym (*ℤ-zero k)
sum_below-scale k (suc n) f = ap (λ (z : ℤ). z +ℤ k *ℤ f n) (sum_below-scale k n f) ∙ sym (mul_z-add k (sum_below n f) (f n))

pub sum_below-zero : (n : ℕ) → sum_below n (λ k. pos 0) ≡ pos 0
sum_below-zero zero = refl
sum_below-zero (suc n) = ap (λ (z : ℤ). z +ℤ pos 0) (sum_below-zero n)

pub sum_below-add : (n : ℕ) (f h : ℕ → ℤ) → sum_below n (λ k. f k +ℤ h k) ≡ sum_below n f +ℤ sum_below n h
sum_below-add zero f h = refl
sum_below-add (suc n) f h = ap (λ (z : ℤ). z +ℤ (f n +ℤ h n)) (sum_below-add n f h) ∙ add_pairs (sum_below n f) (sum_below n h) (f n) (h n)

pub sum_below-swap : (n k : ℕ) (f : ℕ → ℕ → ℤ) → sum_below n (λ i. sum_below k (f i)) ≡ sum_below k (λ j. sum_below n (λ i. f i j))
sum_below-swap zero k f = sym (sum_below-zero k)
sum_below-swap (suc n) k f = ap (λ (z : ℤ). z +ℤ sum_below k (f n)) (sum_below-swap n k f) ∙ sym (sum_below-add k (λ j. sum_below n (λ i. f i j)) (f n))

pub sum_below-scale_right : (n : ℕ) (f : ℕ → ℤ) (x : ℤ) → sum_below n (λ j. f j *ℤ x) ≡ sum_below n f *ℤ x
sum_below-scale_right n f x = (λ i. sum_below n (λ j. *ℤ_comm (f j) x i)) ∙ (sum_below-scale x n f ∙ *ℤ_comm x (sum_below n f))

pub sum_below-exchange : (a : ℕ → ℤ) (f : ℕ → ℕ → ℤ) (w : ℕ → ℤ) (n k : ℕ) → sum_below n (λ i. a i *ℤ sum_below k (λ j. f i j *ℤ w j)) ≡ sum_below k (λ j. sum_below n (λ i. a i *ℤ f i j) *ℤ w j)
sum_below-exchange a f w n k =
    (λ d. sum_below n (λ i. sym (sum_below-scale (a i) k (λ j. f i j *ℤ w j)) d))
    ∙ ((λ d. sum_below n (λ i. sum_below k (λ j. mul_z_assoc (a i) (f i j) (w j) d)))
    ∙ (sum_below-swap n k (λ i j. (a i *ℤ f i j) *ℤ w j)
    ∙ (λ d. sum_below k (λ j. sum_below-scale_right n (λ i. a i *ℤ f i j) (w j) d))))

-- sums that pick one number
pub sum_below-apart : (a : ℕ → ℤ) (h n : ℕ) → n ≤ h → sum_below n (λ g. if h == g then a g else pos 0) ≡ pos 0
sum_below-apart a h zero apart = refl
sum_below-apart a h (suc n) apart =
    let no : (h == n) ≡ false = grind (arith, nat_tests) in
    λ i. sum_below-apart a h n (omega arith) i +ℤ (if no i then a n else pos 0)

pub sum_below-pick : (a : ℕ → ℤ) (h n : ℕ) → h < n → sum_below n (λ g. if h == g then a g else pos 0) ≡ a h
sum_below-pick a h zero below = absurd (omega arith)
sum_below-pick a h (suc n) below =
    elim (cases_lt h n) [
      | inl less ↦
          let no : (h == n) ≡ false = grind (arith, nat_tests) in
          (λ i. sum_below-pick a h n less i +ℤ (if no i then a n else pos 0)) ∙ +ℤ_idr (a h)
      | inr least ↦
          let same : n ≡ h = omega arith in
          let yes : (h == n) ≡ true = grind (arith, nat_tests) in
          (λ i. sum_below-apart a h n least i +ℤ (if yes i then a n else pos 0)) ∙ (+ℤ_idl (a n) ∙ ap a same)
    ]

-- a sum is one of its numbers and the others
pub sum_below-but : (a : ℕ → ℤ) (h n : ℕ) → n ≤ h → sum_below n (λ g. if g == h then pos 0 else a g) ≡ sum_below n a
sum_below-but a h zero apart = refl
sum_below-but a h (suc n) apart =
    let no : (n == h) ≡ false = grind (arith, nat_tests) in
    λ i. sum_below-but a h n (omega arith) i +ℤ (if no i then pos 0 else a n)

pub sum_below-take : (a : ℕ → ℤ) (h n : ℕ) → h < n → sum_below n a ≡ a h +ℤ sum_below n (λ g. if g == h then pos 0 else a g)
sum_below-take a h zero below = absurd (omega arith)
sum_below-take a h (suc n) below =
    elim (cases_lt h n) [
      | inl less ↦
          let no : (n == h) ≡ false = grind (arith, nat_tests) in
          let here : (if n == h then pos 0 else a n) ≡ a n = ap (λ (b : Bool). if b then pos 0 else a n) no in
          moved (sum_below n a) (a h) (sum_below n (λ g. if g == h then pos 0 else a g)) (a n) (if n == h then pos 0 else a n) (sum_below-take a h n less) here
      | inr least ↦
          let same : n ≡ h = omega arith in
          let yes : (n == h) ≡ true = grind (arith, nat_tests) in
          let here : (if n == h then pos 0 else a n) ≡ pos 0 = ap (λ (b : Bool). if b then pos 0 else a n) yes in
          last (sum_below n a) (sum_below n (λ g. if g == h then pos 0 else a g)) (a n) (a h) (if n == h then pos 0 else a n) (sum_below-but a h n least) (ap a same) here
    ]
  where
    moved : (s x r y w : ℤ) → s ≡ x +ℤ r → w ≡ y → s +ℤ y ≡ x +ℤ (r +ℤ w)
    moved s x r y w e f = omega (arith, ints)

    last : (s r x y w : ℤ) → r ≡ s → x ≡ y → w ≡ pos 0 → s +ℤ x ≡ y +ℤ (r +ℤ w)
    last s r x y w e f k = omega (arith, ints)

-- the two kinds of sums
pub sum_over-range : {X : Type 0} (f : ℕ → X) (h : X → ℤ) (n : ℕ) → sum_over h (map f (range_with_len 0 n)) ≡ sum_below n (λ k. h (f k))
sum_over-range f h zero = refl
sum_over-range f h (suc n) =
    let next : suc n ≡ n + 1 = omega arith in
    ap (λ (k : ℕ). sum_over h (map f (range_with_len 0 k))) next
    ∙ (ap (sum_over h) (map-range_with_len_more f 0 n n (omega arith))
    ∙ (sum_over-append h (map f (range_with_len 0 n)) (f n ∷ [])
    ∙ (λ i. sum_over-range f h n i +ℤ +ℤ_idr (h (f n)) i)))

pub sum_below-is : (f : ℕ → ℤ) (n : ℕ) → sum_below n f ≡ sum_over f (map (λ k. k) (range_with_len 0 n))
sum_below-is f n = sym (sum_over-range (λ k. k) f n)
