-- Lists: what stands at an index after an edit, and sums over one item or two.
use Rattle.std.proofs.Common.{◌≡◌, ◌≢◌, ◌⊎◌, ℕ, zero, suc, ◌+◌, ◌<◌, ◌≤◌, max, Bool, true, false, cond, Some, List, [], ◌∷◌, ◌++◌, length, set, get_or, take, drop, refl, sym, ap, ◌∙◌, subst, inl, inr, ⊎_elim, arith}
use Rattle.std.proofs.lemmas.List.{take_more, take_all}
use Rattle.std.proofs.lemmas.List.Sums.{sum_by-cons, sum_by-set, sum_by-remove}
use Rattle.std.proofs.lemmas.Option.{get_or_from_slice_get, slice_get_within}
use Rattle.std.proofs.lemmas.Bool.{eqb-true, eq-eqb, and_parts, and_from}
use Rattle.std.specs.Prelude.{slice_get, ◌==◌, sum_by}
use Rattle.std.specs.List.{remove}
use Rattle.label_core.specs.declared.table.Place.{Place}
use Rattle.label_core.proofs.Lookup.{some_same, at_set, same_place}
use Rattle.label_core.specs.declared.machine.ClaimState.{ClaimState}
use Rattle.label_core.specs.Passes.{greater_each}
use Rattle.label_core.specs.Rule.{is_of, counts}

module _ {A : Type 0} where
  pub set_there : (l : List A) (i : ℕ) (a b : A) → slice_get l i ≡ Some b → slice_get (set l i a) i ≡ Some a
  set_there [] i a b e = absurd (cc)
  set_there (x ∷ xs) zero a b e = refl
  set_there (x ∷ xs) (suc i) a b e = set_there xs i a b e

  pub set_apart : (l : List A) (i j : ℕ) (a : A) → j ≢ i → slice_get (set l i a) j ≡ slice_get l j
  set_apart [] i j a n = refl
  set_apart (x ∷ xs) zero zero a n = absurd (n refl)
  set_apart (x ∷ xs) zero (suc j) a n = refl
  set_apart (x ∷ xs) (suc i) zero a n = refl
  set_apart (x ∷ xs) (suc i) (suc j) a n = set_apart xs i j a (λ e. n (ap suc e))

  -- what holds of the new item and of each other one holds of each after the edit
  pub each_set : (P : ℕ → A → Type 0) (l : List A) (i : ℕ) (a : A) → P i a
      → ((j : ℕ) (b : A) → j ≢ i → slice_get l j ≡ Some b → P j b)
      → (j : ℕ) (b : A) → slice_get (set l i a) j ≡ Some b → P j b
  each_set P l i a mine others j b e = ⊎_elim
      (λ (h : (j ≡ i) × (b ≡ a)). subst (λ z. P z b) (sym h.0) (subst (λ z. P i z) (sym h.1) mine))
      (λ (h : (j ≢ i) × (slice_get l j ≡ Some b)). others j b h.0 h.1)
      (at_set l i j a b e)

  -- the item at an index of two lists, one after the other
  pub at_append : (l m : List A) (i : ℕ) (a : A) → slice_get (l ++ m) i ≡ Some a
      → (slice_get l i ≡ Some a) ⊎ ((j : ℕ) × (i ≡ length l + j) × (slice_get m j ≡ Some a))
  at_append [] m i a e = inr (i, omega arith, e)
  at_append (x ∷ xs) m zero a e = inl e
  at_append (x ∷ xs) m (suc i) a e = ⊎_elim (λ h. inl h)
      (λ (h : (j : ℕ) × (i ≡ length xs + j) × (slice_get m j ≡ Some a)). inr (h.0, let k = h.1 in omega arith, h.2))
      (at_append xs m i a e)

  pub at_drop : (l : List A) (n i : ℕ) (a : A) → slice_get (drop n l) i ≡ Some a → (j : ℕ) × (slice_get l j ≡ Some a)
  at_drop l zero i a e = (i, e)
  at_drop [] (suc n) i a e = absurd (cc)
  at_drop (x ∷ xs) (suc n) i a e = let h = at_drop xs n i a e in (suc h.0, h.1)

  pub at_take : (l : List A) (n i : ℕ) (a : A) → slice_get (take n l) i ≡ Some a → slice_get l i ≡ Some a
  at_take l zero i a e = absurd (cc)
  at_take [] (suc n) i a e = absurd (cc)
  at_take (x ∷ xs) (suc n) zero a e = e
  at_take (x ∷ xs) (suc n) (suc i) a e = at_take xs n i a e

  -- what is left after one item is taken out stood there before
  pub at_remove : (l : List A) (n i : ℕ) (a : A) → slice_get (remove l n) i ≡ Some a → (j : ℕ) × (slice_get l j ≡ Some a)
  at_remove l n i a e = ⊎_elim
      (λ h. (i, at_take l n i a h))
      (λ (h : (j : ℕ) × (i ≡ length (take n l) + j) × (slice_get (drop (suc n) l) j ≡ Some a)). at_drop l (suc n) h.0 a h.2)
      (at_append (take n l) (drop (suc n) l) i a e)

  module _ (f : A → ℕ) where
    pub sum_set : (l : List A) (i : ℕ) (a b : A) → slice_get l i ≡ Some a → sum_by f (set l i b) + f a ≡ sum_by f l + f b
    sum_set l i a b e =
        let h = sum_by-set f l i b a (slice_get_within l i a e) in
        let g : f (get_or l i a) ≡ f a = ap f (get_or_from_slice_get l i a a e) in
        omega arith

    pub sum_remove : (l : List A) (i : ℕ) (a : A) → slice_get l i ≡ Some a → sum_by f (remove l i) + f a ≡ sum_by f l
    sum_remove l i a e =
        let h = sum_by-remove f l i a (slice_get_within l i a e) in
        let g : f (get_or l i a) ≡ f a = ap f (get_or_from_slice_get l i a a e) in
        omega arith

    pub one_of_sum : (l : List A) (i : ℕ) (a : A) → slice_get l i ≡ Some a → f a ≤ sum_by f l
    one_of_sum l i a e = let h = sum_remove l i a e in omega arith

    -- two items at different indices are both part of the sum
    pub two_of_sum : (l : List A) (i j : ℕ) (a b : A) → i ≢ j → slice_get l i ≡ Some a → slice_get l j ≡ Some b → f a + f b ≤ sum_by f l
    two_of_sum [] i j a b n e h = absurd (cc)
    two_of_sum (x ∷ xs) zero zero a b n e h = absurd (n refl)
    two_of_sum (x ∷ xs) zero (suc j) a b n e h =
        let k = sum_by-cons f x xs in let g : f x ≡ f a = ap f (some_same x a e) in let w = one_of_sum xs j b h in omega arith
    two_of_sum (x ∷ xs) (suc i) zero a b n e h =
        let k = sum_by-cons f x xs in let g : f x ≡ f b = ap f (some_same x b h) in let w = one_of_sum xs i a e in omega arith
    two_of_sum (x ∷ xs) (suc i) (suc j) a b n e h =
        let k = sum_by-cons f x xs in let w = two_of_sum xs i j a b (λ is. n (ap suc is)) e h in omega arith

-- the greater of two prefixes
pub get_or-greater : (xs ys : List ℕ) (c : ℕ) → get_or (greater_each xs ys) c 0 ≡ max (get_or xs c 0) (get_or ys c 0)
get_or-greater [] ys c = omega arith
get_or-greater (x ∷ xs) [] zero = omega arith
get_or-greater (x ∷ xs) [] (suc c) = omega arith
get_or-greater (x ∷ xs) (y ∷ ys) zero = refl
get_or-greater (x ∷ xs) (y ∷ ys) (suc c) = get_or-greater xs ys c

pub length-greater : (xs ys : List ℕ) → length (greater_each xs ys) ≡ max (length xs) (length ys)
length-greater [] ys = omega arith
length-greater (x ∷ xs) [] = omega arith
length-greater (x ∷ xs) (y ∷ ys) = let h = length-greater xs ys in omega arith

-- the count at a claim's own place, and at another
pub of_it : (k : ClaimState) (q : Place) → k.place ≡ q → counts q k ≡ 1
of_it k q is = ap (λ b. let n : ℕ = cond b 1 0 in n)
    (and_from (k.place.cell == q.cell) (k.place.index == q.index) (eq-eqb k.place.cell q.cell (ap (λ (z : Place). z.cell) is)) (eq-eqb k.place.index q.index (ap (λ (z : Place). z.index) is)))

pub not_of_it : (k : ClaimState) (q : Place) → k.place ≢ q → counts q k ≡ 0
not_of_it k q n = ap (λ b. let n : ℕ = cond b 1 0 in n) (one (is_of q k) refl)
  where
    one : (b : Bool) → is_of q k ≡ b → b ≡ false
    one true h = absurd (let a = and_parts (k.place.cell == q.cell) (k.place.index == q.index) h in n (same_place k.place q (eqb-true k.place.cell q.cell a.0) (eqb-true k.place.index q.index a.1)))
    one false h = refl

pub greater_more : (xs ys : List ℕ) (i : ℕ) → i < max (length xs) (length ys)
    → take (i + 1) (greater_each xs ys) ≡ take i (greater_each xs ys) ++ max (get_or xs i 0) (get_or ys i 0) ∷ []
greater_more xs ys i h =
    let n = length-greater xs ys in
    take_more (greater_each xs ys) i 0 (omega arith) ∙ ap (λ z. take i (greater_each xs ys) ++ z ∷ []) (get_or-greater xs ys i)

pub greater_all : (xs ys : List ℕ) (n : ℕ) → n ≡ max (length xs) (length ys) → take n (greater_each xs ys) ≡ greater_each xs ys
greater_all xs ys n is = take_all n (greater_each xs ys) (let h = length-greater xs ys in omega arith)

-- two edits at different places can be made in either order
pub set_swap : {A : Type 0} (l : List A) (i j : ℕ) (a b : A) → i ≢ j → set (set l j b) i a ≡ set (set l i a) j b
set_swap [] i j a b n = refl
set_swap (x ∷ xs) zero zero a b n = absurd (n refl)
set_swap (x ∷ xs) zero (suc j) a b n = refl
set_swap (x ∷ xs) (suc i) zero a b n = refl
set_swap (x ∷ xs) (suc i) (suc j) a b n = ap (λ l. x ∷ l) (set_swap xs i j a b (λ e. n (ap suc e)))

-- an item that was read at its place, before or after an edit at another one
pub read_here : {A : Type 0} (l : List A) (i : ℕ) (a z : A) → slice_get l i ≡ Some a → z ≡ get_or l i z → z ≡ a
read_here l i a z at is = is ∙ get_or_from_slice_get l i a z at

pub read_apart : {A : Type 0} (l : List A) (i j : ℕ) (a b z : A) → i ≢ j → slice_get l i ≡ Some a → z ≡ get_or (set l j b) i z → z ≡ a
read_apart l i j a b z n at is = read_here (set l j b) i a z (set_apart l j i b n ∙ at) is
