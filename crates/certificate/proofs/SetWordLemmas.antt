-- Sets of packing sets and lists of their members, which ascend, tell one another.
use Rattle.std.proofs.Common.{◌≡◌, ℕ, zero, suc, ◌+◌, ◌-◌, ◌<◌, ◌≤◌, Bool, true, false, inl, inr, List, [], ◌∷◌, ◌++◌, length, filter, drop, refl, ap, subst, sym, ◌∙◌, arith, cond, Some}
use Rattle.std.specs.Prelude.{◌==◌, ◌||◌, ◌&&◌, nat_lt, All, slice_get}
use Rattle.std.specs.List.{list_any, range_with_len}
use Rattle.std.proofs.lemmas.Bool.{cases_eq, lt-ltb, ne_eqb, eq-eqb}
use Rattle.std.proofs.lemmas.Bool.Decides.{nat_tests}
use Rattle.std.proofs.lemmas.List.{length-append}
use Rattle.std.proofs.lemmas.List.Elements.{All-nil, All-cons, All-head, All-tail}
use Rattle.std.proofs.lemmas.Option.{slice_get-get_or}
use Rattle.std.proofs.Math.Seq.{get_or-append_seam}
use Rattle.path_graph.specs.declared.set_bits.SetBits.{SetBits}
use Rattle.path_graph.specs.SetBits.{has_set, IsWhole}
use Rattle.path_graph.proofs.SetBitsMade.{has_set-set_of, set_of-whole, set_of-same}
use Rattle.line_text.specs.Items.{EachAfter}
use Rattle.model_text.specs.LineWords.{last_of, is_above}
use Rattle.certificate.specs.LabelWords.{state_places}
use Rattle.certificate.specs.SetWords.{members, set_with}

abbrev pub is_in : List ℕ → ℕ → Bool
is_in xs s = list_any (λ t. t == s) xs

-- numbers from a on, each above the one before
abbrev pub Rising : ℕ → List ℕ → Type 0
Rising a [] = Unit {0}
Rising a (x ∷ xs) = (a ≤ x) × Rising (x + 1) xs

pub rising_from : (a b : ℕ) (xs : List ℕ) → a ≤ b → Rising b xs → Rising a xs
rising_from a b [] low up = tt
rising_from a b (x ∷ xs) low up = (omega (arith, low, up.0), up.1)

none_below : (a s : ℕ) (xs : List ℕ) → s < a → Rising a xs → is_in xs s ≡ false
none_below a s [] below up = refl
none_below a s (x ∷ xs) below up =
    let low = up.0 in
    let apart : (x == s) ≡ false = grind (arith, nat_tests, below, low) in
    rw apart (none_below (x + 1) s xs (omega (arith, below, low)) up.1)

-- the numbers of a range that are in a list
pub filter_in : (p : ℕ → Bool) (n a : ℕ) (xs : List ℕ) → Rising a xs → All (λ x. x < a + n) xs → ((s : ℕ) → a ≤ s → s < a + n → p s ≡ is_in xs s) → filter p (range_with_len a n) ≡ xs
filter_in p zero a [] up below same = refl
filter_in p zero a (x ∷ xs) up below same =
    let low = up.0 in
    let high = All-head (λ x. x < a + 0) x xs below in
    absurd (omega (arith, low, high))
filter_in p (suc n) a [] up below same =
    let none : p a ≡ false = same a (omega arith) (omega arith) in
    rw none (filter_in p n (a + 1) [] tt (All-nil (λ x. x < a + 1 + n)) (λ s low high. same s (omega (arith, low)) (omega (arith, high))))
filter_in p (suc n) a (x ∷ xs) up below same = elim (cases_eq x a) [
  | inl is ↦
      let here : p a ≡ true = same a (omega arith) (omega arith) ∙ ap (λ b. b || is_in xs a) (eq-eqb x a is) in
      let rest : Rising (a + 1) xs = subst (λ y. Rising (y + 1) xs) is up.1 in
      rw (here, is) (ap (λ ys. a ∷ ys) (filter_in p n (a + 1) xs rest (shift xs (All-tail (λ x. x < a + suc n) x xs below)) (λ s low high.
      same s (omega (arith, low)) (omega (arith, high)) ∙ ap (λ b. b || is_in xs s) (ne_eqb x s (λ e. omega (arith, e, is, low))))))
  | inr apart ↦
      let low = up.0 in
      let above : a < x = omega (arith, low, apart) in
      let none : p a ≡ false = same a (omega arith) (omega arith) ∙ none_below (a + 1) a (x ∷ xs) (omega arith) (omega (arith, above), up.1) in
      rw none (filter_in p n (a + 1) (x ∷ xs) (omega (arith, above), up.1) (shift (x ∷ xs) below) (λ s low high. same s (omega (arith, low)) (omega (arith, high))))
]
  where
    shift : (ys : List ℕ) → All (λ x. x < a + suc n) ys → All (λ x. x < a + 1 + n) ys
    shift ys all = λ k d within. let h = all k d within in omega (arith, h)

pub filter_rising : (p : ℕ → Bool) (n a : ℕ) → Rising a (filter p (range_with_len a n))
filter_rising p zero a = tt
filter_rising p (suc n) a = by_test (p a) (filter_rising p n (a + 1))
  where
    by_test : (b : Bool) → Rising (a + 1) (filter p (range_with_len (a + 1) n)) → Rising a (cond b (a ∷ filter p (range_with_len (a + 1) n)) (filter p (range_with_len (a + 1) n)))
    by_test true rest = (omega arith, rest)
    by_test false rest = rising_from a (a + 1) _ (omega arith) rest

pub in_filter : (p : ℕ → Bool) (n a s : ℕ) → a ≤ s → s < a + n → is_in (filter p (range_with_len a n)) s ≡ p s
in_filter p zero a s low high = absurd (omega (arith, low, high))
in_filter p (suc n) a s low high = elim (cases_eq a s) [
  | inl is ↦ subst (λ t. is_in (filter p (range_with_len a (suc n))) t ≡ p t) is (here (p a) refl)
  | inr apart ↦ later (p a) (ne_eqb a s apart) (in_filter p n (a + 1) s (omega (arith, low, apart)) (omega (arith, high)))
]
  where
    here : (b : Bool) → p a ≡ b → is_in (cond b (a ∷ filter p (range_with_len (a + 1) n)) (filter p (range_with_len (a + 1) n))) a ≡ p a
    here true is = ap (λ c. c || is_in (filter p (range_with_len (a + 1) n)) a) (eq-eqb a a refl) ∙ sym is
    here false is = none_below (a + 1) a _ (omega arith) (filter_rising p n (a + 1)) ∙ sym is

    later : (b : Bool) → (a == s) ≡ false → is_in (filter p (range_with_len (a + 1) n)) s ≡ p s → is_in (cond b (a ∷ filter p (range_with_len (a + 1) n)) (filter p (range_with_len (a + 1) n))) s ≡ p s
    later true apart rest = ap (λ c. c || is_in (filter p (range_with_len (a + 1) n)) s) apart ∙ rest
    later false apart rest = rest

-- a list and the set of its members
pub members-with : (xs : List ℕ) → Rising 0 xs → All (λ x. x < 512) xs → members (set_with xs) ≡ xs
unfolding members
members-with xs up below =
    filter_in (has_set (set_with xs)) 512 0 xs up below (λ s low high.
    has_set-set_of (is_in xs) s ∙ ap (λ b. b && is_in xs s) (lt-ltb s 512 high))

pub with-whole : (xs : List ℕ) → IsWhole (set_with xs)
with-whole xs = set_of-whole (is_in xs)

pub with-members : (set : SetBits) → IsWhole set → set_with (members set) ≡ set
unfolding members
with-members set whole = sym (set_of-same set (is_in (members set)) whole (λ s below. sym (in_filter (has_set set) 512 0 s (omega arith) (omega (arith, below)))))

pub members-rising : (set : SetBits) → Rising 0 (members set)
unfolding members
members-rising set = filter_rising (has_set set) 512 0

-- each member is above the last of those before it
pub last_of-push : {A : Type 0} (xs : List A) (x : A) → last_of (xs ++ x ∷ []) ≡ Some x
last_of-push xs x =
    let size = length-append xs (x ∷ []) in
    let place : length (xs ++ x ∷ []) - 1 ≡ length xs = omega (arith, size) in
    ap (slice_get (xs ++ x ∷ [])) place ∙ (slice_get-get_or (xs ++ x ∷ []) (length xs) x (omega (arith, size)) ∙ ap (λ y. Some y) (get_or-append_seam xs x [] x))

abbrev pub SetMay : ℕ → List ℕ → ℕ → Type 0
SetMay sets before set = (set < sets) × (is_above (last_of before) set ≡ true)

above_last : (last x : ℕ) → nat_lt last x ≡ true → last + 1 ≤ x
above_last last x h = grind (arith, nat_tests, h)

last_below : (last x : ℕ) → last + 1 ≤ x → nat_lt last x ≡ true
last_below last x h = grind (arith, nat_tests, h)

each_rising : (sets : ℕ) (xs before : List ℕ) (a : ℕ) → ((x : ℕ) → is_above (last_of before) x ≡ true → a ≤ x) → EachAfter (SetMay sets) before xs → Rising a xs × All (λ x. x < sets) xs
each_rising sets [] before a low each = (tt, All-nil (λ x. x < sets))
each_rising sets (x ∷ xs) before a low each =
    let rest = each_rising sets xs (before ++ x ∷ []) (x + 1) (λ y h. above_last x y (rw last_of-push at h)) each.1 in
    ((low x each.0.1, rest.0), All-cons (λ x. x < sets) x xs each.0.0 rest.1)

pub set_rising : (sets : ℕ) (xs : List ℕ) → EachAfter (SetMay sets) [] xs → Rising 0 xs × All (λ x. x < sets) xs
set_rising sets xs each = each_rising sets xs [] 0 (λ x h. omega arith) each

rising_each : (sets : ℕ) (xs before : List ℕ) (a : ℕ) → ((x : ℕ) → a ≤ x → is_above (last_of before) x ≡ true) → Rising a xs → All (λ x. x < sets) xs → EachAfter (SetMay sets) before xs
rising_each sets [] before a high up below = tt
rising_each sets (x ∷ xs) before a high up below = (
  (All-head (λ x. x < sets) x xs below, high x up.0),
  rising_each sets xs (before ++ x ∷ []) (x + 1) (λ y low. rw last_of-push (last_below x y low)) up.1 (All-tail (λ x. x < sets) x xs below),
)

pub rising_set : (sets : ℕ) (xs : List ℕ) → Rising 0 xs → All (λ x. x < sets) xs → EachAfter (SetMay sets) [] xs
rising_set sets xs up below = rising_each sets xs [] 0 (λ x low. refl) up below

-- the places of a range from one on
range_from : (n a k : ℕ) → k < n → drop k (range_with_len a n) ≡ (a + k) ∷ drop (k + 1) (range_with_len a n)
range_from zero a k below = absurd (omega arith)
range_from (suc n) a zero below = let same : a + 0 ≡ a = omega arith in ap (λ x. x ∷ range_with_len (a + 1) n) (sym same)
range_from (suc n) a (suc k) below =
    let place : a + 1 + k ≡ a + suc k = omega arith in
    let next : suc k + 1 ≡ suc (k + 1) = omega arith in
    range_from n (a + 1) k (omega arith) ∙ (ap (λ x. x ∷ drop (k + 1) (range_with_len (a + 1) n)) place ∙ ap (λ m. (a + suc k) ∷ drop m (range_with_len a (suc n))) (sym next))

pub places_from : (k : ℕ) → k < 64 → drop k state_places ≡ k ∷ drop (k + 1) state_places
unfolding state_places
places_from k below = let same : 0 + k ≡ k = omega arith in range_from 64 0 k below ∙ ap (λ x. x ∷ drop (k + 1) (range_with_len 0 64)) same

pub count_from : (n k : ℕ) → k < n → drop k (range_with_len 0 n) ≡ k ∷ drop (k + 1) (range_with_len 0 n)
count_from n k below = let same : 0 + k ≡ k = omega arith in range_from n 0 k below ∙ ap (λ x. x ∷ drop (k + 1) (range_with_len 0 n)) same
