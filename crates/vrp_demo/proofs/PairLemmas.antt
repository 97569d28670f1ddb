-- Lists of pairs, one by one, and what holds of each pair.
use Rattle.std.proofs.Common.{◌≡◌, ℕ, zero, suc, ◌+◌, ◌-◌, ◌*◌, ◌<◌, ◌≤◌, Bool, true, false, cond, List, [], ◌∷◌, ◌++◌, length, map, refl, sym, ap, ◌∙◌, subst, arith, mul-le-mul, ◌≢◌, inl, inr}
use Rattle.std.specs.Prelude.{All, filter, flat_map, count_by}
use Rattle.std.specs.List.{range_with_len}
use Rattle.std.proofs.lemmas.List.{map-append, map-id, append_assoc, append-nil, length-map, length-append}
use Rattle.std.proofs.lemmas.List.Concat.{flat_map-append}
use Rattle.std.proofs.lemmas.List.Elements.{filter-append, All-nil, All-append, All-map, All-filter}
use Rattle.std.proofs.lemmas.List.Sums.{length-filter, sum_by-cons}
use Rattle.std.proofs.lemmas.Bool.{cases_eq}
use Rattle.std.proofs.lemmas.Bool.Decides.{nat_tests}
use Rattle.std.proofs.lemmas.List.FromFn.{map-range_with_len_more, length-range_with_len, get_or-range_with_len}
use Rattle.vrp_demo.specs.declared.arcs.Pair.{Pair}
use Rattle.vrp_demo.specs.Arcs.{is_arc, pairs_from, all_pairs}

-- the first arcs out of a vertex: those to the vertices 1 to n
abbrev pub first_pairs : ℕ → ℕ → ℕ → List Pair
first_pairs size tail n =
    map (λ head. record { tail = tail; head = head }) (filter (is_arc size tail) (range_with_len 1 n))

pub range_more : (a n j : ℕ) → a + n ≡ j → range_with_len a (n + 1) ≡ range_with_len a n ++ j ∷ []
range_more a n j e =
    sym (map-id (range_with_len a (n + 1)))
    ∙ (map-range_with_len_more (λ k. k) a n j e ∙ ap (λ xs. xs ++ j ∷ []) (map-id (range_with_len a n)))

pairs_more : (size tail n head : ℕ) → 1 + n ≡ head → first_pairs size tail (n + 1) ≡ first_pairs size tail n ++ cond (is_arc size tail head) (record { tail = tail; head = head } ∷ []) []
pairs_more size tail n head e =
    let pair : ℕ → Pair = λ h. record { tail = tail; head = h } in
    ap (λ xs. map pair (filter (is_arc size tail) xs)) (range_more 1 n head e)
    ∙ (ap (map pair) (filter-append (is_arc size tail) (range_with_len 1 n) (head ∷ []))
    ∙ (map-append pair (filter (is_arc size tail) (range_with_len 1 n)) (filter (is_arc size tail) (head ∷ []))
    ∙ ap (λ xs. first_pairs size tail n ++ xs) (last (is_arc size tail head))))
  where
    last : (b : Bool) → map (λ (h : ℕ). let p : Pair = record { tail = tail; head = h } in p) (cond b (head ∷ []) []) ≡ cond b (record { tail = tail; head = head } ∷ []) []
    last true = refl
    last false = refl

-- one more head is looked at
pub head_passed : (size tail head : ℕ) (old now new : List Pair) → 1 ≤ head → now ≡ old ++ first_pairs size tail (head - 1) → new ≡ now ++ cond (is_arc size tail head) (record { tail = tail; head = head } ∷ []) [] → new ≡ old ++ first_pairs size tail (head + 1 - 1)
head_passed size tail head old now new some so_far pushed =
    let one : List Pair = cond (is_arc size tail head) (record { tail = tail; head = head } ∷ []) [] in
    let before : 1 + (head - 1) ≡ head = omega arith in
    let next : head - 1 + 1 ≡ head + 1 - 1 = omega arith in
    pushed
    ∙ (ap (λ xs. xs ++ one) so_far
    ∙ (append_assoc old (first_pairs size tail (head - 1)) one
    ∙ ap (λ xs. old ++ xs) (sym (pairs_more size tail (head - 1) head before) ∙ ap (first_pairs size tail) next)))

pub flat_map_more : {X : Type 0} (f : ℕ → List X) (n : ℕ) → flat_map f (range_with_len 0 (n + 1)) ≡ flat_map f (range_with_len 0 n) ++ f n
flat_map_more f n =
    ap (flat_map f) (range_more 0 n n (omega arith))
    ∙ (flat_map-append f (range_with_len 0 n) (n ∷ []) ∙ ap (λ xs. flat_map f (range_with_len 0 n) ++ xs) (append-nil (f n)))

-- one more item of a list that is made from the numbers
pub item_more : {X : Type 0} (f : ℕ → X) (a n j : ℕ) (old new : List X) (x : X) → a + n ≡ j → old ≡ map f (range_with_len a n) → x ≡ f j → new ≡ old ++ x ∷ [] → new ≡ map f (range_with_len a (n + 1))
item_more f a n j old new x at so_far is pushed =
    pushed
    ∙ (ap (λ xs. xs ++ x ∷ []) so_far
    ∙ (ap (λ y. map f (range_with_len a n) ++ y ∷ []) is ∙ sym (map-range_with_len_more f a n j at)))

-- the numbers of a range
pub all_of_range : (P : ℕ → Type 0) (a n : ℕ) → ((k : ℕ) → a ≤ k → k < a + n → P k) → All P (range_with_len a n)
all_of_range P a n each k d within =
    let below : k < n = omega (arith, within, length-range_with_len a n) in
    subst P (sym (get_or-range_with_len a n k d below)) (each (a + k) (omega arith) (omega arith))

-- an arc goes from the source or a customer to a customer or the sink
pub record PairFits (size : ℕ) (p : Pair) : Type 0 where
  pub tail : p.tail ≤ size
  pub some : 1 ≤ p.head
  pub head : p.head ≤ size + 1

pairs_from-fit : (size tail : ℕ) → tail ≤ size → All (PairFits size) (pairs_from size tail)
pairs_from-fit size tail below =
    let pair : ℕ → Pair = λ h. record { tail = tail; head = h } in
    let P : ℕ → Type 0 = λ h. PairFits size (pair h) in
    All-map (PairFits size) pair (filter (is_arc size tail) (range_with_len 1 (size + 1)))
    (All-filter (is_arc size tail) P (range_with_len 1 (size + 1))
    (all_of_range P 1 (size + 1) (λ h some within. record { tail = below; some = some; head = omega arith })))

pairs_fit_from : (size a n : ℕ) → a + n ≤ size + 1 → All (PairFits size) (flat_map (pairs_from size) (range_with_len a n))
pairs_fit_from size a zero few = All-nil (PairFits size)
pairs_fit_from size a (suc n) few =
    All-append (PairFits size) (pairs_from size a) (flat_map (pairs_from size) (range_with_len (a + 1) n))
    (pairs_from-fit size a (omega arith))
    (pairs_fit_from size (a + 1) n (omega arith))

pub pairs_fit : (size : ℕ) → All (PairFits size) (all_pairs size)
pairs_fit size = pairs_fit_from size 0 (size + 1) (omega arith)

-- how many numbers of a range pass, where all do or all but one
count_all : (p : ℕ → Bool) (a n : ℕ) → ((h : ℕ) → a ≤ h → h < a + n → p h ≡ true) → count_by p (range_with_len a n) ≡ n
count_all p a zero each = refl
count_all p a (suc n) each =
    let first = sum_by-cons (λ (h : ℕ). cond (p h) 1 0) a (range_with_len (a + 1) n) in
    let here : ◌≡◌ {A = ℕ} (cond (p a) 1 0) 1 = ap (λ (b : Bool). cond b 1 0) (each a (omega arith) (omega arith)) in
    omega (arith, first, here, count_all p (a + 1) n (λ h low high. each h (omega arith) (omega arith)))

count_but_one : (p : ℕ → Bool) (e a n : ℕ) → a ≤ e → e < a + n → p e ≡ false → ((h : ℕ) → a ≤ h → h < a + n → h ≢ e → p h ≡ true) → count_by p (range_with_len a n) + 1 ≡ n
count_but_one p e a zero low high out each = absurd (omega arith)
count_but_one p e a (suc n) low high out each =
    let first = sum_by-cons (λ (h : ℕ). cond (p h) 1 0) a (range_with_len (a + 1) n) in
    elim (cases_eq a e) [
      | inl same ↦
          let here : ◌≡◌ {A = ℕ} (cond (p a) 1 0) 0 = ap (λ (h : ℕ). cond (p h) 1 0) same ∙ ap (λ (b : Bool). cond b 1 0) out in
          omega (arith, first, here, count_all p (a + 1) n (λ h l m. each h (omega arith) (omega arith) (λ eq. absurd (omega arith))))
      | inr other ↦
          let here : ◌≡◌ {A = ℕ} (cond (p a) 1 0) 1 = ap (λ (b : Bool). cond b 1 0) (each a (omega arith) (omega arith) other) in
          omega (arith, first, here, count_but_one p e (a + 1) n (omega arith) (omega arith) out (λ h l m. each h (omega arith) (omega arith)))
    ]

-- each vertex but the sink has an arc to each of so many others as there are customers
heads_counted : (size tail : ℕ) → tail ≤ size → count_by (is_arc size tail) (range_with_len 1 (size + 1)) ≡ size
heads_counted size zero below =
    let out : is_arc size 0 (size + 1) ≡ false = grind (arith, nat_tests) in
    let count = count_but_one (is_arc size 0) (size + 1) 1 (size + 1) (omega arith) (omega arith) out (λ h low high other. from_source h low other) in
    omega (arith, count)
  where
    from_source : (h : ℕ) → 1 ≤ h → h ≢ size + 1 → is_arc size 0 h ≡ true
    from_source h low other = grind (arith, nat_tests)
heads_counted size (suc t) below =
    let out : is_arc size (suc t) (suc t) ≡ false = grind (arith, nat_tests) in
    let count = count_but_one (is_arc size (suc t)) (suc t) 1 (size + 1) (omega arith) (omega arith) out (λ h low high other. from_customer h low other) in
    omega (arith, count)
  where
    from_customer : (h : ℕ) → 1 ≤ h → h ≢ suc t → is_arc size (suc t) h ≡ true
    from_customer h low other = grind (arith, nat_tests)

pairs_from_count : (size tail : ℕ) → tail ≤ size → length (pairs_from size tail) ≡ size
pairs_from_count size tail below =
    let heads = filter (is_arc size tail) (range_with_len 1 (size + 1)) in
    let pair : ℕ → Pair = λ h. record { tail = tail; head = h } in
    omega (arith, length-map heads pair, length-filter (is_arc size tail) (range_with_len 1 (size + 1)), heads_counted size tail below)

pair_count_from : (size a n : ℕ) → a + n ≤ size + 1 → length (flat_map (pairs_from size) (range_with_len a n)) ≡ n * size
pair_count_from size a zero few = omega arith
pair_count_from size a (suc n) few =
    omega (arith, length-append (pairs_from size a) (flat_map (pairs_from size) (range_with_len (a + 1) n)), pairs_from_count size a (omega arith), pair_count_from size (a + 1) n (omega arith))

-- so there are so many arcs
pub pair_count : (size : ℕ) → length (all_pairs size) ≡ (size + 1) * size
pair_count size = pair_count_from size 0 (size + 1) (omega arith)

pub few_pairs : (size : ℕ) → size ≤ 100 → length (all_pairs size) ≤ 10100
few_pairs size small =
    let side : size + 1 ≤ 101 = omega arith in
    let product : (size + 1) * size ≤ 101 * 100 = mul-le-mul side small in
    omega (arith, pair_count size, product)
