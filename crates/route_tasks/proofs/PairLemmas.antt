-- Lemmas on the variables of pairs of places.
use Rattle.std.proofs.Common.{◌≡◌, ◌≢◌, ℕ, zero, suc, ◌+◌, ◌-◌, ◌*◌, ◌<◌, ◌≤◌, List, length, map, take, get_or, true, false, sym, ◌∙◌, ap, arith, inl, inr, sum_by, nat_lt, mul-le-mul}
use Rattle.std.specs.List.{range_with_len, flat_map}
use Rattle.std.proofs.lemmas.Bool.{cases_lt}
use Rattle.std.proofs.lemmas.Bool.Decides.{nat_tests}
use Rattle.std.proofs.lemmas.List.{map-id}
use Rattle.std.proofs.lemmas.List.Concat.{length-flat_map, get_or-flat_map}
use Rattle.std.proofs.lemmas.List.FromFn.{length-range_with_len, length-map-range_with_len, get_or-map-range_with_len, get_or-range_with_len, take-map-range_with_len}
use Rattle.route_tasks.specs.Places.{over_pairs, pairs_before, pair_number, variable}
use Rattle.route_tasks.proofs.RangeLemmas.{before_more, twice_before}

-- there are fewer pairs before a lower place
pub before_rises : (n a b : ℕ) → a ≤ b → pairs_before n a ≤ pairs_before n b
before_rises n a zero l = let e : a ≡ 0 = omega (arith, l) in omega (arith, ap (pairs_before n) e)
before_rises n a (suc b) l = elim (cases_lt a (suc b)) [
  | inl less ↦
      let before = before_rises n a b (omega (arith, less)) in
      let more = before_more n b in
      let e : b + 1 ≡ suc b = omega arith in
      let last = ap (pairs_before n) e in
      omega (arith, before, more, last)
  | inr least ↦ let e : a ≡ suc b = omega (arith, l, least) in omega (arith, ap (pairs_before n) e)
]

pub pair_below : (n low high : ℕ) → low < high → high ≤ n → pair_number n low high < pairs_before n n
pair_below n low high l h =
    let more = before_more n low in
    let rises = before_rises n (low + 1) n (omega (arith, l, h)) in
    omega (arith, more, rises, l, h)

pub variable_below : (n u v : ℕ) → u ≤ n → v ≤ n → u ≢ v → variable n u v < pairs_before n n
variable_below n u v p q differ = elim (cases_lt u v) [
  | inl less ↦
      let yes_less : nat_lt u v ≡ true = grind (arith, nat_tests) in
      let below = pair_below n u v less q in
      rw yes_less below
  | inr least ↦
      let no_less : nat_lt u v ≡ false = grind (arith, nat_tests) in
      let below = pair_below n v u (omega (arith, least, differ)) p in
      rw no_less below
]

-- how many pairs there are
pub pairs_size : {X : Type 0} (n : ℕ) (f : ℕ → ℕ → X) → length (over_pairs n f) ≡ pairs_before n n
pairs_size n f =
    length-flat_map (λ low. map (f low) (range_with_len (low + 1) (n - low))) (range_with_len 0 n)
    ∙ (λ i. sum_by (λ k. length-map-range_with_len (f k) (k + 1) (n - k) i) (range_with_len 0 n))

pub few_pairs : (n : ℕ) → n ≤ 244 → pairs_before n n ≤ 29890
few_pairs n few =
    let twice = twice_before n n (omega arith) in
    let wide : n * n ≤ 244 * 244 = mul-le-mul few few in
    sums (pairs_before n n) n (n * n) twice wide few
  where
    sums : (b m s : ℕ) → 2 * b + m * m ≡ m * (2 * m + 1) → m * m ≤ 244 * 244 → m ≤ 244 → b ≤ 29890
    sums b m s p q r = grind arith

-- the item of a pair stands at its number
pub pair_at : {X : Type 0} (n low high : ℕ) (f : ℕ → ℕ → X) (d : X) → low < high → high ≤ n → get_or (over_pairs n f) (pair_number n low high) d ≡ f low high
pair_at {X = X} n low high f d l h =
    ap (λ k. get_or (over_pairs n f) (k + (high - low - 1)) d) (sym before)
    ∙ (get_or-flat_map part (range_with_len 0 n) low (high - low - 1) 0 d (omega (arith, length-range_with_len 0 n, l, h)) within
    ∙ (ap (λ k. get_or (part k) (high - low - 1) d) here
    ∙ get_or-map-range_with_len (f low) (low + 1) (n - low) (high - low - 1) high d (omega (arith, l, h)) (omega (arith, l, h))))
  where
    part : ℕ → List X
    part k = map (f k) (range_with_len (k + 1) (n - k))

    first : take low (range_with_len 0 n) ≡ range_with_len 0 low
    first = ap (take low) (sym (map-id (range_with_len 0 n))) ∙ (take-map-range_with_len (λ k. k) 0 n low (omega (arith, l, h)) ∙ map-id (range_with_len 0 low))

    before : length (flat_map part (take low (range_with_len 0 n))) ≡ pairs_before n low
    before = ap (λ xs. length (flat_map part xs)) first ∙ (length-flat_map part (range_with_len 0 low) ∙ (λ i. sum_by (λ k. length-map-range_with_len (f k) (k + 1) (n - k) i) (range_with_len 0 low)))

    here : get_or (range_with_len 0 n) low 0 ≡ low
    here = get_or-range_with_len 0 n low 0 (omega (arith, l, h)) ∙ omega arith

    within : high - low - 1 < length (part (get_or (range_with_len 0 n) low 0))
    within = let size = ap (λ k. length (part k)) here ∙ length-map-range_with_len (f low) (low + 1) (n - low) in omega (arith, size, l, h)
