-- Steps of the loops that count uses and visits.
use Rattle.std.proofs.Common.{◌≡◌, ◌≢◌, ℕ, ◌+◌, ◌<◌, ◌≤◌, ◌==◌, ◌||◌, Bool, true, false, Option, List, [], ◌∷◌, ◌++◌, map, take, drop, length, get_or, set, get_or-set_same, get_or-set_other, refl, sym, ◌∙◌, ap, subst, inl, inr, arith}
use Rattle.std.specs.Prelude.{count_by, if◌then◌else◌, slice_index}
use Rattle.std.specs.List.{list_any, range_with_len}
use Rattle.std.proofs.lemmas.Bool.{cases_Bool}
use Rattle.std.proofs.lemmas.Bool.Decides.{nat_tests}
use Rattle.std.proofs.lemmas.List.{append-nil, drop_all, ext_get_or, take_all}
use Rattle.std.proofs.lemmas.List.FromFn.{get_or-map-range_with_len, length-map-range_with_len}
use Rattle.std.proofs.lemmas.List.Sums.{count_by_more_no, count_by_more_yes, sum_by-cons}
use Rattle.path_graph.specs.First.{EachBelow}
use Rattle.rank1_cuts.specs.declared.cut.Cut.{Cut}
use Rattle.rank1_cuts.specs.Visits.{coef_of, rises, rises_from, state_after}
use Rattle.route_model.specs.Fit.{Ascends}
use Rattle.multipliers.proofs.PricedLemmas.{apart_from, ascends_rest}

-- one count more, by a test that is passed or not
pub count_more : {X : Type 0} (p : X → Bool) (xs : List X) (k : ℕ) (d : X) → k < length xs → count_by p (take (k + 1) xs) ≡ count_by p (take k xs) + (if p (get_or xs k d) then 1 else 0)
count_more p xs k d below =
    elim (cases_Bool (p (get_or xs k d))) [
      | inl met ↦ count_by_more_yes p xs k d below met ∙ ap (λ (b : Bool). count_by p (take k xs) + (if b then 1 else 0)) (sym met)
      | inr unmet ↦
          let more = count_by_more_no p xs k d below unmet in
          let here : ◌≡◌ {A = ℕ} (if p (get_or xs k d) then 1 else 0) 0 = ap {B = ℕ} (λ (b : Bool). if b then 1 else 0) unmet in
          omega (arith, more, here)
    ]

-- a number of a list is raised by 1
pub raised : (counts new : List ℕ) (v j : ℕ) → v < length counts → new ≡ set counts v (get_or counts v 0 + 1) → get_or new j 0 ≡ get_or counts j 0 + (if v == j then 1 else 0)
raised counts new v j below made =
    elim (cases_Bool (v == j)) [
      | inl met ↦
          let same : v ≡ j = grind (arith, nat_tests) in
          subst (λ (i : ℕ). get_or new i 0 ≡ get_or counts i 0 + (if v == j then 1 else 0)) same
          (ap (λ (xs : List ℕ). get_or xs v 0) made
          ∙ (get_or-set_same counts v (get_or counts v 0 + 1) 0 below ∙ ap (λ (b : Bool). get_or counts v 0 + (if b then 1 else 0)) (sym met)))
      | inr unmet ↦
          let apart : j ≢ v = grind (arith, nat_tests) in
          let read : get_or new j 0 ≡ get_or counts j 0 = ap (λ (xs : List ℕ). get_or xs j 0) made ∙ get_or-set_other counts v j (get_or counts v 0 + 1) 0 apart in
          let here : ◌≡◌ {A = ℕ} (if v == j then 1 else 0) 0 = ap {B = ℕ} (λ (b : Bool). if b then 1 else 0) unmet in
          omega (arith, read, here)
    ]

-- the step of a loop that counts the numbers of a list
pub count_step : (counts new : List ℕ) (start : ℕ) (vars : List ℕ) (k j : ℕ) → k < length vars → slice_index vars k < length counts
    → new ≡ set counts (slice_index vars k) (get_or counts (slice_index vars k) 0 + 1) → slice_index counts j ≡ start + count_by (λ i. i == j) (take k vars)
    → slice_index new j ≡ start + count_by (λ i. i == j) (take (k + 1) vars)
count_step counts new start vars k j below there made before =
    let more = count_more (λ i. i == j) vars k 0 below in
    let read = raised counts new (slice_index vars k) j there made in
    omega (arith, more, read, before)

-- in a list that ascends unmet number stands twice
count_none : (j : ℕ) (vars : List ℕ) → list_any (λ i. i == j) vars ≡ false → count_by (λ i. i == j) vars ≡ 0
count_none j [] none = refl
count_none j (v ∷ vars) none =
    elim (cases_Bool (v == j)) [
      | inl met ↦ absurd (let found : (true || list_any (λ i. i == j) vars) ≡ false = (λ i. sym met i || list_any (λ x. x == j) vars) ∙ none in cc)
      | inr unmet ↦
          let rest : list_any (λ i. i == j) vars ≡ false = (λ i. sym unmet i || list_any (λ x. x == j) vars) ∙ none in
          sum_by-cons (λ (i : ℕ). if i == j then 1 else 0) v vars ∙ (λ i. (if unmet i then 1 else 0) + count_none j vars rest i)
    ]

pub count_once : (j : ℕ) (vars : List ℕ) → Ascends (λ j. j) vars → count_by (λ i. i == j) vars ≡ (if list_any (λ i. i == j) vars then 1 else 0)
count_once j [] ascend = refl
count_once j (v ∷ vars) ascend =
    elim (cases_Bool (v == j)) [
      | inl met ↦
          let low : j ≤ v = grind (arith, nat_tests, met) in
          let none = count_none j vars (apart_from j v vars low ascend) in
          sum_by-cons (λ (i : ℕ). if i == j then 1 else 0) v vars
          ∙ ((λ i. (if met i then 1 else 0) + none i) ∙ ap (λ (b : Bool). if b || list_any (λ i. i == j) vars then 1 else 0) (sym met))
      | inr unmet ↦
          sum_by-cons (λ (i : ℕ). if i == j then 1 else 0) v vars
          ∙ ((λ i. (if unmet i then 1 else 0) + count_once j vars (ascends_rest v vars ascend) i) ∙ zero_plus v j vars unmet)
    ]
  where
    zero_plus : (v j : ℕ) (vars : List ℕ) → (v == j) ≡ false → ◌≡◌ {A = ℕ} (0 + (if list_any (λ i. i == j) vars then 1 else 0)) (if (v == j) || list_any (λ i. i == j) vars then 1 else 0)
    zero_plus v j vars unmet =
        let here : ◌≡◌ {A = ℕ} (if (v == j) || list_any (λ i. i == j) vars then 1 else 0) (if list_any (λ i. i == j) vars then 1 else 0) = ap {B = ℕ} (λ (b : Bool). if b || list_any (λ i. i == j) vars then 1 else 0) unmet in
        omega (arith, here)

-- a list that is told number by number
pub list_told : (f : ℕ → ℕ) (xs : List ℕ) (n : ℕ) → length xs ≡ n → EachBelow n (λ j. slice_index xs j ≡ f j) → xs ≡ map f (range_with_len 0 n)
list_told f xs n count each =
    ext_get_or 0 xs (map f (range_with_len 0 n)) (count ∙ sym (length-map-range_with_len f 0 n))
    (λ j below. let inside : j < n = omega (arith, below, count) in each j inside ∙ sym (get_or-map-range_with_len f 0 n j j 0 inside (omega arith)))

-- a coefficient is at most the number of visits
most_one : (b : Bool) → (if b then 1 else 0) ≤ 1
most_one true = omega arith
most_one false = omega arith

few_rises : (cut : Cut) (state : ℕ) (visits : List (Option ℕ)) → rises_from cut state visits ≤ length visits
few_rises cut state [] = omega arith
few_rises cut state (visit ∷ rest) =
    let here = most_one (rises cut state visit) in
    let more = few_rises cut (state_after cut state visit) rest in
    omega (arith, here, more)

pub coef_few : (cut : Cut) (visits : List (Option ℕ)) → coef_of cut visits ≤ length visits
coef_few cut visits = few_rises cut 0 visits

-- a list that was handed out whole, once it is back
pub whole_slice : {X : Type 0} (new items : List X) (n : ℕ) → length new ≡ n → length items ≡ n → take n (new ++ drop (length new) items) ≡ new
whole_slice {X} new items n long same =
    let rest : drop (length new) items ≡ [] = drop_all (length new) items (omega (arith, long, same)) in
    ap (λ (xs : List X). take n (new ++ xs)) rest ∙ (ap (take n) (append-nil new) ∙ take_all n new (omega (arith, long)))
