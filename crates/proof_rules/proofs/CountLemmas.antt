-- Counts over a list of walks, and their plan.
use Rattle.std.proofs.Common.{◌≡◌, ℕ, zero, suc, ◌+◌, ◌<◌, ◌≤◌, nat_lt, Bool, ℤ, pos, negsuc, ◌≤ℤ◌, ◌+ℤ◌, ◌*ℤ◌, List, [], ◌∷◌, length, get_or, mul-le-mul_left, inl, inr, refl, ◌∙◌, ap, arith}
use Rattle.std.specs.Prelude.{Contains, filter}
use Rattle.std.proofs.Math.IntN.{zero-*ℤ}
use Rattle.std.proofs.lemmas.Bool.{cases_Bool, cond-true, cond-false, ltb-true, ltb-false}
use Rattle.std.proofs.lemmas.Int.{ints}
use Rattle.std.proofs.lemmas.List.Elements.{All-nil, All-cons, All-filter, All-head, All-tail, All-weaker, filter_passes}
use Rattle.path_graph.specs.Sums.{sum_over}
use Rattle.path_graph.proofs.IntLemmas.{add-mul_z}
use Rattle.route_model.specs.declared.plan.Taken.{Taken}
use Rattle.proof_rules.specs.Counts.{AreAmong, AreCounts, CountMostLaw, CountsLaw, PlanOfLaw, Walk, walk_at, walk_of, with_counts}
use Rattle.proof_rules.proofs.WalkListLemmas.{contains_more}

-- a signed quantity of walks, summed over paths, counts included
abbrev pub paths_sum : (ℕ → List ℕ → ℤ) → List Taken → ℤ
paths_sum of_walk paths = sum_over (λ t. pos t.count *ℤ of_walk t.graph t.arcs) paths

-- so many times a number
times_low : (n : ℕ) (k : ℤ) → pos 0 ≤ℤ k → pos 0 ≤ℤ (pos n *ℤ k)
times_low n (pos b) h = omega (arith, ints)
times_low n (negsuc b) h = absurd (omega (arith, ints, h))

times_some : (n : ℕ) (k : ℤ) → pos 1 ≤ℤ k → pos n ≤ℤ (pos n *ℤ k)
times_some n (pos b) h =
    let some : 1 ≤ b = omega (arith, ints, h) in
    let most = mul-le-mul_left n some in
    omega (arith, ints, most)
times_some n (negsuc b) h = absurd (omega (arith, ints, h))

-- no counts at all
abbrev none : List Walk → List ℕ
none [] = []
none (w ∷ rest) = 0 ∷ none rest

none_size : (walks : List Walk) → length (none walks) ≡ length walks
none_size [] = refl
none_size (w ∷ rest) = ap suc (none_size rest)

none_amount : (of_walk : ℕ → List ℕ → ℤ) (walks : List Walk) → paths_sum of_walk (with_counts walks (none walks)) ≡ pos 0
none_amount of_walk [] = refl
none_amount of_walk (w ∷ rest) =
    let more = none_amount of_walk rest in
    let here = zero-*ℤ (of_walk w.graph w.arcs) in
    omega (arith, ints, more, here)

-- one count raised
abbrev raised : List ℕ → ℕ → ℕ → List ℕ
raised [] k n = []
raised (c ∷ rest) zero n = (c + n) ∷ rest
raised (c ∷ rest) (suc k) n = c ∷ raised rest k n

raised_size : (counts : List ℕ) (k n : ℕ) → length (raised counts k n) ≡ length counts
raised_size [] k n = refl
raised_size (c ∷ rest) zero n = refl
raised_size (c ∷ rest) (suc k) n = ap suc (raised_size rest k n)

raised_amount : (of_walk : ℕ → List ℕ → ℤ) (walks : List Walk) (counts : List ℕ) (k n : ℕ) (w : Walk) → length counts ≡ length walks → k < length walks → get_or walks k w ≡ w
    → paths_sum of_walk (with_counts walks (raised counts k n)) ≡ paths_sum of_walk (with_counts walks counts) +ℤ (pos n *ℤ of_walk w.graph w.arcs)
raised_amount of_walk [] counts k n w size l e = absurd (omega (arith, l))
raised_amount of_walk (v ∷ walks) [] k n w size l e = absurd (omega (arith, size))
raised_amount of_walk (v ∷ walks) (c ∷ counts) zero n w size l e =
    let both = add-mul_z (pos c) (pos n) (of_walk v.graph v.arcs) in
    let same : pos n *ℤ of_walk v.graph v.arcs ≡ pos n *ℤ of_walk w.graph w.arcs = ap (λ (x : Walk). pos n *ℤ of_walk x.graph x.arcs) e in
    omega (arith, ints, both, same)
raised_amount of_walk (v ∷ walks) (c ∷ counts) (suc k) n w size l e =
    let more = raised_amount of_walk walks counts k n w (omega (arith, size)) (omega (arith, l)) e in
    omega (arith, ints, more)

counted : (walks : List Walk) (paths : List Taken) → AreAmong walks paths → (counts : List ℕ) × AreCounts walks (record { paths = paths }) counts
counted walks [] among = (none walks, record { size = none_size walks; same = λ of_walk. none_amount of_walk walks })
counted walks (t ∷ rest) among =
    let at = All-head (λ (x : Taken). Contains walks (walk_of x)) t rest among in
    let more = counted walks rest (All-tail (λ (x : Taken). Contains walks (walk_of x)) t rest among) in (
      raised more.0 at.0 t.count,
      record {
        size = raised_size more.0 at.0 t.count ∙ more.1.size;
        same = λ of_walk.
            let next = raised_amount of_walk walks more.0 at.0 t.count (walk_of t) more.1.size at.1 at.2 in
            let before = more.1.same of_walk in
            omega (arith, ints, next, before);
      },
    )

pub counts_law : CountsLaw
counts_law walks plan among = counted walks plan.paths among

-- a count is no more than any of_walk that its walk has, and no walk lacks
amount_low : (of_walk : ℕ → List ℕ → ℤ) (walks : List Walk) (counts : List ℕ) → ((g : ℕ) (arcs : List ℕ) → pos 0 ≤ℤ (of_walk g arcs)) → pos 0 ≤ℤ (paths_sum of_walk (with_counts walks counts))
amount_low of_walk [] counts low = omega (arith, ints)
amount_low of_walk (w ∷ walks) [] low = omega (arith, ints)
amount_low of_walk (w ∷ walks) (c ∷ counts) low =
    let here = times_low c (of_walk w.graph w.arcs) (low w.graph w.arcs) in
    let more = amount_low of_walk walks counts low in
    omega (arith, ints, here, more)

count_most : (of_walk : ℕ → List ℕ → ℤ) (walks : List Walk) (counts : List ℕ) (i : ℕ) → ((g : ℕ) (arcs : List ℕ) → pos 0 ≤ℤ (of_walk g arcs)) → length counts ≡ length walks → i < length walks
    → pos 1 ≤ℤ (of_walk (walk_at walks i).graph (walk_at walks i).arcs) → pos (get_or counts i 0) ≤ℤ (paths_sum of_walk (with_counts walks counts))
count_most of_walk [] counts i low size l some = absurd (omega (arith, l))
count_most of_walk (w ∷ walks) [] i low size l some = absurd (omega (arith, size))
count_most of_walk (w ∷ walks) (c ∷ counts) zero low size l some =
    let here = times_some c (of_walk w.graph w.arcs) some in
    let more = amount_low of_walk walks counts low in
    omega (arith, ints, here, more)
count_most of_walk (w ∷ walks) (c ∷ counts) (suc i) low size l some =
    let here = times_low c (of_walk w.graph w.arcs) (low w.graph w.arcs) in
    let more = count_most of_walk walks counts i low (omega (arith, size)) (omega (arith, l)) some in
    omega (arith, ints, here, more)

pub count_most_law : CountMostLaw
count_most_law walks counts i of_walk low size l some = count_most of_walk walks counts i low size l some

-- the plan of counts
among_all : (walks : List Walk) (counts : List ℕ) → AreAmong walks (with_counts walks counts)
among_all [] counts = All-nil (λ (t : Taken). Contains [] (walk_of t))
among_all (w ∷ rest) [] = All-nil (λ (t : Taken). Contains (w ∷ rest) (walk_of t))
among_all (w ∷ rest) (c ∷ counts) =
    All-cons (λ (t : Taken). Contains (w ∷ rest) (walk_of t)) (record { graph = w.graph; count = c; arcs = w.arcs }) (with_counts rest counts) (0, omega arith, refl)
    (All-weaker (λ (t : Taken). Contains rest (walk_of t)) (λ (t : Taken). Contains (w ∷ rest) (walk_of t)) (λ t h. contains_more w rest (walk_of t) h) (with_counts rest counts) (among_all rest counts))

abbrev is_taken : Taken → Bool
is_taken t = nat_lt 0 t.count

taken_amount : (of_walk : ℕ → List ℕ → ℤ) (plan : List Taken) → paths_sum of_walk (filter is_taken plan) ≡ paths_sum of_walk plan
taken_amount of_walk [] = refl
taken_amount of_walk (t ∷ rest) =
    let more = taken_amount of_walk rest in
    elim (cases_Bool (is_taken t)) [
      | inl e ↦
          let kept : paths_sum of_walk (filter is_taken (t ∷ rest)) ≡ (pos t.count *ℤ of_walk t.graph t.arcs) +ℤ paths_sum of_walk (filter is_taken rest) =
          ap (paths_sum of_walk) (cond-true (is_taken t) (t ∷ filter is_taken rest) (filter is_taken rest) e) in
          omega (arith, ints, kept, more)
      | inr e ↦
          let left : paths_sum of_walk (filter is_taken (t ∷ rest)) ≡ paths_sum of_walk (filter is_taken rest) =
          ap (paths_sum of_walk) (cond-false (is_taken t) (t ∷ filter is_taken rest) (filter is_taken rest) e) in
          let zero_count : t.count ≡ 0 = omega (arith, ltb-false 0 t.count e) in
          let here : pos t.count *ℤ of_walk t.graph t.arcs ≡ pos 0 = ap (λ (n : ℕ). pos n *ℤ of_walk t.graph t.arcs) zero_count ∙ zero-*ℤ (of_walk t.graph t.arcs) in
          omega (arith, ints, left, more, here)
    ]

pub plan_of_law : PlanOfLaw
plan_of_law walks counts = record {
  some = λ k d l. ltb-true 0 _ (filter_passes is_taken (with_counts walks counts) k d l);
  among = All-filter is_taken (λ (t : Taken). Contains walks (walk_of t)) (with_counts walks counts) (among_all walks counts);
  same = λ of_walk. taken_amount of_walk (with_counts walks counts);
}
