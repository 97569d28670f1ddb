-- Lemmas on tidy plans.
use Rattle.std.proofs.Common.{◌≡◌, ℕ, ◌+◌, ◌-◌, ◌*◌, ◌≤◌, ◌<◌, ◌⊎◌, inl, inr, List, [], ◌∷◌, length, take, get_or, arith, sym, ◌∙◌, ap, subst, refl, zero, suc, cond, add-mul, mul-one, mul-zero, Result, Ok, Err}
use Rattle.std.specs.List.{insert}
use Rattle.std.specs.declared.cmp.Ordering.{Ordering}
use Rattle.std.specs.declared.cmp.Ordering.TheVariants.{Less, Equal, Greater}
use Rattle.std.specs.Ordering.{nat_cmp, ordering_then, ordering_reverse, is_lt, is_eq}
use Rattle.std.specs.List.Sorted.{IsSortedBy, IsBinarySearchResult, IsSearchInRange}
use Rattle.std.proofs.lemmas.Map.Lookups.{exact_unsigned, exact_bytes}
use Rattle.std.specs.Cmp.{IsTotalOrder}
use Rattle.std.specs.Cmp.Lexicographic.{slice_cmp}
use Rattle.std.proofs.Math.ListN.{set, length-set}
use Rattle.std.proofs.lemmas.List.{get_or_default, get_or-set_same, get_or-set_other}
use Rattle.std.proofs.lemmas.List.Edits.{length-insert, get_or-insert_below, get_or-insert_at, get_or-insert_above}
use Rattle.std.proofs.lemmas.List.Sorted.{IsPermutation-insert, sum_by-IsPermutation, searchable_from_sorted}
use Rattle.std.specs.Prelude.{sum_by}
use Rattle.std.proofs.lemmas.List.Sums.{get_or-le-sum_by, sum_by-cons, sum_by-set, sum_by_more, sum_by_more_le}
use Rattle.std.proofs.lemmas.Bool.{cases_lt, cases_eq}
use Rattle.std.proofs.lemmas.Bool.Decides.{nat_tests}
use Rattle.std.proofs.lemmas.Cmp.{nat_cmp_total, nat_list_cmp_total, on_total, then_total}
use Rattle.route_model.specs.declared.plan.Taken.{Taken}
use Rattle.route_model.specs.declared.plan.Plan.{Plan}
use Rattle.route_model.specs.Parts.{taken_at, plan_with}
use Rattle.route_model.specs.Quantities.{is_of, paths_of}
use Rattle.route_model.specs.Tidy.{walk_order, IsTidy, AddsPath, IsPlaceOf, AreFew, Covers, ComesFrom, AllComeFromOr, KeepsQuantities, KeepsWalks}

pub walk_order_total : IsTotalOrder walk_order
walk_order_total = then_total (on_total (λ (t : Taken). t.graph) nat_cmp_total) (on_total (λ (t : Taken). t.arcs) nat_list_cmp_total)

abbrev none : Taken
none = record { graph = 0; count = 0; arcs = [] }

order_of : (a b c d : Taken) → a ≡ c → b ≡ d → walk_order c d ≡ Less → walk_order a b ≡ Less
order_of a b c d p q h = subst (λ (x : Taken). walk_order x b ≡ Less) (sym p) (subst (λ (y : Taken). walk_order c y ≡ Less) (sym q) h)

-- what comes after a walk is after it the other way round too
reversed : (a b : Taken) → walk_order a b ≡ Greater → walk_order b a ≡ Less
reversed a b h = walk_order_total.antisymm b a ∙ ap ordering_reverse h

-- an insert before what comes later and after what comes before
pub tidy-insert : (plan : List Taken) (i : ℕ) (t : Taken) → IsTidy (plan_with plan) → i ≤ length plan → ((k : ℕ) → k < i → walk_order (taken_at plan k) t ≡ Less) → ((k : ℕ) → i ≤ k → k < length plan → walk_order (taken_at plan k) t ≡ Greater) → IsTidy (plan_with (insert plan i t))
tidy-insert plan i t tidy within before later k below =
    let long = length-insert plan i t within in
    elim (cases_lt (k + 1) i) [
      | inl front ↦ order_of _ _ (taken_at plan k) (taken_at plan (k + 1)) (get_or-insert_below plan i t none k (omega arith) within) (get_or-insert_below plan i t none (k + 1) front within) (tidy k (omega arith))
      | inr rest ↦ elim (cases_lt k i) [
        | inl at_front ↦ let here : k + 1 ≡ i = omega arith in
            order_of _ _ (taken_at plan k) t (get_or-insert_below plan i t none k at_front within) (ap (λ (n : ℕ). taken_at (insert plan i t) n) here ∙ get_or-insert_at plan i t none within) (before k at_front)
        | inr behind ↦ behind_at (k - i) (omega arith)
      ]
    ]
  where
    behind_at : (n : ℕ) → k ≡ i + n → walk_order (taken_at (insert plan i t) k) (taken_at (insert plan i t) (k + 1)) ≡ Less
    behind_at zero e =
        let long = length-insert plan i t within in
        let here : k ≡ i = omega arith in
        order_of _ _ t (taken_at plan k) (ap (λ (n : ℕ). taken_at (insert plan i t) n) here ∙ get_or-insert_at plan i t none within) (get_or-insert_above plan i t none k (omega arith) within) (reversed (taken_at plan k) t (later k (omega arith) (omega (arith, long))))
    behind_at (suc n) e =
        let long = length-insert plan i t within in
        let here : k ≡ (i + n) + 1 = omega arith in
        order_of _ _ (taken_at plan (i + n)) (taken_at plan k) (ap (λ (m : ℕ). taken_at (insert plan i t) m) here ∙ get_or-insert_above plan i t none (i + n) (omega arith) within) (get_or-insert_above plan i t none k (omega arith) within)
        (subst (λ (m : ℕ). walk_order (taken_at plan (i + n)) (taken_at plan m) ≡ Less) (sym here) (tidy (i + n) (omega (arith, long))))

pub quantity-insert : (plan : List Taken) (i : ℕ) (t : Taken) → AddsPath (plan_with plan) (plan_with (insert plan i t)) t
quantity-insert plan i t of_walk =
    let f : Taken → ℕ = λ u. u.count * of_walk u.graph u.arcs in
    let same = sum_by-IsPermutation f (t ∷ plan) (insert plan i t) (IsPermutation-insert plan i t) in
    let more = sum_by-cons f t plan in
    omega (arith, same, more)

-- equal walks
walk_order-Equal : (a b : Taken) → walk_order a b ≡ Equal → (a.graph ≡ b.graph) × (a.arcs ≡ b.arcs)
walk_order-Equal a b h = parts (nat_cmp a.graph b.graph) (slice_cmp nat_cmp a.arcs b.arcs) (exact_unsigned a.graph b.graph) (exact_bytes a.arcs b.arcs) h
  where
    parts : (o p : Ordering) → (o ≡ Equal → a.graph ≡ b.graph) → (p ≡ Equal → a.arcs ≡ b.arcs) → ordering_then o p ≡ Equal → (a.graph ≡ b.graph) × (a.arcs ≡ b.arcs)
    parts Less p f g e = cc
    parts Equal p f g e = (f refl, g e)
    parts Greater p f g e = cc

-- the count of the path with the walk grows
pub quantity-set : (plan : List Taken) (i : ℕ) (t path : Taken) → i < length plan → path ≡ get_or plan i path → walk_order (taken_at plan i) t ≡ Equal → AddsPath (plan_with plan) (plan_with (set plan i (record { graph = path.graph; count = path.count + t.count; arcs = path.arcs }))) t
quantity-set plan i t path within is same of_walk =
    let f : Taken → ℕ = λ u. u.count * of_walk u.graph u.arcs in
    let there : path ≡ taken_at plan i = is ∙ get_or_default plan i path none within in
    let equal = walk_order-Equal path t (ap (λ (u : Taken). walk_order u t) there ∙ same) in
    let walk : of_walk path.graph path.arcs ≡ of_walk t.graph t.arcs = ap (λ (n : ℕ). of_walk n path.arcs) equal.0 ∙ ap (of_walk t.graph) equal.1 in
    let sums = sum_by-set f plan i (record { graph = path.graph; count = path.count + t.count; arcs = path.arcs }) path within in
    let old = ap f is in
    regroup _ _ path.count t.count (of_walk path.graph path.arcs) (of_walk t.graph t.arcs) (f (get_or plan i path)) walk old sums
  where
    regroup : (new before c n w v x : ℕ) → w ≡ v → c * w ≡ x → new + x ≡ before + (c + n) * w → new ≡ before + n * v
    regroup new before c n w v x p q r =
        let split : (c + n) * w ≡ c * w + n * w = add-mul c n w in
        let same_walk : n * w ≡ n * v = ap (λ (m : ℕ). n * m) p in
        omega (arith, split, q, r, same_walk)

-- where a binary search stops
pub place_found : (plan : List Taken) (t : Taken) (r : Result ℕ ℕ) → IsTidy (plan_with plan) → IsSearchInRange r (length plan) → IsBinarySearchResult (λ u. walk_order u t) plan r → IsPlaceOf plan t r
place_found plan t (Ok i) tidy range found = (range, found none)
place_found plan t (Err i) tidy range found =
    let rises = searchable_from_sorted walk_order_total (λ (u : Taken). u) plan t sorted in
    let parts = found rises in
    (range, λ k before. parts.0 k none (omega arith) before, λ k from below. parts.1 k none from below)
  where
    sorted : IsSortedBy (λ (a b : Taken). is_lt (walk_order a b)) plan
    sorted k d low below =
        let here = get_or_default plan k d none (omega arith) in
        let next = get_or_default plan (k + 1) d none below in
        let back : walk_order (get_or plan (k + 1) d) (get_or plan k d) ≡ Greater =
        walk_order_total.antisymm (get_or plan (k + 1) d) (get_or plan k d) ∙ ap ordering_reverse (order_of _ _ (taken_at plan k) (taken_at plan (k + 1)) here next (tidy k below)) in
        ap is_lt back

own_graph : (t : Taken) → is_of t.graph t.graph t.arcs ≡ 1
own_graph t = grind (arith, nat_tests)

-- the next path of a plan with few paths leaves room for its count
pub few_more : (plan : Plan) (i : ℕ) (t : Taken) → AreFew plan → i < length plan.paths → t ≡ get_or plan.paths i t → paths_of (plan_with (take i plan.paths)) t.graph + t.count ≤ 4096
few_more plan i t few below is =
    let f : Taken → ℕ = λ u. u.count * is_of t.graph u.graph u.arcs in
    let part = sum_by_more_le f plan.paths i t below in
    let here : f t ≡ t.count = ap (λ (n : ℕ). t.count * n) (own_graph t) ∙ mul-one t.count in
    omega (arith, part, here, ap f is, few t.graph)

same_path : (t u : Taken) → u ≡ t → Covers t u
same_path t u e =
    record { graph = ap (λ (x : Taken). x.graph) e; arcs = ap (λ (x : Taken). x.arcs) e; count = let c = ap (λ (x : Taken). x.count) e in omega (arith, c) }

stays : (plan : List Taken) (i : ℕ) (u : Taken) → i < length plan → u ≡ taken_at plan i → ComesFrom (plan_with plan) u
stays plan i u below e = (i, below, same_path (taken_at plan i) u e)

pub comes-insert : (plan : List Taken) (i : ℕ) (t : Taken) → i ≤ length plan → AllComeFromOr (plan_with plan) t (plan_with (insert plan i t))
comes-insert plan i t within k below =
    let long = length-insert plan i t within in
    elim (cases_lt k i) [
      | inl front ↦ inl (stays plan k _ (omega arith) (get_or-insert_below plan i t none k front within))
      | inr rest ↦ behind (k - i) (omega arith)
    ]
  where
    behind : (n : ℕ) → k ≡ i + n → ComesFrom (plan_with plan) (taken_at (insert plan i t) k) ⊎ Covers t (taken_at (insert plan i t) k)
    behind zero e =
        let here : k ≡ i = omega arith in
        inr (same_path t _ (ap (λ (m : ℕ). taken_at (insert plan i t) m) here ∙ get_or-insert_at plan i t none within))
    behind (suc n) e =
        let long = length-insert plan i t within in
        let here : k ≡ (i + n) + 1 = omega arith in
        inl (stays plan (i + n) _ (omega (arith, long)) (ap (λ (m : ℕ). taken_at (insert plan i t) m) here ∙ get_or-insert_above plan i t none (i + n) (omega arith) within))

pub comes-set : (plan : List Taken) (i : ℕ) (t path : Taken) → i < length plan → path ≡ get_or plan i path → AllComeFromOr (plan_with plan) t (plan_with (set plan i (record { graph = path.graph; count = path.count + t.count; arcs = path.arcs })))
comes-set plan i t path within is k below =
    let more : Taken = record { graph = path.graph; count = path.count + t.count; arcs = path.arcs } in
    let there : path ≡ taken_at plan i = is ∙ get_or_default plan i path none within in
    elim (cases_eq k i) [
      | inl here ↦ inl (i, within, subst (λ (u : Taken). Covers (taken_at plan i) u) (sym (ap (λ (m : ℕ). taken_at (set plan i more) m) here ∙ get_or-set_same plan i more none within)) (subst (λ (u : Taken). Covers u more) there (record { graph = refl; arcs = refl; count = omega arith })))
      | inr other ↦ inl (stays plan k _ (let l = length-set plan i more in omega (arith, l)) (get_or-set_other plan i k more none other))
    ]

covers_trans : (t u v : Taken) → Covers t u → Covers u v → Covers t v
covers_trans t u v a b =
    record { graph = b.graph ∙ a.graph; arcs = b.arcs ∙ a.arcs; count = omega (arith, a.count, b.count) }

-- each path of the new plan covers one of the first paths of the old
abbrev pub ComeBelow : Plan → ℕ → Plan → Type 0
ComeBelow plan i new =
    (k : ℕ) → k < length new.paths → (j : ℕ) × (j < i) × Covers (taken_at plan.paths j) (taken_at new.paths k)

-- a step of a loop over the paths of a plan
pub come_more : (plan : Plan) (i : ℕ) (t : Taken) (old new : Plan) → i < length plan.paths → t ≡ get_or plan.paths i t → ComeBelow plan i old → AllComeFromOr old t new → ComeBelow plan (i + 1) new
come_more plan i t old new below is before step k within = found (step k within)
  where
    found : ComesFrom old (taken_at new.paths k) ⊎ Covers t (taken_at new.paths k) → (j : ℕ) × (j < i + 1) × Covers (taken_at plan.paths j) (taken_at new.paths k)
    found (inl (h, short, second)) =
        let first = before h short in
        (first.0, omega (arith, first.1), covers_trans (taken_at plan.paths first.0) (taken_at old.paths h) (taken_at new.paths k) first.2 second)
    found (inr covers) =
        (i, omega arith, subst (λ (u : Taken). Covers u (taken_at new.paths k)) (is ∙ get_or_default plan.paths i t none below) covers)

pub sums_more : (plan : Plan) (i : ℕ) (t : Taken) (old new : Plan) → i < length plan.paths → t ≡ get_or plan.paths i t → KeepsQuantities (plan_with (take i plan.paths)) old → AddsPath old new t → KeepsQuantities (plan_with (take (i + 1) plan.paths)) new
sums_more plan i t old new below is before adds of_walk =
    let f : Taken → ℕ = λ u. u.count * of_walk u.graph u.arcs in
    let more = sum_by_more f plan.paths i t below in
    omega (arith, more, ap f is, before of_walk, adds of_walk)

-- a sum of at least 1 has an item of at least 1
some_counts : (f : Taken → ℕ) (paths : List Taken) → 1 ≤ sum_by f paths → (i : ℕ) × (i < length paths) × (1 ≤ f (taken_at paths i))
some_counts f [] h = absurd (omega arith)
some_counts f (t ∷ paths) h =
    let step = sum_by-cons f t paths in
    elim (cases_lt 0 (f t)) [
      | inl here ↦ (0, omega arith, omega arith)
      | inr none_here ↦ let rest = some_counts f paths (omega (arith, step)) in (suc rest.0, omega (arith, rest.1), rest.2)
    ]

-- 1 for a walk that is that of a path, else 0
abbrev same_walk : Taken → ℕ → List ℕ → ℕ
same_walk t g arcs = cond (is_eq (walk_order (record { graph = g; count = 0; arcs = arcs }) t)) 1 0

itself : (t : Taken) → same_walk t t.graph t.arcs ≡ 1
itself t = ap (λ (o : Ordering). let n : ℕ = cond (is_eq o) 1 0 in n) (own_order (walk_order t t) (walk_order_total.antisymm t t))
  where
    own_order : (o : Ordering) → o ≡ ordering_reverse o → o ≡ Equal
    own_order Less e = cc
    own_order Equal e = refl
    own_order Greater e = cc

walk_is : (t u : Taken) → 1 ≤ same_walk t u.graph u.arcs → (u.graph ≡ t.graph) × (u.arcs ≡ t.arcs)
walk_is t u h = by_order (walk_order u t) refl h
  where
    by_order : (o : Ordering) → walk_order u t ≡ o → ◌≤◌ 1 (cond (is_eq o) 1 0) → (u.graph ≡ t.graph) × (u.arcs ≡ t.arcs)
    by_order Less e few = absurd (omega arith)
    by_order Equal e few = walk_order-Equal u t e
    by_order Greater e few = absurd (omega arith)

factor_counts : (n m : ℕ) → 1 ≤ n * m → 1 ≤ m
factor_counts n zero h = absurd (let z = mul-zero n in omega arith)
factor_counts n (suc m) h = omega arith

-- where every quantity stays, so does each walk that is taken at least once
pub walks_kept : (old new : Plan) → KeepsQuantities old new → KeepsWalks old new
walks_kept old new same k below some =
    let t = taken_at old.paths k in
    let f : Taken → ℕ = λ u. u.count * same_walk t u.graph u.arcs in
    let own : same_walk t t.graph t.arcs ≡ 1 = itself t in
    let here : f t ≡ t.count = ap (λ (n : ℕ). t.count * n) own ∙ mul-one t.count in
    let sum = get_or-le-sum_by f old.paths k none below in
    let found = some_counts f new.paths (omega (arith, sum, here, some, same (same_walk t))) in
    let there = taken_at new.paths found.0 in
    let equal = walk_is t there (factor_counts there.count (same_walk t there.graph there.arcs) found.2) in
    (found.0, found.1, equal.0, equal.1)
