-- The arcs out of a vertex.
use Rattle.std.proofs.Common.{◌≡◌, ◌≢◌, ◌==◌, ℕ, zero, suc, ◌<◌, Bool, true, List, [], ◌∷◌, length, get_or, inl, inr, sym, ◌∙◌, ap, subst, arith}
use Rattle.std.specs.Prelude.{Contains, filter, slice_index}
use Rattle.std.specs.List.{AllPairs, range_with_len}
use Rattle.std.proofs.lemmas.Bool.{cases_Bool, cond-false, cond-true, eq-eqb}
use Rattle.std.proofs.lemmas.List.{get_or_default}
use Rattle.std.proofs.lemmas.List.FromFn.{get_or-range_with_len, length-range_with_len}
use Rattle.std.proofs.lemmas.List.Kept.{AllPairs-filter}
use Rattle.path_graph.specs.declared.parts.GraphArc.{GraphArc}
use Rattle.path_graph.specs.Parts.{arc_at, arcs_from}
use Rattle.proof_rules.proofs.WalkListLemmas.{contains_more}

-- what passes the test is kept
pub kept_at : (test : ℕ → Bool) (xs : List ℕ) (x k : ℕ) → test x ≡ true → k < length xs → get_or xs k x ≡ x → Contains (filter test xs) x
kept_at test [] x k passes l e = absurd (omega (arith, l))
kept_at test (y ∷ ys) x zero passes l e =
    let kept : filter test (y ∷ ys) ≡ y ∷ filter test ys = cond-true (test y) (y ∷ filter test ys) (filter test ys) (ap test e ∙ passes) in
    subst (λ (zs : List ℕ). Contains zs x) (sym kept) (0, omega arith, e)
kept_at test (y ∷ ys) x (suc k) passes l e =
    let more = kept_at test ys x k passes (omega (arith, l)) e in
    elim (cases_Bool (test y)) [
      | inl t ↦ subst (λ (zs : List ℕ). Contains zs x) (sym (cond-true (test y) (y ∷ filter test ys) (filter test ys) t)) (contains_more y (filter test ys) x more)
      | inr f ↦ subst (λ (zs : List ℕ). Contains zs x) (sym (cond-false (test y) (y ∷ filter test ys) (filter test ys) f)) more
    ]

-- each arc that leaves the vertex is one of them
pub arc_among : (arcs : List GraphArc) (v a : ℕ) → a < length arcs → (arc_at arcs a).tail ≡ v → (k : ℕ) × (k < length (arcs_from arcs v)) × (slice_index (arcs_from arcs v) k ≡ a)
arc_among arcs v a there leaves =
    let size = length-range_with_len 0 (length arcs) in
    let at = get_or-range_with_len 0 (length arcs) a a there in
    let found = kept_at (λ b. (arc_at arcs b).tail == v) (range_with_len 0 (length arcs)) a a (eq-eqb (arc_at arcs a).tail v leaves) (omega (arith, there, size)) (omega (arith, at)) in
    (found.0, found.1, get_or_default (arcs_from arcs v) found.0 0 a found.1 ∙ found.2)

-- their numbers rise, so no two are equal
arcs_rise : (arcs : List GraphArc) (v : ℕ) → AllPairs (λ x y. x < y) (arcs_from arcs v)
arcs_rise arcs v =
    AllPairs-filter (λ x y. x < y) (λ a. (arc_at arcs a).tail == v) (range_with_len 0 (length arcs)) (λ i j d less l.
    let size = length-range_with_len 0 (length arcs) in
    let first = get_or-range_with_len 0 (length arcs) i d (omega (arith, less, l, size)) in
    let second = get_or-range_with_len 0 (length arcs) j d (omega (arith, l, size)) in
    omega (arith, less, first, second))

pub arcs_differ : (arcs : List GraphArc) (v i j : ℕ) → i < j → j < length (arcs_from arcs v) → slice_index (arcs_from arcs v) i ≢ slice_index (arcs_from arcs v) j
arcs_differ arcs v i j less l same = let up = arcs_rise arcs v i j 0 less l in omega (arith, up, same)
