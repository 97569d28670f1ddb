-- What labels cost.
use Rattle.std.proofs.Common.{◌≡◌, ◌==◌, ◌<◌, Bool, true, false, ℕ, ◌<◌, ℤ, pos, negsuc, ◌+ℤ◌, ◌*ℤ◌, Option, None, Some, List, [], ◌∷◌, get_or, refl, sym, ◌∙◌, ap, arith}
use Rattle.std.specs.Prelude.{All, IfSome, sum_by, if◌then◌else◌}
use Rattle.std.proofs.Math.IntN.{zero-*ℤ}
use Rattle.std.proofs.lemmas.Int.{ints}
use Rattle.std.proofs.lemmas.List.Elements.{All-head, All-tail, All-map}
use Rattle.std.proofs.lemmas.List.Sums.{sum_by-cons}
use Rattle.path_graph.specs.Sums.{sum_below, sum_over}
use Rattle.path_graph.specs.Visits.{visits_along, is_visit}
use Rattle.path_graph.proofs.IntLemmas.{add-mul_z}
use Rattle.path_graph.proofs.SumLemmas.{sum_below-same, sum_below-add, sum_below-zero, sum_below-pick}
use Rattle.rank1_cuts.specs.Visits.{coef_of, rises_from}
use Rattle.label_rules.specs.Costs.{LabelCostLaw, UnitCostLaw}
use Rattle.label_rules.specs.Labels.{Forward, Setting, cut_at, forward_label, root, state_at, visit_cost, visit_of}
use Rattle.label_rules.proofs.CostLemmas.{plain, seen, forward_cost, root_state}
use Rattle.label_rules.proofs.ChargeLemmas.{charges, charges-same}

-- the costs of arcs and of visits apart
plain_parts : (S : Setting) (arcs : List ℕ) → plain Forward S arcs ≡ sum_over S.arc_cost arcs +ℤ sum_over (visit_cost S) (visits_along S.graph arcs)
plain_parts S [] = refl
plain_parts S (a ∷ rest) =
    let more = plain_parts S rest in
    omega (arith, ints, more)

seen_sets : (S : Setting) (arcs : List ℕ) → seen Forward S arcs ≡ visits_along S.graph arcs
seen_sets S [] = refl
seen_sets S (a ∷ rest) = ap (λ (xs : List (Option ℕ)). (visit_of Forward S a).set ∷ xs) (seen_sets S rest)

label_cost : (S : Setting) (arcs : List ℕ) → (forward_label S arcs).cost
    ≡ ((S.start +ℤ sum_over S.arc_cost arcs) +ℤ sum_over (visit_cost S) (visits_along S.graph arcs)) +ℤ charges S (λ i. coef_of (cut_at S i) (visits_along S.graph arcs))
label_cost S arcs =
    let cost = forward_cost S (root Forward S) arcs in
    let parts = plain_parts S arcs in
    let same = charges-same S (λ i. rises_from (cut_at S i) (state_at (root Forward S) i) (seen Forward S arcs)) (λ i. coef_of (cut_at S i) (visits_along S.graph arcs))
    (λ i below. ap (λ (s : ℕ). rises_from (cut_at S i) s (seen Forward S arcs)) (root_state Forward S i) ∙ ap (coef_of (cut_at S i)) (seen_sets S arcs)) in
    omega (arith, ints, cost, parts, same)

pub label_cost_law : LabelCostLaw
label_cost_law S arcs = label_cost S arcs

-- once a number, or not
times_one_if : (b : Bool) (k : ℤ) → pos (if b then 1 else 0) *ℤ k ≡ (if b then k else pos 0)
times_one_if true (pos b) = ap pos (omega arith)
times_one_if true (negsuc b) = omega (arith, ints)
times_one_if false k = zero-*ℤ k

sum_below-none : (n : ℕ) (f : ℕ → ℤ) → ((i : ℕ) → i < n → f i ≡ pos 0) → sum_below n f ≡ pos 0
sum_below-none n f e = sum_below-same n f (λ i. pos 0) e ∙ sum_below-zero n

-- terms that are sums over units sum up to the units, each so often as all use it
by_units : {X : Type 0} (n : ℕ) (uses : ℕ → X → ℕ) (cost : ℕ → ℤ) (term : X → ℤ) (xs : List X) → All (λ x. term x ≡ sum_below n (λ j. pos (uses j x) *ℤ cost j)) xs
    → sum_over term xs ≡ sum_below n (λ j. pos (sum_by (uses j) xs) *ℤ cost j)
by_units n uses cost term [] each = sym (sum_below-none n (λ j. pos 0 *ℤ cost j) (λ j l. zero-*ℤ (cost j)))
by_units {X} n uses cost term (x ∷ xs) each =
    let here : term x ≡ sum_below n (λ j. pos (uses j x) *ℤ cost j) = All-head (λ y. term y ≡ sum_below n (λ j. pos (uses j y) *ℤ cost j)) x xs each in
    let more = by_units n uses cost term xs (All-tail (λ y. term y ≡ sum_below n (λ j. pos (uses j y) *ℤ cost j)) x xs each) in
    let both : sum_below n (λ j. pos (sum_by (uses j) (x ∷ xs)) *ℤ cost j) ≡ sum_below n (λ j. (pos (uses j x) *ℤ cost j) +ℤ (pos (sum_by (uses j) xs) *ℤ cost j)) =
    sum_below-same n _ _ (λ j l. ap (λ (m : ℕ). pos m *ℤ cost j) (sum_by-cons (uses j) x xs) ∙ add-mul_z (pos (uses j x)) (pos (sum_by (uses j) xs)) (cost j)) in
    let apart = sum_below-add n (λ j. pos (uses j x) *ℤ cost j) (λ j. pos (sum_by (uses j) xs) *ℤ cost j) in
    omega (arith, ints, here, more, both, apart)

-- of all sets a visit has its own alone
abbrev pub entry : ℕ → Option ℕ → ℕ
entry s v = if is_visit s v then 1 else 0

one_set : (n t : ℕ) (cost : ℕ → ℤ) → t < n → sum_below n (λ s. pos (entry s (Some t)) *ℤ cost s) ≡ cost t
one_set n t cost l =
    sum_below-same n (λ s. pos (entry s (Some t)) *ℤ cost s) (λ s. if t == s then cost s else pos 0) (λ s below. times_one_if (t == s) (cost s))
    ∙ sum_below-pick cost t n l

visit_by_sets : (S : Setting) (n : ℕ) (v : Option ℕ) → IfSome v (λ s. s < n) → visit_cost S v ≡ sum_below n (λ s. pos (entry s v) *ℤ S.set_cost s)
visit_by_sets S n None small = sym (sum_below-none n (λ s. pos 0 *ℤ S.set_cost s) (λ s l. zero-*ℤ (S.set_cost s)))
visit_by_sets S n (Some t) small = sym (one_set n t S.set_cost small)

put_in : (a b c d e f : ℤ) → b ≡ c → d ≡ e → ((a +ℤ b) +ℤ d) +ℤ f ≡ ((a +ℤ c) +ℤ e) +ℤ f
put_in a b c d e f p q = cc

pub unit_cost_law : UnitCostLaw
unit_cost_law S units uses cost sets arcs by =
    let label = label_cost S arcs in
    let on_arcs = by_units units uses cost S.arc_cost arcs (λ k d l. by.arcs (get_or arcs k d)) in
    let on_sets = by_units sets entry S.set_cost (visit_cost S) (visits_along S.graph arcs)
    (All-map (λ (v : Option ℕ). visit_cost S v ≡ sum_below sets (λ s. pos (entry s v) *ℤ S.set_cost s)) (λ (a : ℕ). (visit_of Forward S a).set) arcs
    (λ k d l. visit_by_sets S sets (visit_of Forward S (get_or arcs k d)).set (by.visits (get_or arcs k d)))) in
    label ∙ put_in S.start (sum_over S.arc_cost arcs) _ (sum_over (visit_cost S) (visits_along S.graph arcs)) _ _ on_arcs on_sets
