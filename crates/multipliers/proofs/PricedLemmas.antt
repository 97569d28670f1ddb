-- The reduced cost of a walk is what its start, its arcs, its visits and its cuts cost.
use Rattle.std.proofs.Common.{◌≡◌, ℕ, suc, ◌+◌, ◌<◌, ◌≤◌, ◌==◌, ◌||◌, ℤ, pos, neg_ℤ, ◌+ℤ◌, ◌-ℤ◌, ◌*ℤ◌, Bool, true, false, Option, None, Some, List, [], ◌∷◌, length, All, refl, sym, ◌∙◌, ap, subst, arith}
use Rattle.std.specs.Prelude.{count_by, if◌then◌else◌, slice_index, slice_index_or, IfSome}
use Rattle.std.specs.List.{list_any}
use Rattle.std.proofs.lemmas.Bool.Decides.{nat_tests}
use Rattle.std.proofs.lemmas.Int.{ints}
use Rattle.std.proofs.lemmas.List.Sums.{sum_by-cons}
use lib.IntN.{*ℤ-zero}
use Rattle.path_graph.specs.Sums.{sum_below, sum_over}
use Rattle.path_graph.specs.Fit.{int_at}
use Rattle.path_graph.proofs.SumLemmas.{sum_below-same, sum_below-add, sum_below-exchange, sum_below-pick, sum_below-scale, sum_below-scale_right, sum_below-swap, sum_below-zero, sum_over-add, sum_over-append, sum_over-range}
use Rattle.path_graph.specs.Walk.{GraphParts, Leads, arc_at}
use Rattle.rank1_cuts.specs.declared.cut.Cut.{Cut}
use Rattle.route_model.specs.declared.parts.RowTerm.{RowTerm}
use Rattle.route_model.specs.Fit.{Ascends, IsDeclared, ModelFits, TermFits}
use Rattle.route_model.specs.Parts.{ModelParts, graph_in, mapped_vars, row_at, term_at, var_at}
use Rattle.route_model.specs.Quantities.{is_mapped, uses_in}
use Rattle.route_model.specs.declared.multipliers.Mult.{Mult}
use Rattle.route_model.specs.declared.multipliers.Quantity.{Quantity}
use Rattle.route_model.specs.declared.multipliers.Quantity.TheVariants.{Var as OfVar, Row as OfRow, Set as OfSet, Cut as OfCut, Paths as OfPaths}
use Rattle.multipliers.specs.Priced.{arc_cost, arcs_cost, coef_in, cuts_cost, reduced_unit, rows_worth, start_cost, visit_mult}
use Rattle.multipliers.specs.Quantities.{amount, cost_along, mult_at, quantities, reduced_cost, row_along, scaled}
use Rattle.path_graph.specs.Visits.{is_visit, visit_count, visit_over, visits_along}
use Rattle.multipliers.proofs.CutLemmas.{no_set_past}
use Rattle.path_graph.proofs.IntLemmas.{add-mul_z, choice_times, mul_z-add, mul_z_assoc, neg_times, times_choice, times_either}

-- a sum over the quantities is one sum for each kind
pub over_quantities : (m : ModelParts) (cuts : List Cut) (f : Quantity → ℤ) → sum_over f (quantities m cuts)
    ≡ sum_below (length m.vars) (λ j. f (OfVar j)) +ℤ (sum_below (length m.rows) (λ i. f (OfRow i)) +ℤ (sum_below m.sets (λ s. f (OfSet s))
    +ℤ (sum_below (length cuts) (λ c. f (OfCut c)) +ℤ sum_below (length m.graphs) (λ g. f (OfPaths g)))))
over_quantities m cuts f =
    sum_over-append f _ _ ∙ (λ i. sum_over-range (λ j. OfVar j) f (length m.vars) i +ℤ
    (sum_over-append f _ _ ∙ (λ i. sum_over-range (λ j. OfRow j) f (length m.rows) i +ℤ
    (sum_over-append f _ _ ∙ (λ i. sum_over-range (λ j. OfSet j) f m.sets i +ℤ
    (sum_over-append f _ _ ∙ (λ i. sum_over-range (λ j. OfCut j) f (length cuts) i +ℤ
    sum_over-range (λ j. OfPaths j) f (length m.graphs) i)) i)) i)) i)

-- sums of counts over a list are sums over the list
counts_over : {X : Type 0} (n : ℕ) (a : ℕ → ℤ) (test : ℕ → X → Bool) (xs : List X) → sum_below n (λ j. a j *ℤ pos (count_by (test j) xs)) ≡ sum_over (λ x. sum_below n (λ j. a j *ℤ pos (if test j x then 1 else 0))) xs
counts_over n a test [] = (λ i. sum_below n (λ j. *ℤ-zero (a j) i)) ∙ sum_below-zero n
counts_over {X} n a test (x ∷ xs) =
    (λ i. sum_below n (λ j. a j *ℤ pos (sum_by-cons (λ (y : X). if test j y then 1 else 0) x xs i)))
    ∙ ((λ i. sum_below n (λ j. mul_z-add (a j) (pos (if test j x then 1 else 0)) (pos (count_by (test j) xs)) i))
    ∙ (sum_below-add n (λ j. a j *ℤ pos (if test j x then 1 else 0)) (λ j. a j *ℤ pos (count_by (test j) xs))
    ∙ ap (λ (z : ℤ). sum_below n (λ j. a j *ℤ pos (if test j x then 1 else 0)) +ℤ z) (counts_over n a test xs)))

-- the variables of an arc, each of which it maps once
pub ascends_rest : (v : ℕ) (vars : List ℕ) → Ascends (λ j. j) (v ∷ vars) → Ascends (λ j. j) vars
ascends_rest v vars ascend k d below =
    let next : suc k + 1 ≡ suc (k + 1) = omega arith in
    subst (λ (i : ℕ). slice_index_or vars k d < slice_index_or (v ∷ vars) i d) next (ascend (suc k) d (omega arith))

pub apart_from : (w v : ℕ) (vars : List ℕ) → w ≤ v → Ascends (λ j. j) (v ∷ vars) → list_any (λ i. i == w) vars ≡ false
apart_from w v [] low ascend = refl
apart_from w v (x ∷ vars) low ascend =
    let more : v < x = ascend 0 0 (omega arith) in
    let no : (x == w) ≡ false = grind (arith, nat_tests) in
    let rest = apart_from w x vars (omega arith) (ascends_rest v (x ∷ vars) ascend) in
    λ i. no i || rest i

mapped_once : (n : ℕ) (u : ℕ → ℤ) (vars : List ℕ) → All (λ j. j < n) vars → Ascends (λ j. j) vars → sum_below n (λ j. u j *ℤ pos (if list_any (λ i. i == j) vars then 1 else 0)) ≡ sum_over u vars
mapped_once n u [] declared ascend = (λ i. sum_below n (λ j. *ℤ-zero (u j) i)) ∙ sum_below-zero n
mapped_once n u (v ∷ vars) declared ascend =
    (λ i. sum_below n (λ j. times_either (v == j) (list_any (λ x. x == j) vars) (u j) (λ same. apart j same) i))
    ∙ (sum_below-add n (λ j. if v == j then u j else pos 0) (λ j. u j *ℤ pos (if list_any (λ i. i == j) vars then 1 else 0))
    ∙ (λ i. sum_below-pick u v n (declared 0 0 (omega arith)) i +ℤ mapped_once n u vars (λ k d l. declared (suc k) d (omega arith)) (ascends_rest v vars ascend) i))
  where
    apart : (j : ℕ) → (v == j) ≡ true → list_any (λ x. x == j) vars ≡ false
    apart j same = let low : j ≤ v = grind (arith, nat_tests, same) in apart_from j v vars low ascend

arc_maps : (m : ModelParts) (u : ℕ → ℤ) (g a : ℕ) → ModelFits m → g < length m.graphs → a < length (graph_in m.graphs g).arcs
    → sum_below (length m.vars) (λ j. u j *ℤ pos (if is_mapped m.maps j g a then 1 else 0)) ≡ sum_over u (mapped_vars m.maps g a)
arc_maps m u g a fits inside below =
    let maps = fits.maps.each g inside in
    let map_fits = maps.each a [] (omega (arith, maps.arcs)) in
    mapped_once (length m.vars) u (mapped_vars m.maps g a) map_fits.each map_fits.ascend

pub uses_over : (m : ModelParts) (u : ℕ → ℤ) (g v w : ℕ) (arcs : List ℕ) → ModelFits m → g < length m.graphs → Leads (graph_in m.graphs g) v arcs w
    → sum_below (length m.vars) (λ j. u j *ℤ pos (uses_in m.maps j g arcs)) ≡ sum_over (λ a. sum_over u (mapped_vars m.maps g a)) arcs
uses_over m u g v w arcs fits inside leads = counts_over (length m.vars) u (λ j. is_mapped m.maps j g) arcs ∙ each v w arcs leads
  where
    each : (x y : ℕ) (xs : List ℕ) → Leads (graph_in m.graphs g) x xs y → sum_over (λ a. sum_below (length m.vars) (λ j. u j *ℤ pos (if is_mapped m.maps j g a then 1 else 0))) xs ≡ sum_over (λ a. sum_over u (mapped_vars m.maps g a)) xs
    each x y [] on = refl
    each x y (a ∷ xs) on = λ i. arc_maps m u g a fits inside on.0 i +ℤ each (arc_at (graph_in m.graphs g).arcs a).head y xs on.2 i

-- the visits of arcs
visit_picks : (mult : Mult) (n : ℕ) (visit : Option ℕ) → IfSome visit (λ s. s < n) → sum_below n (λ s. int_at mult.sets s *ℤ pos (if is_visit s visit then 1 else 0)) ≡ visit_mult mult visit
visit_picks mult n None inside = (λ i. sum_below n (λ s. *ℤ-zero (int_at mult.sets s) i)) ∙ sum_below-zero n
visit_picks mult n (Some set) inside =
    (λ i. sum_below n (λ s. times_choice (set == s) (int_at mult.sets s) i)) ∙ sum_below-pick (int_at mult.sets) set n inside

visits_over : (m : ModelParts) (mult : Mult) (g : ℕ) (arcs : List ℕ) → All (IsDeclared m.sets) (graph_in m.graphs g).vertices
    → sum_below m.sets (λ s. int_at mult.sets s *ℤ pos (visit_count s (visits_along (graph_in m.graphs g) arcs))) ≡ sum_over (λ a. visit_mult mult (visit_over (graph_in m.graphs g) a)) arcs
visits_over m mult g arcs declared = counts_over m.sets (int_at mult.sets) is_visit (visits_along graph arcs) ∙ each arcs
  where
    graph : GraphParts
    graph = graph_in m.graphs g

    each : (xs : List ℕ) → sum_over (λ v. sum_below m.sets (λ s. int_at mult.sets s *ℤ pos (if is_visit s v then 1 else 0))) (visits_along graph xs) ≡ sum_over (λ a. visit_mult mult (visit_over graph a)) xs
    each [] = refl
    each (a ∷ xs) = λ i. visit_picks mult m.sets (visit_over graph a) (no_set_past graph.vertices m.sets (arc_at graph.arcs a).head declared) i +ℤ each xs i

-- a row's part is the sum of its coefficients
pub row_over : (m : ModelParts) (terms : List RowTerm) (g : ℕ) (arcs : List ℕ) → All (TermFits (length m.vars)) terms
    → row_along m terms g arcs ≡ sum_below (length m.vars) (λ j. coef_in terms j *ℤ pos (uses_in m.maps j g arcs))
row_over m terms g arcs declared =
    let n : ℕ = length m.vars in
    let used : ℕ → ℤ = λ j. pos (uses_in m.maps j g arcs) in
    let coef : ℕ → ℤ = λ k. (term_at terms k).coef in
    let var : ℕ → ℕ = λ k. (term_at terms k).var in
    sum_below-same (length terms) (λ k. coef k *ℤ used (var k)) (λ k. sum_below n (λ j. (if var k == j then coef k else pos 0) *ℤ used j))
    (λ k l. sym ((λ i. sum_below n (λ j. choice_times (var k == j) (coef k) (used j) i)) ∙ sum_below-pick (λ j. coef k *ℤ used j) (var k) n (declared k _ l).var))
    ∙ (sum_below-swap (length terms) n (λ k j. (if var k == j then coef k else pos 0) *ℤ used j)
    ∙ (λ i. sum_below n (λ j. sum_below-scale_right (length terms) (λ k. if var k == j then coef k else pos 0) (used j) i)))

rows_over : (m : ModelParts) (mult : Mult) (g : ℕ) (arcs : List ℕ) → ModelFits m
    → sum_below (length m.rows) (λ i. int_at mult.rows i *ℤ row_along m (row_at m.rows i).terms g arcs) ≡ sum_below (length m.vars) (λ j. rows_worth m mult j *ℤ pos (uses_in m.maps j g arcs))
rows_over m mult g arcs fits =
    let used : ℕ → ℤ = λ j. pos (uses_in m.maps j g arcs) in
    sum_below-same (length m.rows) (λ i. int_at mult.rows i *ℤ row_along m (row_at m.rows i).terms g arcs) (λ i. int_at mult.rows i *ℤ sum_below (length m.vars) (λ j. coef_in (row_at m.rows i).terms j *ℤ used j))
    (λ i l. ap (λ (x : ℤ). int_at mult.rows i *ℤ x) (row_over m (row_at m.rows i).terms g arcs (fits.rows.each i _ l).each))
    ∙ sum_below-exchange (int_at mult.rows) (λ i j. coef_in (row_at m.rows i).terms j) used (length m.rows) (length m.vars)

-- the cost of a walk is what its variables, its rows and its units cost
cost_over : (m : ModelParts) (mult : Mult) (g : ℕ) (arcs : List ℕ) → scaled (cost_along m g arcs)
    ≡ (sum_below (length m.vars) (λ j. int_at mult.vars j *ℤ pos (uses_in m.maps j g arcs)) +ℤ sum_below (length m.vars) (λ j. rows_worth m mult j *ℤ pos (uses_in m.maps j g arcs)))
    +ℤ sum_below (length m.vars) (λ j. reduced_unit m mult j *ℤ pos (uses_in m.maps j g arcs))
cost_over m mult g arcs =
    let n : ℕ = length m.vars in
    let used : ℕ → ℤ = λ j. pos (uses_in m.maps j g arcs) in
    let cost : ℕ → ℤ = λ j. (var_at m.vars j).cost in
    let var : ℕ → ℤ = int_at mult.vars in
    let rows : ℕ → ℤ = rows_worth m mult in
    sym (sum_below-scale (pos 65536) n (λ j. cost j *ℤ used j))
    ∙ ((λ i. sum_below n (λ j. split (scaled (cost j)) (var j) (rows j) (used j) (mul_z_assoc (pos 65536) (cost j) (used j)) i))
    ∙ (sum_below-add n (λ j. var j *ℤ used j +ℤ rows j *ℤ used j) (λ j. reduced_unit m mult j *ℤ used j)
    ∙ ap (λ (z : ℤ). z +ℤ sum_below n (λ j. reduced_unit m mult j *ℤ used j)) (sum_below-add n (λ j. var j *ℤ used j) (λ j. rows j *ℤ used j))))
  where
    three : (c v r : ℤ) → c ≡ (v +ℤ r) +ℤ (c -ℤ v -ℤ r)
    three c v r = omega (arith, ints)

    split : (c v r x : ℤ) {p : ℤ} → p ≡ c *ℤ x → p ≡ (v *ℤ x +ℤ r *ℤ x) +ℤ (c -ℤ v -ℤ r) *ℤ x
    split c v r x e = e ∙ (ap (λ (y : ℤ). y *ℤ x) (three c v r) ∙ (add-mul_z (v +ℤ r) (c -ℤ v -ℤ r) x ∙ ap (λ (y : ℤ). y +ℤ (c -ℤ v -ℤ r) *ℤ x) (add-mul_z v r x)))

-- the arcs, with their visits
arcs_over : (m : ModelParts) (mult : Mult) (g : ℕ) (arcs : List ℕ)
    → sum_over (arc_cost m mult g) arcs ≡ arcs_cost m mult g arcs +ℤ sum_over (λ a. visit_mult mult (visit_over (graph_in m.graphs g) a)) arcs
arcs_over m mult g arcs =
    let met : ℕ → ℤ = λ a. visit_mult mult (visit_over (graph_in m.graphs g) a) in
    (λ i. sum_over (λ a. back (arc_cost m mult g a) (met a) i) arcs) ∙ sum_over-add (λ a. arc_cost m mult g a -ℤ met a) met arcs
  where
    back : (x y : ℤ) → x ≡ (x -ℤ y) +ℤ y
    back x y = omega (arith, ints)

-- the cuts, whose multipliers are their distances below 0
cuts_over : (m : ModelParts) (cuts : List Cut) (mult : Mult) (g : ℕ) (arcs : List ℕ)
    → sum_below (length cuts) (λ c. mult_at mult (OfCut c) *ℤ amount m cuts (OfCut c) g arcs) +ℤ cuts_cost m cuts mult g arcs ≡ pos 0
cuts_over m cuts mult g arcs =
    let y : ℕ → ℕ = slice_index mult.cuts in
    let coef : ℕ → ℤ = λ c. amount m cuts (OfCut c) g arcs in
    sym (sum_below-add (length cuts) (λ c. neg_ℤ (pos (y c)) *ℤ coef c) (λ c. pos (y c) *ℤ coef c))
    ∙ ((λ i. sum_below (length cuts) (λ c. neg_times (y c) (coef c) i)) ∙ sum_below-zero (length cuts))

start_over : (m : ModelParts) (cuts : List Cut) (mult : Mult) (g : ℕ) (arcs : List ℕ) → g < length m.graphs
    → sum_below (length m.graphs) (λ h. mult_at mult (OfPaths h) *ℤ amount m cuts (OfPaths h) g arcs) ≡ int_at mult.paths g
start_over m cuts mult g arcs inside =
    (λ i. sum_below (length m.graphs) (λ h. times_choice (g == h) (int_at mult.paths h) i)) ∙ sum_below-pick (int_at mult.paths) g (length m.graphs) inside

-- the reduced_cost cost of arcs that lead on, as of each partial walk
pub reduced_along : (m : ModelParts) (cuts : List Cut) (mult : Mult) (g v w : ℕ) (arcs : List ℕ) → ModelFits m → g < length m.graphs → Leads (graph_in m.graphs g) v arcs w
    → reduced_cost m cuts mult g arcs ≡ start_cost mult g +ℤ (arcs_cost m mult g arcs +ℤ cuts_cost m cuts mult g arcs)
reduced_along m cuts mult g v w arcs fits inside leads =
    joined _ _ _ _ _ _ _ _ _ _ _ _ _ _
    (cost_over m mult g arcs) (uses_over m (reduced_unit m mult) g v w arcs fits inside leads) (arcs_over m mult g arcs)
    (over_quantities m cuts (λ q. mult_at mult q *ℤ amount m cuts q g arcs)) (rows_over m mult g arcs fits)
    (visits_over m mult g arcs (fits.graphs.each g _ inside).declared) (cuts_over m cuts mult g arcs) (start_over m cuts mult g arcs inside)
  where
    joined : (cost units arcs met all vars rows rows_on sets sets_on cut cuts_on paths start : ℤ) → cost ≡ (vars +ℤ rows_on) +ℤ units → units ≡ arcs → arcs ≡ met +ℤ sets_on
        → all ≡ vars +ℤ (rows +ℤ (sets +ℤ (cut +ℤ paths))) → rows ≡ rows_on → sets ≡ sets_on → cut +ℤ cuts_on ≡ pos 0 → paths ≡ start → cost -ℤ all ≡ neg_ℤ start +ℤ (met +ℤ cuts_on)
    joined cost units arcs met all vars rows rows_on sets sets_on cut cuts_on paths start e f h j l o z n = omega (arith, ints)
