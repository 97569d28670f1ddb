-- Lemmas on visits along arcs.
use Rattle.std.proofs.Common.{◌≡◌, ℕ, ◌+◌, List, [], ◌∷◌, ◌++◌, cond, Option, refl, ap}
use Rattle.std.proofs.lemmas.List.Sums.{sum_by-cons, sum_by-append}
use Rattle.path_graph.specs.Walk.{GraphParts}
use Rattle.path_graph.specs.Visits.{visit_over, visits_along, is_visit, visit_count}

-- the visits along arcs one after another
pub visits_along-append : (g : GraphParts) (xs ys : List ℕ) → visits_along g (xs ++ ys) ≡ visits_along g xs ++ visits_along g ys
visits_along-append g [] ys = refl
visits_along-append g (a ∷ xs) ys = ap (λ (rest : List (Option ℕ)). visit_over g a ∷ rest) (visits_along-append g xs ys)

pub visit_count-cons : (s : ℕ) (visit : Option ℕ) (rest : List (Option ℕ)) → visit_count s (visit ∷ rest) ≡ cond (is_visit s visit) 1 0 + visit_count s rest
visit_count-cons s visit rest = sum_by-cons (λ (v : Option ℕ). cond (is_visit s v) 1 0) visit rest

pub visit_count-append : (s : ℕ) (xs ys : List (Option ℕ)) → visit_count s (xs ++ ys) ≡ visit_count s xs + visit_count s ys
visit_count-append s xs ys = sum_by-append (λ (v : Option ℕ). cond (is_visit s v) 1 0) xs ys
