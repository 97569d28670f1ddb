-- A solution keeps each cut that fits: its walks visit no packing set twice.
use Rattle.std.proofs.Common.{◌≡◌, ℕ, suc, ◌*◌, ◌<◌, ◌≤◌, List, [], ◌∷◌, length, map, Bool, false, cond, Option, None, Some, All, refl, ap, arith, inl, inr}
use Rattle.std.specs.Prelude.{IfSome}
use Rattle.std.proofs.lemmas.Bool.{cases_lt}
use Rattle.std.proofs.lemmas.Bool.Decides.{nat_tests}
use Rattle.std.proofs.lemmas.List.{get_or_past}
use Rattle.std.proofs.lemmas.List.Sums.{sum_by-cons}
use Rattle.path_graph.specs.declared.parts.Vertex.{Vertex}
use Rattle.path_graph.specs.First.{EachBelow}
use Rattle.path_graph.specs.Fit.{vertex_at}
use Rattle.path_graph.specs.Visits.{is_visit, visit_count, visit_over, visits_along}
use Rattle.path_graph.specs.Walk.{GraphParts, arc_at}
use Rattle.rank1_cuts.specs.declared.cut.Cut.{Cut}
use Rattle.rank1_cuts.specs.Fit.{CutFits, right_side_of}
use Rattle.rank1_cuts.specs.Solutions.{TakenWalk, VisitEachOnce, coef_in, visits_in as visits_of_walks}
use Rattle.rank1_cuts.specs.Visits.{coef_of}
use Rattle.rank1_cuts.proofs.SolutionLemmas.{solution_keeps}
use Rattle.route_model.specs.declared.plan.Plan.{Plan}
use Rattle.route_model.specs.declared.plan.Taken.{Taken}
use Rattle.route_model.specs.Fit.{IsDeclared, ModelFits}
use Rattle.route_model.specs.Parts.{ModelParts, graph_in, plan_with, taken_at}
use Rattle.route_model.specs.Quantities.{quantity, visits_in}
use Rattle.route_model.specs.Solution.{IsPath, IsSolution}

-- the walks of paths, by their visits
abbrev walks_of : List GraphParts → List Taken → List TakenWalk
walks_of graphs paths = map (λ t. (t.count, visits_along (graph_in graphs t.graph) t.arcs)) paths

visits_of_walks-is : (m : ModelParts) (s : ℕ) (paths : List Taken) → visits_of_walks (walks_of m.graphs paths) s ≡ quantity (visits_in m.graphs s) (plan_with paths)
visits_of_walks-is m s [] = refl
visits_of_walks-is m s (t ∷ paths) =
    let walks = sum_by-cons (λ (w : TakenWalk). w.0 * visit_count s w.1) (t.count, visits_along (graph_in m.graphs t.graph) t.arcs) (walks_of m.graphs paths) in
    let taken = sum_by-cons (λ (u : Taken). u.count * visits_in m.graphs s u.graph u.arcs) t paths in
    omega (arith, walks, taken, visits_of_walks-is m s paths)

coef_in-is : (m : ModelParts) (cut : Cut) (paths : List Taken) → coef_in cut (walks_of m.graphs paths) ≡ quantity (λ g arcs. coef_of cut (visits_along (graph_in m.graphs g) arcs)) (plan_with paths)
coef_in-is m cut [] = refl
coef_in-is m cut (t ∷ paths) =
    let walks = sum_by-cons (λ (w : TakenWalk). w.0 * coef_of cut w.1) (t.count, visits_along (graph_in m.graphs t.graph) t.arcs) (walks_of m.graphs paths) in
    let taken = sum_by-cons (λ (u : Taken). u.count * coef_of cut (visits_along (graph_in m.graphs u.graph) u.arcs)) t paths in
    omega (arith, walks, taken, coef_in-is m cut paths)

-- no arc enters a set that is not declared
never_visited : (sets s : ℕ) (v : Option ℕ) → sets ≤ s → IfSome v (λ i. i < sets) → is_visit s v ≡ false
never_visited sets s None past below = refl
never_visited sets s (Some i) past below = grind (arith, nat_tests)

pub no_set_past : (vertices : List Vertex) (sets v : ℕ) → All (IsDeclared sets) vertices → IfSome (vertex_at vertices v).set (λ i. i < sets)
no_set_past vertices sets v declared =
    elim (cases_lt v (length vertices)) [
      | inl inside ↦ declared v _ inside
      | inr past ↦ rw (get_or_past vertices v (record { set = None; windows = [] }) past) tt
    ]

pub visits_none : (g : GraphParts) (sets s : ℕ) (arcs : List ℕ) → All (IsDeclared sets) g.vertices → sets ≤ s → visit_count s (visits_along g arcs) ≡ 0
visits_none g sets s [] declared past = refl
visits_none g sets s (a ∷ arcs) declared past =
    let visits = sum_by-cons (λ (x : Option ℕ). cond (is_visit s x) 1 0) (visit_over g a) (visits_along g arcs) in
    let here = ap (λ (b : Bool). let n : ℕ = cond b 1 0 in n) (never_visited sets s (visit_over g a) past (no_set_past g.vertices sets (arc_at g.arcs a).head declared)) in
    omega (arith, visits, here, visits_none g sets s arcs declared past)

visits_of_walks-none : (m : ModelParts) (s : ℕ) (paths : List Taken) → ModelFits m → m.sets ≤ s → EachBelow (length paths) (λ i. IsPath m (taken_at paths i)) → quantity (visits_in m.graphs s) (plan_with paths) ≡ 0
visits_of_walks-none m s [] fits past each = refl
visits_of_walks-none m s (t ∷ paths) fits past each =
    let g = graph_in m.graphs t.graph in
    let path : IsPath m t = each 0 (omega arith) in
    let taken = sum_by-cons (λ (u : Taken). u.count * visits_in m.graphs s u.graph u.arcs) t paths in
    let here = ap (λ (n : ℕ). t.count * n) (visits_none g m.sets s t.arcs (fits.graphs.each t.graph _ path.graph).declared past) in
    omega (arith, taken, here, visits_of_walks-none m s paths fits past (λ k l. each (suc k) (omega arith)))

-- the walks of a solution visit no packing set twice
visit_each_once : (m : ModelParts) (plan : Plan) → ModelFits m → IsSolution m plan → VisitEachOnce (walks_of m.graphs plan.paths)
visit_each_once m plan fits solution s =
    elim (cases_lt s m.sets) [
      | inl inside ↦ omega (arith, visits_of_walks-is m s plan.paths, solution.sets s inside)
      | inr past ↦ omega (arith, visits_of_walks-is m s plan.paths, visits_of_walks-none m s plan.paths fits past solution.paths)
    ]

-- so they keep a cut that fits, whatever its memory
pub cut_kept : (m : ModelParts) (cut : Cut) (plan : Plan) → ModelFits m → CutFits cut → IsSolution m plan
    → quantity (λ g arcs. coef_of cut (visits_along (graph_in m.graphs g) arcs)) plan ≤ right_side_of cut
cut_kept m cut plan fits cut_fits solution =
    omega (arith, coef_in-is m cut plan.paths, solution_keeps cut (walks_of m.graphs plan.paths) cut_fits (visit_each_once m plan fits solution))
