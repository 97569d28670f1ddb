-- A solution that costs less than the cost to beat is found, tidied.
use Rattle.std.proofs.Common.{◌≡◌, ℕ, ◌*◌, ◌<◌, ◌≤◌, ◌==◌, ℤ, Bool, true, false, Some, [], length, get_or, inl, inr, sym, subst, ◌∙◌, arith, refl}
use Rattle.std.specs.Prelude.{if◌then◌else◌}
use lib.Signed.{◌<ℤ◌}
use Rattle.std.proofs.lemmas.Bool.{cases_lt}
use Rattle.std.proofs.lemmas.Bool.Decides.{nat_tests}
use Rattle.std.proofs.lemmas.List.{get_or_default}
use Rattle.std.proofs.lemmas.List.Sums.{sum_by-le}
use Rattle.route_model.specs.declared.plan.Plan.{Plan}
use Rattle.route_model.specs.declared.plan.Taken.{Taken}
use Rattle.route_model.specs.declared.plan.Verdict.{Verdict}
use Rattle.route_model.specs.declared.plan.Verdict.TheVariants.{Fine, NotWalk, Count, Packing, VarBox, RowBox}
use Rattle.route_model.specs.Fit.{ModelFits}
use Rattle.route_model.specs.Parts.{ModelParts, graph_in, taken_at}
use Rattle.route_model.specs.Quantities.{cost_of, is_of}
use Rattle.route_model.specs.Solution.{IsSolution}
use Rattle.route_model.specs.Tidy.{AllComeFrom, AreFew, IsTidy, KeepsQuantities}
use Rattle.route_model.specs.Verdicts.{IsVerdict}
use Rattle.route_model.proofs.SolutionLemmas.{cost_of-kept, solution_kept}
use Rattle.count_trees.specs.Rounds.{IsFoundBelow}

-- a path of another graph
apart : (count graph g : ℕ) → graph < g → count * (if graph == g then 1 else 0) ≤ 0
apart count graph g less = by_test (graph == g) (let other : (graph == g) ≡ false = grind (arith, nat_tests) in other)
  where
    by_test : (b : Bool) → b ≡ false → count * (if b then 1 else 0) ≤ 0
    by_test true other = cc
    by_test false other = omega arith

-- a solution has few paths of each graph, and none of a graph that is not there
abbrev no_path : Taken
no_path = taken_at [] 0

pub solution_few : (m : ModelParts) (plan : Plan) → ModelFits m → IsSolution m plan → AreFew plan
solution_few m plan fits solution g = elim (cases_lt g (length m.graphs)) [
  | inl inside ↦ omega (arith, (solution.counts g inside).1, (fits.graphs.each g (graph_in [] 0) inside).graph.fits.ends_fit.most_paths)
  | inr past ↦ omega (
    arith,
    sum_by-le (λ (t : Taken). t.count * is_of g t.graph t.arcs) 0 plan.paths
        (λ k d below.
        let path = subst (λ (t : Taken). t.graph < length m.graphs) (get_or_default plan.paths k no_path d below) (solution.paths k below).graph in
        apart (get_or plan.paths k d).count (get_or plan.paths k d).graph g (omega (arith, path, past))),
  )
]

-- a verdict that is not fine is on no solution
pub none_fine : (v : Verdict) (m : ModelParts) (plan : Plan) → ((cost : ℤ) → ¬ (v ≡ Fine cost)) → IsVerdict m plan v → ¬ (IsSolution m plan)
none_fine (Fine cost) m plan other is solution = other cost refl
none_fine (NotWalk i) m plan other is solution = is.fails (solution.paths i is.within)
none_fine (Count g) m plan other is solution = is.1.fails (solution.counts g is.1.within)
none_fine (Packing s) m plan other is solution = is.2.fails (solution.sets s is.2.within)
none_fine (VarBox j) m plan other is solution = is.3.fails (solution.vars j is.3.within)
none_fine (RowBox i) m plan other is solution = is.4.fails (solution.rows i is.4.within)

pub found_in : (m : ModelParts) (z cost : ℤ) (plan tidied : Plan) → IsSolution m plan → cost ≡ cost_of m plan → cost <ℤ z → IsTidy tidied → KeepsQuantities plan tidied → AllComeFrom plan tidied
    → IsFoundBelow m z plan (Some (record { cost = cost; plan = tidied }))
found_in m z cost plan tidied solution is less tidy keeps comes =
    ((solution_kept m plan tidied keeps comes solution, tidy, cost_of-kept m plan tidied keeps ∙ sym is, less), sym is)
