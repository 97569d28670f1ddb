-- A verdict tells whether a plan is a solution; and a solution has few paths.
use Rattle.std.proofs.Common.{◌≡◌, ◌==◌, ℕ, zero, suc, ◌+◌, ◌*◌, ◌<◌, ◌≤◌, ℤ, Bool, true, false, cond, List, [], ◌∷◌, length, refl, arith}
use Rattle.std.specs.Prelude.{All, count_by, sum_by, nat_lt}
use Rattle.std.proofs.lemmas.Bool.Decides.{nat_tests}
use Rattle.std.proofs.lemmas.List.Elements.{All-from_get_or, All-head, All-tail, All-weaker}
use Rattle.std.proofs.lemmas.List.Sums.{sum_by-cons}
use Rattle.path_graph.specs.First.{EachBelow}
use Rattle.route_model.specs.declared.plan.Plan.{Plan}
use Rattle.route_model.specs.declared.plan.Taken.{Taken}
use Rattle.route_model.specs.declared.plan.Verdict.{Verdict}
use Rattle.route_model.specs.declared.plan.Verdict.TheVariants.{Fine, NotWalk, Count, Packing, VarBox, RowBox}
use Rattle.route_model.specs.Fit.{ModelFits}
use Rattle.route_model.specs.Parts.{ModelParts, graph_in}
use Rattle.route_model.specs.Quantities.{is_of, paths_of}
use Rattle.route_model.specs.Solution.{IsSolution}
use Rattle.route_model.specs.Verdicts.{IsCounted, IsVerdict}
use Rattle.model_text.specs.PathText.{PathFits, PlanFits}

-- a verdict that is not fine is on no solution
pub none_fine : (v : Verdict) (m : ModelParts) (plan : Plan) → ((cost : ℤ) → ¬ (v ≡ Fine cost)) → IsVerdict m plan v → ¬ (IsSolution m plan)
none_fine (Fine cost) m plan other is solution = other cost refl
none_fine (NotWalk i) m plan other is solution = is.fails (solution.paths i is.within)
none_fine (Count g) m plan other is solution = is.1.fails (solution.counts g is.1.within)
none_fine (Packing s) m plan other is solution = is.2.fails (solution.sets s is.2.within)
none_fine (VarBox j) m plan other is solution = is.3.fails (solution.vars j is.3.within)
none_fine (RowBox i) m plan other is solution = is.4.fails (solution.rows i is.4.within)

-- the paths of the graphs below n
one_more : (g n : ℕ) → cond (nat_lt g (suc n)) 1 0 ≤ cond (nat_lt g n) 1 0 + cond (g == n) 1 0
one_more g n = grind (arith, nat_tests)

below_more : (paths : List Taken) (n : ℕ) → count_by (λ (t : Taken). nat_lt t.graph (suc n)) paths ≤ count_by (λ (t : Taken). nat_lt t.graph n) paths + count_by (λ (t : Taken). t.graph == n) paths
below_more [] n = omega arith
below_more (t ∷ paths) n =
    omega (
      arith,
      one_more t.graph n,
      below_more paths n,
      sum_by-cons (λ (u : Taken). cond (nat_lt u.graph (suc n)) 1 0) t paths,
      sum_by-cons (λ (u : Taken). cond (nat_lt u.graph n) 1 0) t paths,
      sum_by-cons (λ (u : Taken). cond (u.graph == n) 1 0) t paths,
    )

one_path : (b : Bool) (n : ℕ) → 1 ≤ n → cond b 1 0 ≤ n * cond b 1 0
one_path true n some = omega arith
one_path false n some = omega arith

of_graph : (paths : List Taken) (g : ℕ) → All (λ (t : Taken). 1 ≤ t.count) paths → count_by (λ (t : Taken). t.graph == g) paths ≤ sum_by (λ (t : Taken). t.count * is_of g t.graph t.arcs) paths
of_graph [] g some = omega arith
of_graph (t ∷ paths) g some =
    let one : 1 ≤ t.count = All-head (λ (u : Taken). 1 ≤ u.count) t paths some in
    let here : cond (t.graph == g) 1 0 ≤ t.count * is_of g t.graph t.arcs = one_path (t.graph == g) t.count one in
    let more = of_graph paths g (All-tail (λ (u : Taken). 1 ≤ u.count) t paths some) in
    omega (arith, here, more, sum_by-cons (λ (u : Taken). cond (u.graph == g) 1 0) t paths, sum_by-cons (λ (u : Taken). u.count * is_of g u.graph u.arcs) t paths)

none_at : (g : ℕ) → ◌≡◌ {A = ℕ} (cond (nat_lt g 0) 1 0) 0
none_at g = grind (arith, nat_tests)

none_below : (paths : List Taken) → count_by (λ (t : Taken). nat_lt t.graph 0) paths ≡ 0
none_below [] = refl
none_below (t ∷ paths) = omega (arith, none_at t.graph, none_below paths, sum_by-cons (λ (u : Taken). cond (nat_lt u.graph 0) 1 0) t paths)

one_at : (g n : ℕ) → g < n → ◌≡◌ {A = ℕ} (cond (nat_lt g n) 1 0) 1
one_at g n below = grind (arith, nat_tests)

all_below : (paths : List Taken) (n : ℕ) → All (λ (t : Taken). t.graph < n) paths → count_by (λ (t : Taken). nat_lt t.graph n) paths ≡ length paths
all_below [] n each = refl
all_below (t ∷ paths) n each =
    omega (
      arith,
      one_at t.graph n (All-head (λ (u : Taken). u.graph < n) t paths each),
      all_below paths n (All-tail (λ (u : Taken). u.graph < n) t paths each),
      sum_by-cons (λ (u : Taken). cond (nat_lt u.graph n) 1 0) t paths,
    )

few_below : (plan : Plan) (n : ℕ) → All (λ (t : Taken). 1 ≤ t.count) plan.paths → EachBelow n (λ g. paths_of plan g ≤ 4096) → count_by (λ (t : Taken). nat_lt t.graph n) plan.paths ≤ n * 4096
few_below plan zero some each = omega (arith, none_below plan.paths)
few_below plan (suc n) some each =
    omega (arith, below_more plan.paths n, of_graph plan.paths n some, each n (omega arith), few_below plan n some (λ g l. each g (omega (arith, l))))

pub solution_few : (m : ModelParts) (plan : Plan) → ModelFits m → IsSolution m plan → length plan.paths ≤ length m.graphs * 4096
solution_few m plan fits solution =
    let none : Taken = record { graph = 0; count = 0; arcs = [] } in
    let n : ℕ = length m.graphs in
    let below = All-from_get_or (λ (t : Taken). t.graph < n) plan.paths none (λ i l. (solution.paths i l).graph) in
    let some = All-from_get_or (λ (t : Taken). 1 ≤ t.count) plan.paths none (λ i l. (solution.paths i l).count) in
    let most : EachBelow n (λ g. paths_of plan g ≤ 4096) = λ g l.
    let high : (graph_in m.graphs g).ends.high ≤ 4096 = (fits.graphs.each g (graph_in [] 0) l).graph.fits.ends_fit.most_paths in
    omega (arith, high, (solution.counts g l).1) in
    omega (arith, all_below plan.paths n below, few_below plan n some most)

pub verdict_counts : (m : ModelParts) (plan : Plan) → ModelFits m → PlanFits plan → length plan.paths ≤ length m.graphs * 4096 → IsCounted plan
verdict_counts m plan fits told few = record {
  few = omega (arith, few, fits.graphs.few);
  each = All-weaker PathFits (λ (t : Taken). t.count ≤ 4096) (λ t f. f.count.1) plan.paths told.each;
}
