-- Certificates that a search gives: they are accepted, and a text can tell them.
use Rattle.std.proofs.Common.{◌≡◌, ℕ, zero, suc, ◌+◌, ◌*◌, ◌<◌, ◌≤◌, ℤ, pos, ◌+ℤ◌, ◌*ℤ◌, Bool, true, false, ◌==◌, List, [], ◌∷◌, All, length, take, cond, refl, sym, ap, subst, ◌∙◌, arith}
use Rattle.std.specs.Prelude.{sum_by}
use Rattle.std.proofs.lemmas.Int.{ints}
use Rattle.std.proofs.lemmas.List.{take_all}
use Rattle.std.proofs.lemmas.List.Elements.{All-cons, All-from_get_or, All-nil}
use Rattle.std.proofs.lemmas.List.Sums.{sum_by-le-sum_by, sum_by_more}
use Rattle.path_graph.specs.Walk.{GraphParts, Leads, arc_at}
use Rattle.path_graph.specs.Within.{IsWithin}
use Rattle.path_graph.specs.Sums.{sum_below}
use Rattle.route_model.specs.declared.parts.Var.{Var}
use Rattle.route_model.specs.declared.plan.Plan.{Plan}
use Rattle.route_model.specs.declared.plan.Taken.{Taken}
use Rattle.route_model.specs.Costs.{cost_above_all}
use Rattle.route_model.specs.Fit.{IsModel, ModelFits, cost_range, cost_range_of}
use Rattle.route_model.specs.Parts.{ModelParts, graph_in, graph_at, taken_at, var_at}
use Rattle.route_model.specs.Quantities.{cost_of, is_of, value_of}
use Rattle.route_model.specs.Solution.{IsLeast, IsPath, IsSolution}
use Rattle.route_model.proofs.Bounds.{var_cost_within}
use Rattle.route_model.proofs.SolutionLemmas.{paths_few, solution_counted}
use Rattle.proof_rules.specs.ValidLaws.{ValidLaw}
use Rattle.proof_rules.specs.Validity.{IsValid}
use Rattle.model_text.specs.PathText.{PathFits, PlanFits}
use Rattle.certificate.specs.declared.cert.Cert.{Cert}
use Rattle.certificate.specs.declared.cert.Goal.TheVariants as goal
use Rattle.certificate.specs.declared.cert.Node.{Node}
use Rattle.cert_rules.specs.Meaning.{certificate_of}
use Rattle.solve_run.specs.Certificates.{IsProvedLeast, IsProvedNone}
use Rattle.solve_run.specs.Stops.{IsBestPlan}
use Rattle.solve_run.specs.Told.{IsToldTree}

-- what a solution costs is in the range of costs
abbrev costs_in : ModelParts → Plan → ℕ → ℤ
costs_in m plan j = (var_at m.vars j).cost *ℤ pos (value_of m plan j)

cost_below : (m : ModelParts) (plan : Plan) (n : ℕ) → ModelFits m → IsSolution m plan → n ≤ length m.vars → IsWithin (cost_range (take n m.vars)) (sum_below n (costs_in m plan))
cost_below m plan zero fits solution few = (omega (arith, ints), omega (arith, ints))
cost_below m plan (suc n) fits solution few =
    let l : n < length m.vars = omega arith in
    let before = cost_below m plan n fits solution (omega arith) in
    let here = var_cost_within (var_at m.vars n) (value_of m plan n) (fits.vars.each n _ l) (solution.vars n l).1 in
    let more = sum_by_more cost_range_of m.vars n (var_at [] 0) l in
    let e : suc n ≡ n + 1 = omega arith in
    subst (λ (k : ℕ). IsWithin (cost_range (take k m.vars)) (sum_below n (costs_in m plan) +ℤ costs_in m plan n)) (sym e)
    (omega (arith, ints, before.0, here.0, more), omega (arith, ints, before.1, here.1, more))

pub cost_within : (m : ModelParts) (plan : Plan) → IsModel m → IsSolution m plan → IsWithin 1099511627776 (cost_of m plan)
cost_within m plan model solution =
    let all = cost_below m plan (length m.vars) model.fits solution (omega arith) in
    let whole = ap (λ (vs : List Var). cost_range vs) (take_all (length m.vars) m.vars (omega arith)) in
    let few = model.costs in
    (omega (arith, ints, all.0, whole, few), omega (arith, ints, all.1, whole, few))

-- a text can tell a solution
arcs_few : (g : GraphParts) (v w : ℕ) (arcs : List ℕ) → length g.arcs ≤ 60000 → Leads g v arcs w → All (λ (a : ℕ). a ≤ 4294967295) arcs
arcs_few g v w [] few leads = All-nil (λ (a : ℕ). a ≤ 4294967295)
arcs_few g v w (a ∷ arcs) few leads =
    All-cons (λ (b : ℕ). b ≤ 4294967295) a arcs (omega (arith, few, leads.0)) (arcs_few g (arc_at g.arcs a).head w arcs few leads.2)

path_told : (m : ModelParts) (t : Taken) → ModelFits m → IsPath m t → t.count ≤ 4096 → PathFits t
path_told m t fits path few =
    let parts = (fits.graphs.each t.graph (graph_in [] 0) path.graph).graph.fits in
    record {
      graph = omega (arith, path.graph, fits.graphs.few);
      count = (path.count, few);
      some_arcs = λ none. parts.ends_fit.different (subst (λ (arcs : List ℕ). Leads (graph_at m t.graph) (graph_at m t.graph).ends.source arcs (graph_at m t.graph).ends.sink) none path.walk.walk);
      arcs = arcs_few (graph_at m t.graph) (graph_at m t.graph).ends.source (graph_at m t.graph).ends.sink t.arcs parts.few_arcs path.walk.walk;
    }

part_of : (n : ℕ) (b : Bool) → n * cond b 1 0 ≤ n * 1
part_of n true = omega arith
part_of n false = omega arith

pub plan_told : (m : ModelParts) (plan : Plan) → ModelFits m → IsSolution m plan → PlanFits plan
plan_told m plan fits solution =
    let none : Taken = record { graph = 0; count = 0; arcs = [] } in
    let counted = solution_counted m plan fits solution in
    let few = paths_few m.graphs plan (λ i l. (solution.paths i l).graph) (λ g l. (solution.counts g l).1) in
    let most = fits.graphs.few_paths in
    record {
      each = All-from_get_or PathFits plan.paths none (λ i l. path_told m (taken_at plan.paths i) fits (solution.paths i l) (counted.each i none l));
      few = λ g. let part = sum_by-le-sum_by (λ (t : Taken). t.count * is_of g t.graph t.arcs) (λ (t : Taken). t.count * 1) plan.paths (λ t. part_of t.count (t.graph == g)) in omega (arith, part, few, most);
    }

-- the certificate of a least plan
pub proved_least : ValidLaw → (m : ModelParts) (cost : ℤ) (plan copy : Plan) (nodes : List Node) → IsModel m → IsBestPlan m (record { cost = cost; plan = plan }) → IsToldTree m cost nodes → length nodes ≤ 1000000
    → copy ≡ plan → IsProvedLeast m cost plan (record { goal = goal.Optimal cost; goal_line = 0; end_line = 0; plan = copy; nodes = nodes })
proved_least law m cost plan copy nodes model best tree few same =
    let cert : Cert = record { goal = goal.Optimal cost; goal_line = 0; end_line = 0; plan = copy; nodes = nodes } in
    let solution = subst (λ (p : Plan). IsSolution m p) (sym same) best.solution in
    let costs = ap (cost_of m) same ∙ best.costs in
    let valid : IsValid m (certificate_of m cert) = record { solution = solution; is = costs; tree = tree.tree } in
    let holds = law m (certificate_of m cert) model.fits valid in
    let near = cost_within m plan model best.solution in
    record {
      least = subst (λ (p : Plan). IsLeast m p) same holds.0;
      costs = best.costs;
      tidy = best.tidy;
      certified = record {
        accepted = record { valid = valid; named = tree.named };
        fits = record {
          goal = subst (λ (z : ℤ). IsWithin 1099511627776 z) best.costs near;
          plan = plan_told m copy model.fits solution;
          few = few;
          each = tree.told;
        };
        claimed = refl;
      };
      planned = same;
    }

-- the certificate that there is no solution
pub proved_none : ValidLaw → (m : ModelParts) (plan : Plan) (nodes : List Node) → IsModel m → IsToldTree m (cost_above_all m) nodes → length nodes ≤ 1000000
    → plan.paths ≡ [] → IsProvedNone m (record { goal = goal.Infeasible; goal_line = 0; end_line = 0; plan = plan; nodes = nodes })
proved_none law m plan nodes model tree few none =
    let cert : Cert = record { goal = goal.Infeasible; goal_line = 0; end_line = 0; plan = plan; nodes = nodes } in
    record {
      none = law m (certificate_of m cert) model.fits tree.tree;
      certified = record {
        accepted = record { valid = tree.tree; named = tree.named };
        fits = record { goal = none; plan = no_paths plan none; few = few; each = tree.told };
        claimed = refl;
      };
    }
  where
    no_paths : (p : Plan) → p.paths ≡ [] → PlanFits p
    no_paths p empty = record {
      each = subst (λ (ts : List Taken). All PathFits ts) (sym empty) (All-nil PathFits);
      few = λ g. let sums = ap (λ (ts : List Taken). sum_by (λ (t : Taken). t.count * is_of g t.graph t.arcs) ts) empty in omega (arith, sums);
    }
