-- Labels of a place against the solutions of the place.
use Rattle.std.proofs.Common.{◌≡◌, ℕ, ◌<◌, ◌≤◌, ℤ, neg_ℤ, ◌+ℤ◌, ◌-ℤ◌, false, List, [], ◌∷◌, length, Option, None, Some, All, inl, inr, refl, sym, ◌∙◌, arith}
use Rattle.std.proofs.lemmas.Bool.{cases_lt}
use Rattle.std.proofs.lemmas.Int.{ints}
use Rattle.std.proofs.lemmas.List.Elements.{All-head, All-tail}
use Rattle.path_graph.specs.declared.set_bits.SetBits.{SetBits}
use Rattle.path_graph.specs.Sums.{sum_over}
use Rattle.path_graph.specs.Visits.{visit_count, visit_over, visits_along}
use Rattle.path_graph.specs.Walk.{GraphParts}
use Rattle.rank1_cuts.specs.declared.cut.Cut.{Cut}
use Rattle.rank1_cuts.specs.Fit.{CutFits}
use Rattle.route_model.specs.declared.multipliers.Mult.{Mult}
use Rattle.route_model.specs.declared.places.Spot.{Spot}
use Rattle.route_model.specs.declared.plan.Plan.{Plan}
use Rattle.route_model.specs.Fit.{ModelFits}
use Rattle.route_model.specs.Parts.{ModelParts, graph_in, taken_at}
use Rattle.route_model.specs.Places.{SolvesAt}
use Rattle.route_model.specs.Quantities.{visits_in}
use Rattle.route_model.proofs.ShutLemmas.{in_plan, not_shut}
use Rattle.multipliers.specs.Priced.{arc_cost, arcs_cost, cuts_cost, start_cost, visit_mult}
use Rattle.multipliers.proofs.CutLemmas.{visits_none}
use Rattle.multipliers.proofs.PricedLemmas.{reduced_along}
use Rattle.label_rules.specs.Admitted.{AreOpen}
use Rattle.label_rules.specs.Labels.{Setting, SettingFits, visit_cost}
use Rattle.proof_rules.specs.Places.{ReducedCostLaw, WalksAdmittedLaw, WalksElementaryLaw, setting_at}
use Rattle.label_rules.proofs.AdmittedLemmas.{elementary_law}
use Rattle.label_rules.proofs.LabelCostLemmas.{label_cost_law}

-- costs: arcs and visits go one by one
met_is : (m : ModelParts) (spot : Spot) (near : List (List SetBits)) (cuts : List Cut) (mult : Mult) (g : ℕ) (v : Option ℕ)
    → visit_cost (setting_at m spot near cuts mult g) v ≡ neg_ℤ (visit_mult mult v)
met_is m spot near cuts mult g None = omega (arith, ints)
met_is m spot near cuts mult g (Some set) = refl

arcs_are : (m : ModelParts) (spot : Spot) (near : List (List SetBits)) (cuts : List Cut) (mult : Mult) (g : ℕ) (arcs : List ℕ)
    → sum_over (arc_cost m mult g) arcs +ℤ sum_over (visit_cost (setting_at m spot near cuts mult g)) (visits_along (graph_in m.graphs g) arcs) ≡ arcs_cost m mult g arcs
arcs_are m spot near cuts mult g [] = omega (arith, ints)
arcs_are m spot near cuts mult g (a ∷ arcs) =
    joined (arc_cost m mult g a) _ (visit_cost (setting_at m spot near cuts mult g) (visit_over (graph_in m.graphs g) a)) _ (visit_mult mult (visit_over (graph_in m.graphs g) a)) _
    (met_is m spot near cuts mult g (visit_over (graph_in m.graphs g) a)) (arcs_are m spot near cuts mult g arcs)
  where
    joined : (a b v w n t : ℤ) → v ≡ neg_ℤ n → b +ℤ w ≡ t → (a +ℤ b) +ℤ (v +ℤ w) ≡ (a -ℤ n) +ℤ t
    joined a b v w n t e f = omega (arith, ints)

pub reduced_is : ReducedCostLaw
reduced_is m spot near cuts mult g v w arcs fits inside leads =
    label_cost_law (setting_at m spot near cuts mult g) arcs
    ∙ (joined (start_cost mult g) _ _ (arcs_cost m mult g arcs) (cuts_cost m cuts mult g arcs) (arcs_are m spot near cuts mult g arcs)
    ∙ sym (reduced_along m cuts mult g v w arcs fits inside leads))
  where
    joined : (b a v t c : ℤ) → a +ℤ v ≡ t → ((b +ℤ a) +ℤ v) +ℤ c ≡ b +ℤ (t +ℤ c)
    joined b a v t c e = omega (arith, ints)

all_open : (S : Setting) (arcs : List ℕ) → All (λ a. S.is_shut a ≡ false) arcs → AreOpen S arcs
all_open S [] each = tt
all_open S (a ∷ arcs) each = (All-head (λ b. S.is_shut b ≡ false) a arcs each, all_open S arcs (All-tail (λ b. S.is_shut b ≡ false) a arcs each))

visited_once : (m : ModelParts) (spot : Spot) (plan : Plan) (i set : ℕ) → ModelFits m → SolvesAt m spot plan → i < length plan.paths
    → visit_count set (visits_along (graph_in m.graphs (taken_at plan.paths i).graph) (taken_at plan.paths i).arcs) ≤ 1
visited_once m spot plan i set fits solves below =
    let g : GraphParts = graph_in m.graphs (taken_at plan.paths i).graph in
    let arcs : List ℕ = (taken_at plan.paths i).arcs in
    let path = solves.within.solution.paths i below in
    elim (cases_lt set m.sets) [
      | inl inside ↦
          let one = in_plan (visits_in m.graphs set) plan i below path.count in
          omega (arith, one, solves.within.solution.sets set inside)
      | inr past ↦
          let none = visits_none g m.sets set arcs (fits.graphs.each (taken_at plan.paths i).graph _ path.graph).declared past in
          omega (arith, none)
    ]

pub walk_elementary : WalksElementaryLaw
walk_elementary m spot near cuts mult plan i fits solves below =
    let path = solves.within.solution.paths i below in
    record {
      leads = path.walk.walk;
      passes = path.walk.passes;
      open_arcs = all_open (setting_at m spot near cuts mult (taken_at plan.paths i).graph) (taken_at plan.paths i).arcs (not_shut m spot plan fits solves i below);
      once = λ set. visited_once m spot plan i set fits solves below;
    }

pub setting_fits : (m : ModelParts) (spot : Spot) (near : List (List SetBits)) (cuts : List Cut) (mult : Mult) (g : ℕ) → ModelFits m → g < length m.graphs → All CutFits cuts
    → SettingFits (setting_at m spot near cuts mult g)
setting_fits m spot near cuts mult g fits inside cut_fits = record { graph = (fits.graphs.each g _ inside).graph; cuts = λ c l. cut_fits c _ l }

pub walk_admitted : WalksAdmittedLaw
walk_admitted m spot near cuts mult plan i fits cut_fits solves below =
    let g : ℕ = (taken_at plan.paths i).graph in
    elementary_law (setting_at m spot near cuts mult g) (taken_at plan.paths i).arcs
    (setting_fits m spot near cuts mult g fits (solves.within.solution.paths i below).graph cut_fits) (walk_elementary m spot near cuts mult plan i fits solves below)
