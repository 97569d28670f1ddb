-- What a label sees at a place, and the walks of the solutions of the place.
use Rattle.std.specs.Prelude.{◌≡◌, ℕ, ◌<◌, neg_ℤ, List, length, All}
use Rattle.path_graph.specs.declared.set_bits.SetBits.{SetBits}
use Rattle.path_graph.specs.Fit.{int_at}
use Rattle.path_graph.specs.Walk.{Leads}
use Rattle.rank1_cuts.specs.declared.cut.Cut.{Cut}
use Rattle.rank1_cuts.specs.Fit.{CutFits}
use Rattle.route_model.specs.declared.multipliers.Mult.{Mult}
use Rattle.route_model.specs.declared.places.Spot.{Spot}
use Rattle.route_model.specs.declared.plan.Plan.{Plan}
use Rattle.route_model.specs.Fit.{ModelFits}
use Rattle.route_model.specs.Parts.{ModelParts, graph_in, taken_at}
use Rattle.route_model.specs.Places.{SolvesAt, shut_at}
use Rattle.ng_sets.specs.Near.{graph_at}
use Rattle.multipliers.specs.Priced.{arc_cost, start_cost}
use Rattle.multipliers.specs.Quantities.{reduced_cost}
use Rattle.label_rules.specs.Labels.{Setting, forward_label}
use Rattle.label_rules.specs.Admitted.{IsAdmitted, IsElementary}

-- what a label of graph g sees at the place, with near lists, cuts and multipliers
abbrev pub setting_at : ModelParts → Spot → List (List SetBits) → List Cut → Mult → ℕ → Setting
setting_at m spot near cuts mult g = record {
  graph = graph_in m.graphs g;
  near = graph_at near g;
  is_shut = shut_at m spot g;
  arc_cost = arc_cost m mult g;
  set_cost = λ set. neg_ℤ (int_at mult.sets set);
  start = start_cost mult g;
  cuts = cuts;
  weights = mult.cuts;
}

-- a label costs the reduced cost of its arcs
abbrev pub ReducedCostLaw : Type 0
ReducedCostLaw = (m : ModelParts) (spot : Spot) (near : List (List SetBits)) (cuts : List Cut) (mult : Mult) (g v w : ℕ) (arcs : List ℕ) → ModelFits m
    → g < length m.graphs → Leads (graph_in m.graphs g) v arcs w → (forward_label (setting_at m spot near cuts mult g) arcs).cost ≡ reduced_cost m cuts mult g arcs

-- a walk of a solution of the place is elementary there, and so admitted
abbrev pub WalksElementaryLaw : Type 0
WalksElementaryLaw = (m : ModelParts) (spot : Spot) (near : List (List SetBits)) (cuts : List Cut) (mult : Mult) (plan : Plan) (i : ℕ) → ModelFits m
    → SolvesAt m spot plan → i < length plan.paths
    → IsElementary (setting_at m spot near cuts mult (taken_at plan.paths i).graph) (taken_at plan.paths i).arcs (graph_in m.graphs (taken_at plan.paths i).graph).ends.sink

abbrev pub WalksAdmittedLaw : Type 0
WalksAdmittedLaw = (m : ModelParts) (spot : Spot) (near : List (List SetBits)) (cuts : List Cut) (mult : Mult) (plan : Plan) (i : ℕ) → ModelFits m
    → All CutFits cuts → SolvesAt m spot plan → i < length plan.paths
    → IsAdmitted (setting_at m spot near cuts mult (taken_at plan.paths i).graph) (taken_at plan.paths i).arcs
