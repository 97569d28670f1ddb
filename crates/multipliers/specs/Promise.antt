-- What priced multipliers promise: weak duality, the law along arcs, and that no sum along arcs leaves 128 bits; and that
-- solutions keep cuts.
use Rattle.std.specs.Prelude.{◌≡◌, ℕ, ◌+◌, ◌<◌, ◌≤◌, ◌^◌, ◌+ℤ◌, ◌-ℤ◌, ◌≤ℤ◌, unsigned_abs, List, [], ◌∷◌, ◌++◌, length}
use Rattle.path_graph.specs.declared.parts.Values.{Values}
use Rattle.path_graph.specs.Rest.{IsPartial}
use Rattle.path_graph.specs.Visits.{visits_along}
use Rattle.path_graph.specs.Walk.{Leads}
use Rattle.rank1_cuts.specs.declared.cut.Cut.{Cut}
use Rattle.rank1_cuts.specs.Fit.{CutFits, right_side_of}
use Rattle.rank1_cuts.specs.Visits.{coef_of}
use Rattle.route_model.specs.declared.multipliers.Mult.{Mult}
use Rattle.route_model.specs.declared.multipliers.Priced.{Priced}
use Rattle.route_model.specs.declared.places.Boxes.{Boxes}
use Rattle.route_model.specs.declared.plan.Plan.{Plan}
use Rattle.route_model.specs.Fit.{ModelFits}
use Rattle.route_model.specs.Parts.{ModelParts, graph_in}
use Rattle.route_model.specs.Places.{SolvesWithin}
use Rattle.route_model.specs.Quantities.{cost_of, quantity}
use Rattle.route_model.specs.Solution.{IsSolution}
use Rattle.multipliers.specs.Priced.{cuts_cost, priced_walk}
use Rattle.multipliers.specs.Quantities.{plan_sum, reduced_cost, scaled}

-- weak duality: for each solution within the boxes, whatever the multipliers, the base and the reduced costs of its walks
-- are at most its scaled cost
abbrev pub BoundsCosts : ModelParts → List Cut → Boxes → Mult → Priced → Type 0
BoundsCosts m cuts boxes mult p =
    (plan : Plan) → SolvesWithin m boxes plan → (p.base +ℤ plan_sum (reduced_cost m cuts mult) plan) ≤ℤ scaled (cost_of m plan)

-- the reduced cost of arcs that lead on, as those of a partial walk or a walk: their start, each arc and each visit as
-- priced, and the cuts
abbrev pub PricesArcs : ModelParts → List Cut → Mult → Priced → Type 0
PricesArcs m cuts mult p =
    (g v w : ℕ) (arcs : List ℕ) → g < length m.graphs → Leads (graph_in m.graphs g) v arcs w
    → reduced_cost m cuts mult g arcs ≡ priced_walk m p g arcs +ℤ cuts_cost m cuts mult g arcs

-- one arc more changes the reduced cost by less than 2^72 + 2^55
abbrev pub ArcsAddLittle : ModelParts → List Cut → Mult → Type 0
ArcsAddLittle m cuts mult =
    (g v w a : ℕ) (arcs : List ℕ) → g < length m.graphs → Leads (graph_in m.graphs g) v (arcs ++ a ∷ []) w
    → unsigned_abs (reduced_cost m cuts mult g (arcs ++ a ∷ []) -ℤ reduced_cost m cuts mult g arcs) < 2 ^ 72 + 2 ^ 55

-- the reduced cost of a partial walk is less than 2^112 from 0
abbrev pub PartialWalksStayNear : ModelParts → List Cut → Mult → Type 0
PartialWalksStayNear m cuts mult =
    (g w : ℕ) (arcs : List ℕ) (value : Values) → g < length m.graphs → IsPartial (graph_in m.graphs g) arcs w value
    → unsigned_abs (reduced_cost m cuts mult g arcs) < 2 ^ 112

-- every solution keeps every cut that fits, whatever its memory: the coefficients of its walks sum to at most the right side
abbrev pub SolutionsKeepCutsLaw : Type 0
SolutionsKeepCutsLaw = (m : ModelParts) (cut : Cut) (plan : Plan) → ModelFits m → CutFits cut → IsSolution m plan
    → quantity (λ g arcs. coef_of cut (visits_along (graph_in m.graphs g) arcs)) plan ≤ right_side_of cut
