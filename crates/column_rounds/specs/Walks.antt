-- Walks of a model.
use Rattle.std.specs.Prelude.{ℤ, ◌<◌, List, [], length}
use Rattle.path_graph.specs.declared.set_bits.SetBits.{SetBits}
use Rattle.path_graph.specs.Walk.{IsFeasibleWalk}
use Rattle.route_model.specs.declared.multipliers.Priced.{Priced}
use Rattle.route_model.specs.declared.places.Spot.{Spot}
use Rattle.route_model.specs.declared.plan.Taken.{Taken}
use Rattle.route_model.specs.Parts.{ModelParts, graph_in}
use Rattle.pricing.specs.declared.half_table.HalfPair.{HalfPair}
use Rattle.ng_sets.specs.Near.{FitsGraphs}
use Rattle.pricing.specs.Fields.{PlaceFits, setting_in}
use Rattle.pricing.specs.Halves.{IsPairIn}
use Rattle.pricing.specs.Outcomes.{EachHas}

-- a feasible walk of a graph of the model
pub record IsWalkIn (m : ModelParts) (t : Taken) : Type 0 where
  pub graph : t.graph < length m.graphs
  pub feasible : IsFeasibleWalk (graph_in m.graphs t.graph) t.arcs

-- prices of some multipliers at a place, without cuts
abbrev pub ArePricesAt : ModelParts → Spot → Priced → Type 0
ArePricesAt m spot p = (near : List (List SetBits)) → FitsGraphs near m.graphs → PlaceFits m spot p near [] []

-- the half pair of each graph at a place, without cuts
abbrev pub ArePairsAt : ModelParts → Spot → Priced → List (List SetBits) → List HalfPair → Type 0
ArePairsAt m spot p near pairs = EachHas (length m.graphs) pairs (λ g pair. (threshold : ℤ) × IsPairIn (setting_in m spot p near [] [] g) threshold pair)
