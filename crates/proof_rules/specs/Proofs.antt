-- Proofs at a place: near lists, cuts, multipliers, and a closed table of labels for each graph, with its least.
use Rattle.std.specs.Prelude.{◌≡◌, ℕ, ◌<◌, ℤ, pos, ◌-ℤ◌, Option, None, Some, List, [], length, map, slice_index_or, All}
use lib.Signed.{◌<ℤ◌}
use Rattle.path_graph.specs.declared.set_bits.SetBits.{SetBits}
use Rattle.path_graph.specs.Bounds.{IsAtLeast, IsAtMost}
use Rattle.path_graph.specs.First.{EachBelow}
use Rattle.rank1_cuts.specs.declared.cut.Cut.{Cut}
use Rattle.rank1_cuts.specs.Fit.{CutFits}
use Rattle.route_model.specs.declared.multipliers.Mult.{Mult}
use Rattle.route_model.specs.declared.places.Spot.{Spot}
use Rattle.route_model.specs.declared.plan.Plan.{Plan}
use Rattle.route_model.specs.Fit.{ModelFits}
use Rattle.route_model.specs.Parts.{ModelParts, taken_at}
use Rattle.route_model.specs.Places.{SolvesAt}
use Rattle.route_model.specs.Quantities.{cost_of}
use Rattle.multipliers.specs.Quantities.{AreDefined, base, scaled}
use Rattle.safe_bound.specs.Bounds.{AreLeasts, bound_of, limit_of}
use Rattle.label_rules.specs.declared.label.Label.{Label}
use Rattle.label_rules.specs.Labels.{Setting, forward_label}
use Rattle.label_rules.specs.Leasts.{Form, Full, Both, IsTable, IsLeast}
use Rattle.proof_rules.specs.Places.{setting_at}

pub record Table : Type 0 where
  pub form : Form
  pub least : Option ℤ
  pub fore : List Label
  pub back : List Label

pub record Proof : Type 0 where
  pub mult : Mult
  pub cuts : List Cut
  pub near : List (List SetBits)
  pub tables : List Table

-- the table of a graph; nothing is said of a graph past the end
abbrev pub table_at : List Table → ℕ → Table
table_at tables g = slice_index_or tables g (record { form = Full; least = None; fore = []; back = [] })

abbrev pub leasts_of : Proof → List (Option ℤ)
leasts_of p = map (λ (t : Table). t.least) p.tables

-- what a label of graph g sees
abbrev pub setting_of : ModelParts → Spot → Proof → ℕ → Setting
setting_of m spot p g = setting_at m spot p.near p.cuts p.mult g

-- the table is closed, and its least is one
pub record IsTableOf (S : Setting) (t : Table) : Type 0 where
  pub closed : IsTable S t.form t.fore t.back
  pub least_is : IsLeast S t.form t.fore t.back t.least

-- a proof at a place: the cuts fit, every term is defined, and there is a closed table for each graph in order, with its
-- least
pub record IsProof (m : ModelParts) (spot : Spot) (p : Proof) : Type 0 where
  pub cuts_fit : All CutFits p.cuts
  pub defined : AreDefined m p.cuts spot.boxes p.mult
  pub count : length p.tables ≡ length m.graphs
  pub each : EachBelow (length m.graphs) (λ g. IsTableOf (setting_of m spot p g) (table_at p.tables g))

-- all tables are pairs of whole lists
abbrev pub AreBoth : ModelParts → Proof → Type 0
AreBoth m p = EachBelow (length m.graphs) (λ g. (table_at p.tables g).form ≡ Both)

-- the bound of the place, none where a graph shows that it has no solution; and the limit of a walk of graph g against z,
-- none where every walk is above it
abbrev pub bound_at : ModelParts → Spot → Proof → Option ℤ
bound_at m spot p = bound_of (length m.graphs) spot.boxes.paths (leasts_of p) (base m p.cuts spot.boxes p.mult)

abbrev pub walk_limit : ModelParts → Spot → Proof → ℤ → ℕ → Option ℤ
walk_limit m spot p z g = limit_of (length m.graphs) spot.boxes.paths (leasts_of p) (base m p.cuts spot.boxes p.mult) g z

-- a place with this bound is closed against z
abbrev pub ClosesAgainst : ℤ → Option ℤ → Type 0
ClosesAgainst z None = Unit {0}
ClosesAgainst z (Some bound) = scaled (z -ℤ pos 1) <ℤ bound

-- the leasts of a proof are those of the walks of each solution of the place, so the bound and the limits hold
abbrev pub LeastsLaw : Type 0
LeastsLaw = (m : ModelParts) (spot : Spot) (p : Proof) (plan : Plan) → ModelFits m → IsProof m spot p → SolvesAt m spot plan
    → AreLeasts m p.cuts p.mult (leasts_of p) plan

abbrev pub BoundLaw : Type 0
BoundLaw = (m : ModelParts) (spot : Spot) (p : Proof) (plan : Plan) → ModelFits m → IsProof m spot p → SolvesAt m spot plan
    → IsAtLeast (bound_at m spot p) (scaled (cost_of m plan))

abbrev pub LimitLaw : Type 0
LimitLaw = (m : ModelParts) (spot : Spot) (p : Proof) (z : ℤ) (plan : Plan) (i : ℕ) → ModelFits m → IsProof m spot p → SolvesAt m spot plan → cost_of m plan <ℤ z
    → i < length plan.paths
    → IsAtMost (walk_limit m spot p z (taken_at plan.paths i).graph) (forward_label (setting_of m spot p (taken_at plan.paths i).graph) (taken_at plan.paths i).arcs).cost
