-- Why a search stops at a limit of nodes: so many were made, and some place is still open.
use Rattle.std.specs.Prelude.{◌≡◌, ◌≢◌, ◌⊎◌, ℕ, ◌≤◌, ℤ, pos, ◌+ℤ◌, ◌-ℤ◌, ◌≤ℤ◌, Bool, true, false, Option, None, Some, List, [], ◌∷◌, count_by, All, Contains}
use lib.Signed.{◌<ℤ◌}
use Rattle.route_model.specs.declared.multipliers.Mult.{Mult}
use Rattle.route_model.specs.declared.places.Span.{Span}
use Rattle.route_model.specs.declared.places.Spot.{Spot}
use Rattle.route_model.specs.declared.plan.Plan.{Plan}
use Rattle.route_model.specs.Costs.{cost_above_all}
use Rattle.route_model.specs.Fit.{ModelFits}
use Rattle.route_model.specs.Parts.{ModelParts}
use Rattle.route_model.specs.PlaceParts.{NamedArc}
use Rattle.route_model.specs.Places.{shut_at}
use Rattle.route_model.specs.Quantities.{cost_of}
use Rattle.route_model.specs.Solution.{IsSolution}
use Rattle.multipliers.specs.Quantities.{base, scaled}
use Rattle.proof_rules.specs.Counts.{Walk}
use Rattle.proof_rules.specs.Grows.{Grows, HoldsForSome, Rules}
use Rattle.proof_rules.specs.Nodes.{AtCounts, AtPlace, CountSplit, Fix, Item, Node, SplitAt, count_terms}
use Rattle.proof_rules.specs.OpenTrees.{Valued, ValuedFits, IsOpenTree, open_rules, open_values, valued_children, valued_root}
use Rattle.proof_rules.specs.Proofs.{ClosesAgainst, bound_at}

-- multipliers that are all 0, and that they close counts in boxes against z
abbrev pub no_mult : Mult
no_mult = record { vars = []; rows = []; sets = []; cuts = []; paths = [] }

abbrev pub ZerosClose : ModelParts → ℤ → Spot → List Walk → List Span → Type 0
ZerosClose m z spot walks boxes = scaled (z -ℤ pos 1) <ℤ (base m [] spot.boxes no_mult +ℤ count_terms m no_mult walks boxes)

-- an arc of the list is not shut at the place
pub record DropsSome (m : ModelParts) (spot : Spot) (arcs : List NamedArc) : Type 0 where
  pub arc : NamedArc
  pub named : Contains arcs arc
  pub open_arc : shut_at m spot arc.0 arc.1 ≡ false

-- a made node was needed: its place is not closed against z without it, and a fix drops an arc that is not shut
abbrev pub Stays : ModelParts → ℤ → Item → Node → Type 0
Stays m z (AtPlace spot) (SplitAt split None) = ⊥
Stays m z (AtPlace spot) (SplitAt split (Some p)) = ¬ (ClosesAgainst z (bound_at m spot p))
Stays m z (AtPlace spot) (Fix p arcs) = DropsSome m spot arcs × ¬ (ClosesAgainst z (bound_at m spot p))
Stays m z (AtCounts spot walks boxes) (CountSplit i d) = ¬ (ZerosClose m z spot walks boxes)
Stays m z item node = Unit {0}

pub record StaysFits (m : ModelParts) (z : ℤ) (i : Valued) (node : Node) : Type 0 where
  pub fits : ValuedFits m z i node
  pub stays : Stays m z i.item node

abbrev pub wall_rules : ModelParts → ℤ → Rules Valued Node
wall_rules m z = record { Fits = StaysFits m z; children = valued_children m }

-- z is the cost of the best solution, or without one the greatest cost over the boxes of the variables, plus 1
pub record IsBest (m : ModelParts) (z : ℤ) (plan : Plan) : Type 0 where
  pub solution : IsSolution m plan
  pub is : cost_of m plan ≡ z

abbrev pub IsCostToBeat : ModelParts → Option Plan → ℤ → Type 0
IsCostToBeat m None z = z ≡ cost_above_all m
IsCostToBeat m (Some plan) z = IsBest m z plan

abbrev pub is_made : Option Node → Bool
is_made None = false
is_made (Some n) = true

abbrev pub is_open : Option Node → Bool
is_open None = true
is_open (Some n) = false

-- so many nodes were made, at least one place is open, and all were needed against z
pub record IsNodeWall (m : ModelParts) (limit : ℕ) (best : Option Plan) (z : ℤ) (places : List (Option Node)) : Type 0 where
  pub to_beat : IsCostToBeat m best z
  pub tree : Grows (open_rules (wall_rules m z)) (valued_root m ∷ []) places []
  pub made : count_by is_made places ≡ limit
  pub some_open : 1 ≤ count_by is_open places

-- the bound is the least value of the open places, or the cost of the best where that is less: at most each of these, and
-- one of them
pub record IsOpenBound (m : ModelParts) (best : Option Plan) (z : ℤ) (places : List (Option Node)) (bound : ℤ) : Type 0 where
  pub values : All (λ v. bound ≤ℤ v) (open_values m z places)
  pub cost : best ≢ None → bound ≤ℤ z
  pub reached : HoldsForSome (λ v. bound ≡ v) (open_values m z places) ⊎ ((best ≢ None) × (bound ≡ z))

-- a solution that costs less than z costs at least the value of some open place
abbrev pub OpenValueLaw : Type 0
OpenValueLaw = (m : ModelParts) (z : ℤ) (places : List (Option Node)) (plan : Plan) → ModelFits m → IsOpenTree m z places → IsSolution m plan → cost_of m plan <ℤ z
    → HoldsForSome (λ v. v ≤ℤ cost_of m plan) (open_values m z places)

-- a wall is such a tree, so no solution costs less than the bound
abbrev pub WallTreeLaw : Type 0
WallTreeLaw = (m : ModelParts) (limit : ℕ) (best : Option Plan) (z : ℤ) (places : List (Option Node)) → IsNodeWall m limit best z places → IsOpenTree m z places

abbrev pub WallBoundLaw : Type 0
WallBoundLaw = (m : ModelParts) (limit : ℕ) (best : Option Plan) (z : ℤ) (places : List (Option Node)) (bound : ℤ) (plan : Plan) → ModelFits m
    → IsNodeWall m limit best z places → IsOpenBound m best z places bound → IsSolution m plan → bound ≤ℤ cost_of m plan
