-- Where a solution lies.
use Rattle.std.specs.Prelude.{ℕ, nat_lt, pos, List, [], ◌∷◌, filter, length}
use Rattle.path_graph.specs.First.{EachBelow}
use Rattle.route_model.specs.declared.places.Spot.{Spot}
use Rattle.route_model.specs.declared.plan.Plan.{Plan}
use Rattle.route_model.specs.declared.plan.Taken.{Taken}
use Rattle.route_model.specs.Parts.{ModelParts}
use Rattle.route_model.specs.Places.{IsInSpan, UsesNone, is_dropped, span_at}
use Rattle.route_model.specs.Quantities.{paths_of, value_of}
use Rattle.proof_rules.specs.Counts.{Walk}

-- a plan lies in the boxes of a place and uses no dropped arc
pub record IsAt (m : ModelParts) (spot : Spot) (plan : Plan) : Type 0 where
  pub vars : EachBelow (length m.vars) (λ j. IsInSpan (span_at spot.boxes.vars j) (pos (value_of m plan j)))
  pub paths : EachBelow (length m.graphs) (λ g. IsInSpan (span_at spot.boxes.paths g) (pos (paths_of plan g)))
  pub kept : UsesNone (is_dropped spot) plan

-- a walk that is taken, unless its count is 0
abbrev pub taken_if : Walk → ℕ → List Taken
taken_if w n = filter (λ (t : Taken). nat_lt 0 t.count) (record { graph = w.graph; count = n; arcs = w.arcs } ∷ [])
