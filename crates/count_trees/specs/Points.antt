-- Boxes of counts that are points, and the first that is none.
use Rattle.std.specs.Prelude.{◌≡◌, ℕ, ◌<◌, nat_lt, Option, None, Some, List, [], ◌∷◌, filter, length}
use Rattle.route_model.specs.declared.places.Span.{Span}
use Rattle.route_model.specs.declared.plan.Taken.{Taken}
use Rattle.route_model.specs.Places.{span_at}
use Rattle.proof_rules.specs.Counts.{Walk}
use Rattle.proof_rules.specs.Nodes.{ArePoints}

-- all boxes are points; or this one is none
pub record IsWide (boxes : List Span) (i : ℕ) : Type 0 where
  pub inside : i < length boxes
  pub wide : ¬ ((span_at boxes i).low ≡ (span_at boxes i).high)

abbrev pub IsWideAt : List Span → Option ℕ → Type 0
IsWideAt boxes None = ArePoints boxes
IsWideAt boxes (Some i) = IsWide boxes i

-- a walk that is taken, unless its count is 0
abbrev pub taken_if : Walk → ℕ → List Taken
taken_if w n = filter (λ (t : Taken). nat_lt 0 t.count) (record { graph = w.graph; count = n; arcs = w.arcs } ∷ [])
