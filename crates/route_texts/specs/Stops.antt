-- Where stops lie, and their numbers.
use Rattle.std.specs.Prelude.{ℕ, List, Bool, ◌==◌}
use Rattle.std.specs.List.{list_any}
use Rattle.path_graph.specs.Within.{IsWithin}
use Rattle.route_tasks.specs.declared.limits.TheConstants.{MAX_COORDINATE}
use Rattle.route_tasks.specs.declared.task.Stop.{Stop}
use Rattle.route_texts.specs.declared.stops.Point.{Point}

-- a point within the limits
pub record PointFits (p : Point) : Type 0 where
  pub across : IsWithin MAX_COORDINATE p.x
  pub along : IsWithin MAX_COORDINATE p.y

-- a stop has this number
abbrev pub has_number : ℕ → List Stop → Bool
has_number number stops = list_any (λ s. s.number == number) stops
