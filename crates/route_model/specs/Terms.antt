-- Sides, and the term of a multiplier over them.
use Rattle.std.specs.Prelude.{ℕ, zero, suc, ℤ, pos, negsuc, ◌*ℤ◌, Option, Some, option_map, unwrap_or}
use Rattle.route_model.specs.declared.parts.Row.{Row}
use Rattle.route_model.specs.declared.places.Span.{Span}

-- the sides between which a number lies; one that is not there is open
pub record Sides : Type 0 where
  pub low : Option ℤ
  pub high : Option ℤ

-- the sides of a box, those of a row, and those of 0..n
abbrev pub sides_of : Span → Sides
sides_of span = record { low = Some span.low; high = Some span.high }

abbrev pub sides_of_row : Row → Sides
sides_of_row row = record { low = row.low; high = row.high }

abbrev pub up_to : ℕ → Sides
up_to n = record { low = Some (pos 0); high = Some (pos n) }

-- the least of a multiplier times a number between the sides: 0 for multiplier 0, at the low side for one above 0, at
-- the high side for one below 0; none where that side is open
abbrev pub term : ℤ → Sides → Option ℤ
term (pos zero) sides = Some (pos 0)
term (pos (suc n)) sides = option_map (λ low. pos (suc n) *ℤ low) sides.low
term (negsuc n) sides = option_map (λ high. negsuc n *ℤ high) sides.high

-- a term, 0 where there is none
abbrev pub or_zero : Option ℤ → ℤ
or_zero t = unwrap_or t (pos 0)
