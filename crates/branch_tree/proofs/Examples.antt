-- Worked rows of the order of a queue and of boxes that are parted.
use Rattle.std.proofs.Common.{◌≡◌, ◌<◌, ℤ, pos, negsuc, List, [], ◌∷◌, inl, inr, refl, arith}
use Rattle.std.proofs.lemmas.Int.{ints}
use Rattle.route_model.specs.declared.places.Span.{Span}
use Rattle.branch_tree.specs.Order.{ComesFirst}
use Rattle.branch_tree.specs.Splits.{Parts}

lower_bound : ComesFirst (negsuc 0, 9) (pos 3, 1)
lower_bound = inl (omega (arith, ints))

lower_node : ComesFirst (pos 3, 1) (pos 3, 7)
lower_node = inr (refl, omega arith)

itself : ComesFirst (pos 3, 7) (pos 3, 7)
itself = inr (refl, omega arith)

-- 0..2 is parted at 0 and at 1
abbrev boxes : List Span
boxes = record { low = pos 1; high = pos 1 } ∷ record { low = pos 0; high = pos 2 } ∷ []

at_low_end : Parts boxes 1 (pos 0)
at_low_end = record { there = omega arith; low = omega (arith, ints); high = omega (arith, ints) }

below_high_end : Parts boxes 1 (pos 1)
below_high_end = record { there = omega arith; low = omega (arith, ints); high = omega (arith, ints) }
