-- Worked rows of terms and of what multipliers take from a unit, by computing.
use Rattle.std.proofs.Common.{◌≡◌, pos, negsuc, None, Some, List, [], ◌∷◌, refl}
use Rattle.route_model.specs.declared.parts.RowTerm.{RowTerm}
use Rattle.route_model.specs.Terms.{or_zero, term, up_to}
use Rattle.multipliers.specs.Priced.{coef_in, visit_cost}

-- at the low side, at the high side, and where that is open
low_side : term (pos 3) (record { low = Some (pos 2); high = Some (pos 5) }) ≡ Some (pos 6)
low_side = refl

high_side : term (negsuc 2) (record { low = Some (pos 2); high = Some (pos 5) }) ≡ Some (negsuc 14)
high_side = refl

open_side : term (negsuc 0) (record { low = Some (pos 0); high = None }) ≡ None
open_side = refl

no_multiplier : term (pos 0) (record { low = None; high = None }) ≡ Some (pos 0)
no_multiplier = refl

-- a multiplier below 0 on a set, or on a cut of right side 2, takes the high side
set_term : or_zero (term (negsuc 4) (up_to 1)) ≡ negsuc 4
set_term = refl

cut_term : or_zero (term (negsuc 4) (up_to 2)) ≡ negsuc 9
cut_term = refl

-- the coefficient of a variable in a row, 0 where it is not in it
abbrev terms : List RowTerm
terms = record { var = 1; coef = pos 4 } ∷ record { var = 3; coef = negsuc 1 } ∷ []

coef_there : coef_in terms 3 ≡ negsuc 1
coef_there = refl

coef_none : coef_in terms 2 ≡ pos 0
coef_none = refl

-- a visit of no set costs nothing
visit_none : visit_cost (pos 7 ∷ []) None ≡ pos 0
visit_none = refl
