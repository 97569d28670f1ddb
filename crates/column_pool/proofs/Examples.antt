-- Worked rows of entries, by computing.
use Rattle.std.proofs.Common.{◌≡◌, ◌+◌, ◌/◌, pos, negsuc, List, [], ◌∷◌, refl}
use Rattle.fixed_master.specs.declared.parts.Entry.{Entry}
use Rattle.route_model.specs.declared.parts.RowTerm.{RowTerm}
use Rattle.column_pool.specs.Amounts.{sum_with}
use Rattle.column_pool.specs.Columns.{entries_from}

-- amounts of 0 have no entry, and the others keep their places
places : entries_from 2 (pos 0 ∷ pos 3 ∷ pos 0 ∷ negsuc 0 ∷ []) ≡ record { row = 3; value = pos 3 } ∷ record { row = 5; value = negsuc 0 } ∷ []
places = refl

nothing : entries_from 0 (pos 0 ∷ pos 0 ∷ []) ≡ []
nothing = refl

no_amounts : entries_from 7 [] ≡ []
no_amounts = refl

-- 4 × 2 - 1 × 5 for two uses of variable 1 and five of variable 3
terms_sum : sum_with (λ j. j + 1 + j / 3) (record { var = 1; coef = pos 4 } ∷ record { var = 3; coef = negsuc 0 } ∷ []) ≡ pos 3
terms_sum = refl
