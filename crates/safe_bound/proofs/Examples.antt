-- Worked rows of bounds and limits, by computing.
use Rattle.std.proofs.Common.{◌≡◌, pos, negsuc, None, Some, List, [], ◌∷◌, true, false, refl}
use Rattle.route_model.specs.declared.places.Span.{Span}
use Rattle.safe_bound.specs.Bounds.{all_above, bound_of, limit_of}

-- boxes of path counts
abbrev upto_two : List Span
upto_two = record { low = pos 0; high = pos 2 } ∷ []

abbrev some_path : List Span
some_path = record { low = pos 1; high = pos 2 } ∷ []

abbrev two_graphs : List Span
two_graphs = record { low = pos 0; high = pos 1 } ∷ record { low = pos 0; high = pos 1 } ∷ []

-- 10 - 2, and 8 - 10 + 1
bound_falls : bound_of 1 upto_two (Some (negsuc 65535) ∷ []) (pos 655360) ≡ Some (pos 524288)
bound_falls = refl

limit_below : limit_of 1 upto_two (Some (negsuc 65535) ∷ []) (pos 655360) 0 (pos 9) ≡ Some (negsuc 65535)
limit_below = refl

-- a least above 0 adds the low count alone
bound_rises : bound_of 1 some_path (Some (pos 3) ∷ []) (pos 10) ≡ Some (pos 13)
bound_rises = refl

-- no walk: 0 where there may be no path, and else no solution
none_adds : bound_of 1 upto_two (None ∷ []) (pos 10) ≡ Some (pos 10)
none_adds = refl

none_shows : bound_of 1 some_path (None ∷ []) (pos 10) ≡ None
none_shows = refl

-- the other graph counts, and the walk itself is none of the others
two_limits : limit_of 2 two_graphs (Some (negsuc 1) ∷ Some (negsuc 4) ∷ []) (pos 14) 0 (pos 1) ≡ Some (negsuc 8)
two_limits = refl

-- every walk is above: no least, no path, or another graph shows that there is no solution
no_least : all_above 1 upto_two (None ∷ []) 0 ≡ true
no_least = refl

no_path : all_above 1 (record { low = pos 0; high = pos 0 } ∷ []) (Some (pos 1) ∷ []) 0 ≡ true
no_path = refl

no_solution : all_above 2 (record { low = pos 0; high = pos 1 } ∷ some_path) (Some (pos 1) ∷ None ∷ []) 0 ≡ true
no_solution = refl

some_walk : all_above 2 two_graphs (Some (pos 1) ∷ None ∷ []) 0 ≡ false
some_walk = refl
