-- Worked rows of the definitions. A false row is refused.
use Rattle.std.proofs.Common.{◌≡◌, ◌-◌, ◌^◌, [], ◌∷◌, Some, refl, lit<, lit≤, inr}
use Rattle.vrp_io.specs.Bytes.{TookAll, TookExactly}
use Rattle.vrp_io.specs.Counts.{next_count, Rose}
use Rattle.vrp_io.specs.Memory.{new_source, new_sink, ReadFails, WriteFails, GivesBytes, TakesBytes}

-- a count rises by one
pub three_after_two : next_count 2 ≡ 3
three_after_two = refl

-- a count stands still at the end of its type, and there a fault needs no rise
pub still_at_end : Rose (2 ^ 64 - 1) (2 ^ 64 - 1)
still_at_end = lit≤ tt

-- the second of three reads fails
pub second_read_fails : ReadFails (record { left = 5 ∷ []; piece = 1; failing = 2 ∷ []; calls = 1; faults = 0 })
second_read_fails = (0, lit< tt, refl)

-- a piece of two, a buffer of three and four bytes left give two bytes
pub two_given : GivesBytes (new_source (1 ∷ 2 ∷ 3 ∷ 4 ∷ []) 2 []) (record { left = 3 ∷ 4 ∷ []; piece = 2; failing = []; calls = 1; faults = 0 }) (1 ∷ 2 ∷ 9 ∷ []) 2
two_given = record { count_is = refl; front = refl; after = refl }

-- a sink with no room refuses a byte
pub full_sink_fails : WriteFails (new_sink 0 4 []) (7 ∷ [])
full_sink_fails = inr (refl, lit< tt)

-- room for one takes one byte of three
pub one_taken : TakesBytes (new_sink 1 4 []) (record { written = 7 ∷ []; room = 0; piece = 4; failing = []; calls = 1; faults = 0 }) (7 ∷ 8 ∷ 9 ∷ []) 1
one_taken = record { count_is = refl; after = refl }

-- two bytes of two are all, and exactly two
pub all_of_two : TookAll (Some (1 ∷ 2 ∷ [])) (Some []) (1 ∷ 2 ∷ [])
all_of_two = record { taken = refl; end = refl }

pub two_of_two : TookExactly (Some (1 ∷ 2 ∷ [])) (Some []) 2
two_of_two = record { bytes = 1 ∷ 2 ∷ []; count_is = refl; taken = refl }
