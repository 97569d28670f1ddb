-- Sets of packing sets, by their members, which are numbers below MAX_SETS.
use Rattle.std.specs.Prelude.{◌≡◌, ℕ, zero, suc, ◌+◌, ◌*◌, ◌<◌, ◌/◌, ◌%◌, ◌^◌, ◌==◌, ◌&&◌, ◌||◌, not, nat_lt, if◌then◌else◌, Bool, true, false, IsTrue, length, map, slice_index}
use Rattle.std.specs.List.{range_with_len}
use Rattle.std.specs.Int.{bit_at}
use Rattle.path_graph.specs.declared.limits.TheConstants.{MAX_SETS}
use Rattle.path_graph.specs.declared.set_bits.SetBits.{SetBits}

-- whether the number is a member
unfoldable pub has_set : SetBits → ℕ → Bool
has_set set s = nat_lt s MAX_SETS && (bit_at (slice_index set.bits (s / 64)) (s % 64) == 1)

-- no number is a member
abbrev pub HasNoMember : SetBits → Type 0
HasNoMember set = (k : ℕ) → has_set set k ≡ false

-- the members of the one and, besides, s
abbrev pub IsWith : SetBits → ℕ → SetBits → Type 0
IsWith set s more = (k : ℕ) → has_set more k ≡ (has_set set k || (k == s))

-- the members of both a and b
abbrev pub IsMeet : SetBits → SetBits → SetBits → Type 0
IsMeet a b both = (k : ℕ) → has_set both k ≡ (has_set a k && has_set b k)

-- each member of the one is a member of the other
abbrev pub IsSubset : SetBits → SetBits → Type 0
IsSubset a b = (s : ℕ) → IsTrue (has_set a s) → IsTrue (has_set b s)

-- as every set that a call makes: eight words of 64 bits. Two such sets with the same members are equal
abbrev pub IsWhole : SetBits → Type 0
IsWhole set = (length set.bits ≡ 8) × ((k : ℕ) → slice_index set.bits k < 2 ^ 64)

-- the number whose bit i, for each i below n, is 1 where i passes the test
unfoldable pub word_of : (ℕ → Bool) → ℕ → ℕ
word_of test zero = 0
word_of test (suc n) = (if test n then 1 else 0) * 2 ^ n + word_of test n

-- the set of the numbers below MAX_SETS that pass the test
unfoldable pub set_of : (ℕ → Bool) → SetBits
set_of test = record { bits = map (λ k. word_of (λ i. test (k * 64 + i)) 64) (range_with_len 0 8) }

-- each number below n passes the test
unfoldable pub all_below : (ℕ → Bool) → ℕ → Bool
all_below test zero = true
all_below test (suc n) = test n && all_below test n

-- whether each member of the one is a member of the other
unfoldable pub is_subset : SetBits → SetBits → Bool
is_subset a b = all_below (λ s. not (has_set a s) || has_set b s) MAX_SETS
