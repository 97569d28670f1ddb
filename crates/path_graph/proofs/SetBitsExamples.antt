-- Worked rows of the definitions on sets of packing sets, by computing.
use Rattle.std.proofs.Common.{◌≡◌, ◌==◌, ◌||◌, nat_lt, true, false, [], ◌∷◌, refl}
use Rattle.std.proofs.lemmas.Bool.{agree_below}
use Rattle.path_graph.specs.declared.set_bits.SetBits.{SetBits}
use Rattle.path_graph.specs.SetBits.{has_set, word_of, set_of, all_below, is_subset}

-- 0 and 2
abbrev low : SetBits
low = record { bits = 5 ∷ 0 ∷ 0 ∷ 0 ∷ 0 ∷ 0 ∷ 0 ∷ 0 ∷ [] }

-- 0, 2, 64 and 511
abbrev wide : SetBits
wide = record { bits = 5 ∷ 1 ∷ 0 ∷ 0 ∷ 0 ∷ 0 ∷ 0 ∷ 9223372036854775808 ∷ [] }

lowest : has_set low 0 ≡ true
unfolding has_set
lowest = refl

between : has_set low 1 ≡ false
unfolding has_set
between = refl

second : has_set low 2 ≡ true
unfolding has_set
second = refl

not_64 : has_set low 64 ≡ false
unfolding has_set
not_64 = refl

is_64 : has_set wide 64 ≡ true
unfolding has_set
is_64 = refl

last : has_set wide 511 ≡ true
unfolding has_set
last = refl

before_last : has_set wide 510 ≡ false
unfolding has_set
before_last = refl

-- no number of 512 or more, whatever the words
past : has_set (record { bits = 0 ∷ 0 ∷ 0 ∷ 0 ∷ 0 ∷ 0 ∷ 0 ∷ 0 ∷ 1 ∷ [] }) 512 ≡ false
unfolding has_set
past = refl

made : set_of (λ s. (s == 0) || (s == 2)) ≡ low
unfolding set_of word_of
made = refl

made_wide : set_of (λ s. ((s == 0) || (s == 2)) || ((s == 64) || (s == 511))) ≡ wide
unfolding set_of word_of
made_wide = refl

none_past : set_of (λ s. nat_lt 511 s) ≡ record { bits = 0 ∷ 0 ∷ 0 ∷ 0 ∷ 0 ∷ 0 ∷ 0 ∷ 0 ∷ [] }
unfolding set_of word_of
none_past = refl

part : is_subset low wide ≡ true
unfolding is_subset all_below has_set
part = refl

whole_is_no_part : is_subset wide low ≡ false
unfolding is_subset all_below has_set
whole_is_no_part = refl

-- with 1 more, 0, 1 and 2
with_one : agree_below (has_set (record { bits = 7 ∷ 0 ∷ 0 ∷ 0 ∷ 0 ∷ 0 ∷ 0 ∷ 0 ∷ [] })) (λ k. has_set low k || (k == 1)) 512 ≡ true
unfolding has_set
with_one = refl
