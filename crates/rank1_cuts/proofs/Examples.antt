-- Worked rows of the definitions, by computing.
use Rattle.std.proofs.Common.{◌≡◌, ℕ, ◌<◌, true, List, [], ◌∷◌, Option, None, Some, zero, suc, refl, arith}
use Rattle.path_graph.specs.declared.set_bits.SetBits.{SetBits}
use Rattle.path_graph.specs.SetBits.{has_set}
use Rattle.rank1_cuts.specs.declared.cut.Cut.{Cut}
use Rattle.rank1_cuts.specs.declared.cut.CutSet.{CutSet}
use Rattle.rank1_cuts.specs.declared.cut.CutFault.TheVariants.{Denominator, Empty, Repeated, Numerator}
use Rattle.rank1_cuts.specs.Fit.{IsRepeated, HasNumerator, IsFault, right_side_of}
use Rattle.rank1_cuts.specs.Visits.{rises, state_after, state_from, coef_of}
use Rattle.rank1_cuts.specs.Solutions.{TakenWalk, visits_in, coef_in, coef_joined}

abbrev item : ℕ → ℕ → CutSet
item set num = record { set = set; num = num }

-- the sets that the bits of one word name
abbrev memory_of : ℕ → SetBits
memory_of word = record { bits = word ∷ 0 ∷ 0 ∷ 0 ∷ 0 ∷ 0 ∷ 0 ∷ 0 ∷ [] }

abbrev ones : List CutSet
ones = item 0 1 ∷ item 1 1 ∷ item 2 1 ∷ []

-- denominator 2 on the sets 0, 1, 2, which are its memory too
abbrev full : Cut
full = record { den = 2; sets = ones; memory = memory_of 7 }

-- the same with memory 0 and 2
abbrev limited : Cut
limited = record { den = 2; sets = ones; memory = memory_of 5 }

-- denominator 4, the set 0 with numerator 3 and 1 with 2, and 5 in the memory besides
abbrev fourths : Cut
fourths = record { den = 4; sets = item 0 3 ∷ item 1 2 ∷ []; memory = memory_of 35 }

abbrev over : List ℕ → List (Option ℕ)
over [] = []
over (s ∷ rest) = Some s ∷ over rest

first_state : state_from full 0 (over (0 ∷ [])) ≡ 1
unfolding has_set
first_state = refl

second_state : state_from full 0 (over (0 ∷ 1 ∷ [])) ≡ 0
unfolding has_set
second_state = refl

third_state : state_from full 0 (over (0 ∷ 1 ∷ 2 ∷ [])) ≡ 1
unfolding has_set
third_state = refl

whole_coef : coef_of full (over (0 ∷ 1 ∷ 2 ∷ [])) ≡ 1
unfolding has_set
whole_coef = refl

-- what limited memory loses: the visit to 1 forgets the visit to 0
forgotten_state : state_from limited 0 (over (0 ∷ 1 ∷ [])) ≡ 0
unfolding has_set
forgotten_state = refl

begun_anew : state_from limited 0 (over (0 ∷ 1 ∷ 2 ∷ [])) ≡ 1
unfolding has_set
begun_anew = refl

lost_coef : coef_of limited (over (0 ∷ 1 ∷ 2 ∷ [])) ≡ 0
unfolding has_set
lost_coef = refl

-- 3 and 2 make 5, of which 1 is left
carried : state_after fourths 3 (Some 1) ≡ 1
unfolding has_set
carried = refl

carries : rises fourths 3 (Some 1) ≡ true
unfolding has_set
carries = refl

-- a set of the memory that is not in the cut adds 0; a vertex in no set changes nothing
adds_nothing : state_from fourths 3 (Some 5 ∷ None ∷ []) ≡ 3
unfolding has_set
adds_nothing = refl

-- a number of 512 or more is in no memory
outside : state_after fourths 3 (Some 512) ≡ 0
unfolding has_set
outside = refl

-- 0, 1, 0, 0 make 3, 5, 4 and 3 with what is left over: two rises
twice : coef_of fourths (Some 0 ∷ Some 1 ∷ None ∷ Some 0 ∷ Some 0 ∷ []) ≡ 2
unfolding has_set
twice = refl

no_visits : coef_of full [] ≡ 0
no_visits = refl

-- a walk over 0 and 1, taken twice, and one over 2 and 5, taken three times
abbrev plan : List TakenWalk
plan = (2, over (0 ∷ 1 ∷ [])) ∷ (3, over (2 ∷ 5 ∷ [])) ∷ []

thrice : visits_in plan 5 ≡ 3
thrice = refl

two_of_plan : coef_in full plan ≡ 2
unfolding has_set
two_of_plan = refl

-- 1 and 1 make up the denominator where the visits 0 and 1 are joined
made_up : coef_joined full (over (0 ∷ [])) (over (1 ∷ [])) ≡ 1
unfolding has_set
made_up = refl

-- 2 and 1 do so backward already, and the state 1 after the visit 0 is left over
already : coef_joined full (over (0 ∷ [])) (over (2 ∷ 1 ∷ [])) ≡ 1
unfolding has_set
already = refl

-- where visit 1 is forgotten, 2 and 1 leave 0, and nothing is made up
forgotten_join : coef_joined limited (over (0 ∷ [])) (over (2 ∷ 1 ∷ [])) ≡ 0
unfolding has_set
forgotten_join = refl

half_of_three : right_side_of full ≡ 1
half_of_three = refl

fourth_of_five : right_side_of fourths ≡ 1
fourth_of_five = refl

-- 4 and then 5: neither is repeated
once_two : (b : ℕ) (rest : List CutSet) (k : ℕ) → k < 2 → ¬ (IsRepeated (item 4 1 ∷ item 5 b ∷ rest) k)
once_two b rest zero l h = omega (arith, h.1)
once_two b rest (suc zero) l (zero, below, same) = let differ : ◌≡◌ {A = ℕ} 4 5 = same in omega arith
once_two b rest (suc zero) l (suc j, below, same) = omega arith
once_two b rest (suc (suc k)) l h = omega arith

-- 1 is a numerator over 3
before_one : (j : ℕ) → j < 1 → ¬ (¬ (HasNumerator 3 (item 4 1 ∷ item 5 3 ∷ []) j))
before_one zero l none = none (omega arith, omega arith)
before_one (suc j) l none = omega arith

-- 4 stands again at place 2, where 0 is no numerator either
again : IsFault (record { den = 3; sets = item 4 1 ∷ item 5 2 ∷ item 4 0 ∷ []; memory = memory_of 0 }) (Repeated 4)
again = (
  (omega arith, omega arith),
  omega arith,
  omega arith,
  (
    2,
    record {
      within = omega arith;
      here = (0, omega arith, refl);
      before = λ j l. once_two 2 (item 4 0 ∷ []) j l;
    },
    refl,
  ),
)

too_great : IsFault (record { den = 3; sets = item 4 1 ∷ item 5 3 ∷ []; memory = memory_of 0 }) (Numerator 5)
too_great = (
  (omega arith, omega arith),
  omega arith,
  omega arith,
  once_two 3 [],
  (
    1,
    record {
      within = omega arith;
      here = λ h. omega (arith, h.1);
      before = before_one;
    },
    refl,
  ),
)

none_at_all : IsFault (record { den = 8; sets = []; memory = memory_of 0 }) Empty
none_at_all = ((omega arith, omega arith), refl)

nine : IsFault (record { den = 9; sets = []; memory = memory_of 0 }) Denominator
nine = λ h. omega arith
