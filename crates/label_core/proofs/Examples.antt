-- Worked rows about tables of labels.
use Rattle.std.specs.Prelude.{◌≡◌, ℕ, ◌-◌, true, pos, nat_le, cond, Some, None, [], ◌∷◌, refl}
use Rattle.std.proofs.Common.{◌<◌, lit<}
use Rattle.label_space.specs.Rules.{Rules}
use Rattle.label_core.specs.declared.table.Place.{Place}
use Rattle.label_core.specs.declared.table.Fate.TheVariants.{Void}
use Rattle.label_core.specs.declared.table.Turn.TheVariants.{Done}
use Rattle.label_core.specs.declared.table.Entry.{Entry}
use Rattle.label_core.specs.Tables.{Cells, place, StandsAt, entry_count, HasKept}
use Rattle.label_core.specs.Walks.{origin, Reaches, LeadsBack, IsWalkOf}
use Rattle.label_core.specs.Points.{LinksOver}
use Rattle.label_core.specs.Puts.{opening, fresh, gone_by, with_turn, set_at, put}
use Rattle.label_core.specs.Closed.{Covers}
use Rattle.label_core.specs.Fates.{IsLegal}

-- over the one choice 5 becomes 3 and 3 becomes 1; each is dominated by what is less
abbrev steps : Rules ℕ
steps = record {
  fits = λ _. true;
  root = 5;
  cells = 2;
  cell = λ _. 1;
  degree = λ _. 1;
  level = λ n. pos n;
  extend = λ n _. cond (nat_le 2 n) (Some (n - 2)) None;
  dominates = nat_le;
}

abbrev five : Entry ℕ
five = fresh 5 None

abbrev three : Entry ℕ
three = fresh 3 (Some (origin (place 1 0) 0))

abbrev one : Entry ℕ
one = fresh 1 (Some (origin (place 1 1) 0))

-- the root, then 3, then 1: each takes away the one before
abbrev two_entries : Cells ℕ
two_entries = put steps (opening steps) 1 three

abbrev all_entries : Cells ℕ
all_entries = put steps two_entries 1 one

opens : opening steps ≡ [] ∷ (five ∷ []) ∷ []
opens = refl

three_takes_five : two_entries ≡ [] ∷ (gone_by (place 1 1) five ∷ three ∷ []) ∷ []
three_takes_five = refl

-- what is gone keeps its link
one_takes_three_alone : all_entries ≡ [] ∷ (gone_by (place 1 1) five ∷ gone_by (place 1 2) three ∷ one ∷ []) ∷ []
one_takes_three_alone = refl

counted : entry_count all_entries ≡ 3
counted = refl

one_stands : StandsAt all_entries (place 1 2) one
one_stands = refl

nothing_stands_past_the_end : (e : Entry ℕ) → StandsAt all_entries (place 1 3) e → ⊥
nothing_stands_past_the_end e s = (cc)

nothing_stands_in_no_cell : (e : Entry ℕ) → StandsAt all_entries (place 2 0) e → ⊥
nothing_stands_in_no_cell e s = (cc)

links_end_at_one : LinksOver all_entries (place 1 0) (place 1 1 ∷ place 1 2 ∷ [])
links_end_at_one = (gone_by (place 1 1) five, refl, refl, (gone_by (place 1 2) three, refl, refl, (one, refl, refl)))

back_to_the_root : LeadsBack all_entries (place 1 2) (0 ∷ 0 ∷ [])
back_to_the_root = (one, refl, place 1 1, refl, (gone_by (place 1 2) three, refl, place 1 0, refl, (gone_by (place 1 1) five, refl, refl)))

walk_of_one : IsWalkOf all_entries (place 1 2) (0 ∷ 0 ∷ [])
walk_of_one = back_to_the_root

-- a walk is told from the root on
last_arc_first_back : (t : Cells ℕ) (p : Place) → IsWalkOf t p (4 ∷ 7 ∷ []) ≡ LeadsBack t p (7 ∷ 4 ∷ [])
last_arc_first_back t p = refl

first_choice : 0 < 1
first_choice = lit< tt

five_reaches_one : Reaches steps 5 (0 ∷ 0 ∷ []) 1
five_reaches_one = (3, (first_choice, refl), (1, (first_choice, refl), refl))

one_covers_five : Covers steps (HasKept all_entries) 5
one_covers_five = (1, (place 1 2, one, refl, refl, refl), refl)

refused_after_one : IsLegal steps all_entries 1 0 Void
refused_after_one = refl

done_three : set_at two_entries (place 1 1) (with_turn (Done (Void ∷ [])) three) ≡ [] ∷ (gone_by (place 1 1) five ∷ with_turn (Done (Void ∷ [])) three ∷ []) ∷ []
done_three = refl
