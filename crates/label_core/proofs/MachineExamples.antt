-- A worked run: the root is claimed, and its extension comes to the table.
use Rattle.std.specs.Prelude.{◌≡◌, ℕ, ◌-◌, true, pos, nat_le, cond, Some, None, [], ◌∷◌, refl, length}
use Rattle.std.proofs.Common.{◌<◌, lit<, zero, suc, arith}
use Rattle.std.specs.Prelude.{slice_get}
use Rattle.label_space.specs.Rules.{Rules}
use Rattle.label_core.specs.declared.table.Place.{Place}
use Rattle.label_core.specs.declared.table.Entry.{Entry}
use Rattle.label_core.specs.declared.table.Turn.TheVariants.{Claimed}
use Rattle.label_core.specs.Tables.{place, entries_of}
use Rattle.label_core.specs.Puts.{fresh, with_turn, CoversNot}
use Rattle.label_core.specs.declared.machine.Core.{Core}
use Rattle.label_core.specs.declared.machine.PassState.{PassState}
use Rattle.label_core.specs.declared.machine.Mark.TheVariants.{Claim}
use Rattle.label_core.specs.declared.machine.Event.TheVariants.{Take, PutMarks, Ticket, PutEntry}
use Rattle.label_core.specs.Passes.{claim, took, freed, claimed, ticketed, spent}
use Rattle.label_core.specs.Steps.{after_take, after_mark, after_back, after_ticket, after_put, Steps, opened, first_pass}
use Rattle.label_core.specs.Runs.{Runs}

-- over the one choice 5 becomes 3 and 3 becomes 1; each is dominated by what is less
abbrev steps : Rules ℕ
steps = record {
  fits = λ _. true;
  root = 5;
  cells = 2;
  cell = λ _. 1;
  degree = λ _. 1;
  level = λ n. pos n;
  extend = λ n _. cond (nat_le 2 n) (Some (n - 2)) None;
  dominates = nat_le;
}

abbrev x0 : Core ℕ
x0 = opened steps 4 2

abbrev s0 : PassState
s0 = first_pass 2 2

abbrev s1 : PassState
s1 = took 1 1 s0

abbrev x1 : Core ℕ
x1 = after_take x0 0 1 s0

abbrev s2 : PassState
s2 = claimed (place 1 0) s1

abbrev root_claimed : Entry ℕ
root_claimed = with_turn (Claimed 0) (fresh 5 None)

abbrev x2 : Core ℕ
x2 = after_mark x1 0 s2 (place 1 0) root_claimed

abbrev x3 : Core ℕ
x3 = after_back x2 0 1 s2

abbrev s3 : PassState
s3 = freed s2

abbrev x4 : Core ℕ
x4 = after_take x3 0 1 s3

abbrev s4 : PassState
s4 = took 1 1 s3

abbrev x5 : Core ℕ
x5 = after_ticket x4 0 s4

abbrev s5 : PassState
s5 = ticketed s4

abbrev x6 : Core ℕ
x6 = after_put steps x5 0 1 s5 0 (claim (place 1 0) []) [] 3

abbrev s6 : PassState
s6 = spent 1 2 0 (claim (place 1 0) (Rattle.label_core.specs.declared.table.Fate.TheVariants.At (place 1 1) ∷ [])) s5

abbrev x7 : Core ℕ
x7 = after_back x6 0 1 s6

covers_not : CoversNot steps (entries_of x5.table.cells 1) 3
covers_not zero e at kept = let h : root_claimed ≡ e = cc in Rattle.std.proofs.Common.subst (λ (z : Entry ℕ). nat_le z.label 3 ≡ Rattle.std.specs.Prelude.false) h refl
covers_not (suc i) e at kept = absurd (cc)

run : Runs steps x0 (Take 0 1 ∷ PutMarks 0 (Claim 0 ∷ []) ∷ Take 0 1 ∷ Ticket 0 ∷ PutEntry 0 (place 1 0) [] 3 ∷ []) x7
run = (
  x1,
  (s0, (refl, refl), (λ e. absurd (cc)), refl, refl, refl),
  (
    x3,
    (1, x2, (x2, (s1, (refl, refl, refl), fresh 5 None, record { stands = refl; fresh_still = refl; kept = refl }, refl), refl), (s2, (refl, refl, refl), refl, refl)),
    (
      x4,
      (s3, (refl, refl), (λ e. absurd (cc)), refl, refl, refl),
      (
        x5,
        (1, s4, (refl, refl, refl), (λ e. absurd (cc)), refl, refl, refl),
        (
          x7,
          (
            1,
            s5,
            0,
            claim (place 1 0) [],
            root_claimed,
            record {
              holds = (refl, refl, refl);
              ticket = refl;
              claim_at = refl;
              parent = refl;
              new = record { cell_is = refl; legal = λ j f at. absurd (cc); extends = (lit< tt, refl); uncovered = covers_not };
            },
            refl,
            (s6, (refl, refl, refl), refl, refl),
          ),
          refl,
        ),
      ),
    ),
  ),
)
