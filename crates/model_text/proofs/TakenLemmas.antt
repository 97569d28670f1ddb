-- Words in printed form are taken as what they spell.
use Rattle.std.proofs.Common.{◌≡◌, Bool, true, false, List, [], ◌∷◌, ◌++◌, map, refl, ap, ◌∙◌, Ok}
use Rattle.std.specs.Prelude.{◌||◌, if◌then◌else◌}
use Rattle.line_text.specs.Words.{Words, Wants, ◌>>=◌, and_then, give}
use Rattle.line_text.specs.Spelling.{in_printed_form}
use Rattle.line_text.proofs.Judgement.{Reads, Any, no_items}

-- a list whose image begins with an item
pub record Headed {X Y : Type 0} (view : X → Y) (xs : List X) (y : Y) (ys : List Y) : Type 0 where
  pub first : X
  pub others : List X
  pub is : xs ≡ first ∷ others
  pub head : view first ≡ y
  pub tail : map view others ≡ ys

pub headed : {X Y : Type 0} (view : X → Y) (xs : List X) (y : Y) (ys : List Y) → map view xs ≡ y ∷ ys → Headed view xs y ys
headed view [] y ys e = cc
headed view (x ∷ xs) y ys e = record { first = x; others = xs; is = refl; head = cc; tail = cc }

-- words of a printed form are taken as a thing, and these words are left
pub record Takes {A : Type 0} (wanted : Wants A) (form : Words) (x : A) (left : Words) : Type 0 where
  pub each : (words : Words) → map in_printed_form words ≡ form → wanted (words ++ left) ≡ Ok (x, left)

pub given : {A : Type 0} (x : A) (left : Words) → Takes (give x) [] x left
given x left = record { each = λ words e. ap (λ (l : Words). give x (l ++ left)) (no_items in_printed_form words e) }

-- the last words are taken, and then no word is wanted
pub and_none : {A B : Type 0} {wanted : Wants A} (next : A → Wants B) {form left : Words} {x : A} {y : B} → Takes wanted form x left → Takes (next x) [] y left → Takes (wanted >>= next) form y left
and_none next p q =
    record { each = λ words e. ap (λ r. and_then r next) (p.each words e) ∙ q.each [] refl }

-- a judgement says which words are taken
pub takes : {A : Type 0} {wanted : Wants A} {form : A → Words} {holds : A → Type 0} {behind : Words → Type 0} → Reads wanted Any form holds behind → (x : A) → holds x → (left : Words) → behind left → Takes wanted (form x) x left
takes p x h left b = record { each = λ words e. p.taken x words left tt h e b }

pub by_true : {A : Type 0} (m n : A) (b : Bool) → b ≡ true → (if b then m else n) ≡ m
by_true m n true is = refl
by_true m n false is = cc

pub by_false : {A : Type 0} (m n : A) (b : Bool) → b ≡ false → (if b then m else n) ≡ n
by_false m n true is = cc
by_false m n false is = refl

pub neither : (a b : Bool) → a ≡ false → b ≡ false → (a || b) ≡ false
neither true b p q = cc
neither false b p q = q
