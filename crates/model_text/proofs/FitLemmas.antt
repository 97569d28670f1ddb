-- What words give, where no fault comes.
use Rattle.std.proofs.Common.{◌≡◌, ℕ, zero, suc, ◌<◌, Bool, true, false, List, [], ◌∷◌, length, get_or, refl, subst, arith, Result, Ok, Err}
use Rattle.std.specs.Prelude.{◌||◌}
use Rattle.path_graph.specs.Walk.{positions}
use Rattle.line_text.specs.declared.fault.Kind.{Kind}
use Rattle.line_text.specs.Words.{Words, Wants, ◌>>=◌, and_then, give}
use Rattle.line_text.proofs.Judgement.{Reads, Any}
use Rattle.line_text.proofs.ListReads.{AllAt}

-- what is given where no fault comes
pub record GivesOnly {A : Type 0} (wanted : Wants A) (P : A → Type 0) : Type 0 where
  pub each : (words : Words) (y : A × Words) → wanted words ≡ Ok y → P y.0

pub given : {A : Type 0} {P : A → Type 0} (x : A) → P x → GivesOnly (give x) P
given {A} {P} x p = record { each = λ words y e. subst (λ (z : A × Words). P z.0) (same x words y e) p }
  where
    same : {A : Type 0} (x : A) (words : Words) (y : A × Words) → give x words ≡ Ok y → (x, words) ≡ y
    same x words y e = cc

first_given : {A B : Type 0} {P : A → Type 0} {Q : B → Type 0} (r : Result (A × Words) Kind) (next : A → Wants B) → ((x : A × Words) → r ≡ Ok x → P x.0) → ((x : A) → P x → GivesOnly (next x) Q) → (y : B × Words) → and_then r next ≡ Ok y → Q y.0
first_given (Ok x) next p q y e = (q x.0 (p x refl)).each x.1 y e
first_given (Err kind) next p q y e = cc

pub after : {A B : Type 0} {P : A → Type 0} {Q : B → Type 0} {wanted : Wants A} {next : A → Wants B} → GivesOnly wanted P → ((x : A) → P x → GivesOnly (next x) Q) → GivesOnly (wanted >>= next) Q
after {wanted = wanted} {next = next} p q = record { each = λ words y e. first_given (wanted words) next (p.each words) q y e }

-- a judgement says what is given
pub gives : {A : Type 0} {wanted : Wants A} {form : A → Words} {holds : A → Type 0} {behind : Words → Type 0} → Reads wanted Any form holds behind → GivesOnly wanted holds
gives p = record { each = λ words y e. (p.told words y e).fits }

pub weaker : {A : Type 0} {P Q : A → Type 0} {wanted : Wants A} → GivesOnly wanted P → ((x : A) → P x → Q x) → GivesOnly wanted Q
weaker p q = record { each = λ words y e. q y.0 (p.each words y e) }

pub or_false : (a b : Bool) → (a || b) ≡ false → (a ≡ false) × (b ≡ false)
or_false true b h = cc
or_false false b h = (refl, h)

-- what holds at each position of a list of six
pub six : {A : Type 0} (P : ℕ → A → Type 0) (d : A) (xs : List A) → AllAt P positions xs → (length xs ≡ 6) × ((k : ℕ) → k < length xs → P k (get_or xs k d))
six P d (x0 ∷ x1 ∷ x2 ∷ x3 ∷ x4 ∷ x5 ∷ []) all = (refl, at)
  where
    at : (k : ℕ) → k < 6 → P k (get_or (x0 ∷ x1 ∷ x2 ∷ x3 ∷ x4 ∷ x5 ∷ []) k d)
    at zero h = all.0
    at (suc zero) h = all.1.0
    at (suc (suc zero)) h = all.1.1.0
    at (suc (suc (suc zero))) h = all.1.1.1.0
    at (suc (suc (suc (suc zero)))) h = all.1.1.1.1.0
    at (suc (suc (suc (suc (suc zero))))) h = all.1.1.1.1.1.0
    at (suc (suc (suc (suc (suc (suc k)))))) h = absurd (omega arith)
six P d [] all = absurd all
six P d (x0 ∷ []) all = absurd all.1
six P d (x0 ∷ x1 ∷ []) all = absurd all.1.1
six P d (x0 ∷ x1 ∷ x2 ∷ []) all = absurd all.1.1.1
six P d (x0 ∷ x1 ∷ x2 ∷ x3 ∷ []) all = absurd all.1.1.1.1
six P d (x0 ∷ x1 ∷ x2 ∷ x3 ∷ x4 ∷ []) all = absurd all.1.1.1.1.1
six P d (x0 ∷ x1 ∷ x2 ∷ x3 ∷ x4 ∷ x5 ∷ x6 ∷ xs) all = absurd all.1.1.1.1.1.1
