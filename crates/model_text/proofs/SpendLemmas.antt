-- What is told by words, with the words that are spent for it, in printed form.
use Rattle.std.proofs.Common.{◌≡◌, [], ◌++◌, map, refl, ap, subst, sym, ◌∙◌, Result, Ok, Err, append_assoc}
use Rattle.std.proofs.lemmas.List.{map-append}
use Rattle.line_text.specs.declared.fault.Kind.{Kind}
use Rattle.line_text.specs.Words.{Words, Wants, ◌>>=◌, and_then, give}
use Rattle.line_text.specs.Spelling.{in_printed_form}
use Rattle.line_text.proofs.Judgement.{Reads, Any}

-- the words in front of those that are left
abbrev pub Spent : {A : Type 0} → (A → Words → Type 0) → Words → A × Words → Type 0
Spent Q words y = (taken : Words) × (words ≡ taken ++ y.1) × Q y.0 (map in_printed_form taken)

pub record Spends {A : Type 0} (wanted : Wants A) (Q : A → Words → Type 0) : Type 0 where
  pub each : (words : Words) (y : A × Words) → wanted words ≡ Ok y → Spent Q words y

pub given : {A : Type 0} {Q : A → Words → Type 0} (x : A) → Q x [] → Spends (give x) Q
given {A} {Q} x q = record { each = λ words y e. subst (λ (z : A × Words). Spent Q words z) (same x words y e) ([], refl, q) }
  where
    same : {A : Type 0} (x : A) (words : Words) (y : A × Words) → give x words ≡ Ok y → (x, words) ≡ y
    same x words y e = cc

first_spent : {A B : Type 0} {P : A → Words → Type 0} (Q : B → Words → Type 0) (words : Words) (r : Result (A × Words) Kind) (next : A → Wants B) → ((x : A × Words) → r ≡ Ok x → Spent P words x) → ((x : A) (ws : Words) → P x ws → Spends (next x) (λ z us. Q z (ws ++ us))) → (y : B × Words) → and_then r next ≡ Ok y → Spent Q words y
first_spent Q words (Ok x) next p q y e =
    let first = p x refl in
    let second = (q x.0 (map in_printed_form first.0) first.2).each x.1 y e in (
      first.0 ++ second.0,
      first.1 ∙ (ap (λ ws. first.0 ++ ws) second.1 ∙ sym (append_assoc first.0 second.0 y.1)),
      subst (λ ws. Q y.0 ws) (sym (map-append in_printed_form first.0 second.0)) second.2,
    )
first_spent Q words (Err kind) next p q y e = cc

-- one thing after the other
pub after : {A B : Type 0} {P : A → Words → Type 0} {Q : B → Words → Type 0} {wanted : Wants A} {next : A → Wants B} → Spends wanted P → ((x : A) (ws : Words) → P x ws → Spends (next x) (λ z us. Q z (ws ++ us))) → Spends (wanted >>= next) Q
after {Q = Q} {wanted = wanted} {next = next} p q = record { each = λ words y e. first_spent Q words (wanted words) next (p.each words) q y e }

pub weaker : {A : Type 0} {P Q : A → Words → Type 0} {wanted : Wants A} → Spends wanted P → ((x : A) (ws : Words) → P x ws → Q x ws) → Spends wanted Q
weaker p q = record { each = λ words y e. let is = p.each words y e in (is.0, is.1, q y.0 _ is.2) }

-- a judgement says which words are spent, and what holds of the thing
pub spends : {A : Type 0} {wanted : Wants A} {form : A → Words} {holds : A → Type 0} {behind : Words → Type 0} → Reads wanted Any form holds behind → Spends wanted (λ x ws. (ws ≡ form x) × holds x)
spends p = record { each = λ words y e. let is = p.told words y e in (is.front, is.is, (is.spells, is.fits)) }
