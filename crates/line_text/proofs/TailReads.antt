-- Stated words, and tails that a stated word begins.
use Rattle.std.proofs.Common.{◌≡◌, ℕ, Bool, true, false, not, List, [], ◌∷◌, ◌++◌, map, refl, ap, subst, sym, ◌∙◌, None, Result, Ok}
use Rattle.std.specs.Prelude.{All, if◌then◌else◌}
use Rattle.std.specs.Str.{bytes_eq}
use Rattle.std.proofs.lemmas.Slice.Eq.{bytes_eq-Decides}
use Rattle.std.proofs.lemmas.List.Elements.{All-nil, All-cons}
use Rattle.vrp_lex.specs.Text.{number_of}
use Rattle.line_text.specs.declared.fault.Kind.{Kind}
use Rattle.line_text.specs.declared.fault.Kind.TheVariants as fault
use Rattle.line_text.specs.Words.{Words, Wants, fault_if, exactly, tail}
use Rattle.line_text.specs.Spelling.{in_printed_form}
use Rattle.line_text.proofs.PrintedWordLemmas.{IsPrinted}
use Rattle.line_text.proofs.NumberWordLemmas.{plain_is, printed_plain}
use Rattle.line_text.proofs.Judgement.{Reads, Spent, Any, Anything, no_items}

-- a stated word
pub exactly-reads : (key : List ℕ) → IsPrinted key → number_of key ≡ None → Reads (exactly key) Any (λ _. key ∷ []) Any Anything
exactly-reads key key_printed plain = record { told = told; taken = taken; printed = λ x k h. All-cons IsPrinted key [] key_printed (All-nil IsPrinted) }
  where
    told : (words : Words) (y : Unit {0} × Words) → exactly key words ≡ Ok y → Spent Any (λ _. key ∷ []) Any words y
    told [] y h = cc
    told (w ∷ words) y h = by_test (bytes_eq w key) refl h
      where
        by_test : (b : Bool) → bytes_eq w key ≡ b → fault_if fault.Word (not b) words ≡ Ok y → Spent Any (λ _. key ∷ []) Any (w ∷ words) y
        by_test false is h = cc
        by_test true is h =
            let same : (tt, words) ≡ y = cc in
            subst (λ (z : Unit {0} × Words). Spent Any (λ _. key ∷ []) Any (w ∷ words) z) same
            (record { front = w ∷ []; is = refl; knows = tt; spells = ap (λ v. v ∷ []) (printed_plain w key plain ((bytes_eq-Decides w key).0 is)); fits = tt })

    taken : (x : Unit {0}) (words left : Words) → Any x → Any x → map in_printed_form words ≡ key ∷ [] → Anything left → exactly key (words ++ left) ≡ Ok (x, left)
    taken x [] left k h e f = cc
    taken x (w ∷ words) left k h e f =
        let head : in_printed_form w ≡ key = cc in
        let rest : map in_printed_form words ≡ [] = cc in
        let none = no_items in_printed_form words rest in
        let equal = (bytes_eq-Decides w key).1 (plain_is w key plain head) in
        rw (equal, none) refl

-- a tail of one thing or more
abbrev pub tail_words : {A : Type 0} → List ℕ → (List A → Words) → List A → Words
tail_words key form [] = []
tail_words key form (x ∷ xs) = key ∷ form (x ∷ xs)

abbrev pub TailMay : {A : Type 0} → (List A → Type 0) → List A → Type 0
TailMay holds [] = Unit {0}
TailMay holds (x ∷ xs) = holds (x ∷ xs)

pub tail-reads : {A : Type 0} {wanted : Wants (List A)} {form : List A → Words} {holds : List A → Type 0} {behind : Words → Type 0} (key : List ℕ) → IsPrinted key → number_of key ≡ None → (holds [] → ⊥) → ((w : List ℕ) (left : Words) → behind (w ∷ left) → bytes_eq w key ≡ false) → Reads wanted Any form holds behind → Reads (tail key wanted) Any (tail_words key form) (TailMay holds) behind
tail-reads {A} {wanted} {form} {holds} {behind} key key_printed plain some other p = record { told = told; taken = taken; printed = printed }
  where
    none_told : (words : Words) (y : List A × Words) → ◌≡◌ {A = Result (List A × Words) Kind} (Ok ([], words)) (Ok y) → Spent Any (tail_words key form) (TailMay holds) words y
    none_told words y h =
        let same : ◌≡◌ {A = List A × Words} ([], words) y = cc in
        subst (λ (z : List A × Words). Spent Any (tail_words key form) (TailMay holds) words z) same (record { front = []; is = refl; knows = tt; spells = refl; fits = tt })

    some_words : (xs : List A) → holds xs → (tail_words key form xs ≡ key ∷ form xs) × TailMay holds xs
    some_words [] h = absurd (some h)
    some_words (x ∷ xs) h = (refl, h)

    told : (words : Words) (y : List A × Words) → tail key wanted words ≡ Ok y → Spent Any (tail_words key form) (TailMay holds) words y
    told [] y h = none_told [] y h
    told (w ∷ words) y h = by_test (bytes_eq w key) refl h
      where
        by_test : (b : Bool) → bytes_eq w key ≡ b → (if b then wanted words else Ok ([], w ∷ words)) ≡ Ok y → Spent Any (tail_words key form) (TailMay holds) (w ∷ words) y
        by_test false is h = none_told (w ∷ words) y h
        by_test true is h =
            let spent = p.told words y h in
            let more = some_words y.0 spent.fits in
            record {
              front = w ∷ spent.front;
              is = ap (λ ws. w ∷ ws) spent.is;
              knows = tt;
              spells = ap (λ v. v ∷ map in_printed_form spent.front) (printed_plain w key plain ((bytes_eq-Decides w key).0 is)) ∙ (ap (λ ws. key ∷ ws) spent.spells ∙ sym more.0);
              fits = more.1;
            }

    none_taken : (left : Words) → behind left → tail key wanted left ≡ Ok ([], left)
    none_taken [] f = refl
    none_taken (w ∷ left) f = rw (other w left f) refl

    taken : (xs : List A) (words left : Words) → Any xs → TailMay holds xs → map in_printed_form words ≡ tail_words key form xs → behind left → tail key wanted (words ++ left) ≡ Ok (xs, left)
    taken [] words left k h e f = ap (λ (ws : Words). tail key wanted (ws ++ left)) (no_items in_printed_form words e) ∙ none_taken left f
    taken (x ∷ xs) [] left k h e f = cc
    taken (x ∷ xs) (w ∷ words) left k h e f =
        let head : in_printed_form w ≡ key = cc in
        let rest : map in_printed_form words ≡ form (x ∷ xs) = cc in
        let equal = (bytes_eq-Decides w key).1 (plain_is w key plain head) in
        rw equal (p.taken (x ∷ xs) words left tt h rest f)

    printed : (xs : List A) → Any xs → TailMay holds xs → All IsPrinted (tail_words key form xs)
    printed [] k h = All-nil IsPrinted
    printed (x ∷ xs) k h = All-cons IsPrinted key (form (x ∷ xs)) key_printed (p.printed (x ∷ xs) tt h)
