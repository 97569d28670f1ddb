-- Words that are numbers.
use Rattle.std.proofs.Common.{◌≡◌, ℕ, ◌^◌, ◌≤◌, ◌<◌, ℤ, pos, negsuc, neg_ℤ, unsigned_abs, ◌≤ℤ◌, Bool, true, false, not, List, [], ◌∷◌, ◌++◌, map, refl, ap, subst, sym, ◌∙◌, arith, Option, None, Some, Result, Ok, Err}
use Rattle.std.specs.Prelude.{◌||◌, int_lt, nat_lt, decimal, IfSome, if◌then◌else◌}
use Rattle.std.specs.Fmt.{signed_decimal}
use Rattle.std.specs.Str.{bytes_eq}
use Rattle.std.proofs.lemmas.Slice.Eq.{bytes_eq-Decides}
use Rattle.std.proofs.lemmas.Bool.Decides.{nat_tests}
use Rattle.std.proofs.lemmas.List.Elements.{All-nil, All-cons}
use lib.Signed.{mag}
use Rattle.vrp_lex.specs.Text.{number_of}
use Rattle.line_text.specs.declared.fault.Kind.{Kind}
use Rattle.line_text.specs.declared.fault.Kind.TheVariants as fault
use Rattle.line_text.specs.Words.{Words, Wants, ◌>>=◌, ◌>>◌, and_then, give, fault_if, word, limited_word, known_word, number_in, natural_in, known_below}
use Rattle.line_text.specs.Spelling.{in_printed_form}
use Rattle.line_text.proofs.PrintedWordLemmas.{IsPrinted, printed_signed, number_of-signed}
use Rattle.line_text.proofs.NumberWordLemmas.{printed_is, number_is, plain_is, printed_plain}
use Rattle.line_text.proofs.Judgement.{Reads, Spent, Any, Anything, no_items, made}

-- a thing of one word
pub record OneWord {A : Type 0} (next : List ℕ → Wants A) (form : A → List ℕ) (holds : A → Type 0) : Type 0 where
  pub told : (w : List ℕ) (left : Words) (y : A × Words) → next w left ≡ Ok y → (y.1 ≡ left) × (in_printed_form w ≡ form y.0) × holds y.0
  pub taken : (w : List ℕ) (x : A) (left : Words) → holds x → in_printed_form w ≡ form x → next w left ≡ Ok (x, left)
  pub printed : (x : A) → holds x → IsPrinted (form x)

pub one_word : {A : Type 0} {next : List ℕ → Wants A} {form : A → List ℕ} {holds : A → Type 0} → OneWord next form holds → Reads (word >>= next) Any (λ x. form x ∷ []) holds Anything
one_word {A = A} {next = next} {form = form} {holds = holds} p =
    record { told = told; taken = taken; printed = λ x k h. All-cons IsPrinted (form x) [] (p.printed x h) (All-nil IsPrinted) }
  where
    told : (words : Words) (y : A × Words) → (word >>= next) words ≡ Ok y → Spent Any (λ x. form x ∷ []) holds words y
    told [] y e = cc
    told (w ∷ words) y e =
        let is = p.told w words y e in
        record { front = w ∷ []; is = ap (λ ws. w ∷ ws) (sym is.0); knows = tt; spells = ap (λ v. v ∷ []) is.1; fits = is.2 }

    taken : (x : A) (words left : Words) → Any x → holds x → map in_printed_form words ≡ form x ∷ [] → Anything left → (word >>= next) (words ++ left) ≡ Ok (x, left)
    taken x [] left k h e f = cc
    taken x (w ∷ words) left k h e f =
        let head : in_printed_form w ≡ form x = cc in
        let tail : map in_printed_form words ≡ [] = cc in
        let none = no_items in_printed_form words tail in
        ap (λ (ws : Words). next w (ws ++ left)) none ∙ p.taken w x left h head

-- a test that passes, of a number that a word is
abbrev or_fault : Words → Option ℤ → Result (ℤ × Words) Kind
or_fault left None = Err fault.Number
or_fault left (Some z) = Ok (z, left)

tested : {A : Type 0} (kind : Kind) (test : ℤ → Bool) (value : ℤ → A) (w : List ℕ) (left : Words) (y : A × Words) (o : Option ℤ) → number_of w ≡ o → and_then (or_fault left o) (λ z. fault_if kind (test z) >> give (value z)) ≡ Ok y → (z : ℤ) × (number_of w ≡ Some z) × (test z ≡ false) × (y ≡ (value z, left))
tested kind test value w left y None is h = cc
tested {A} kind test value w left y (Some z) is h = by_test (test z) refl h
  where
    by_test : (b : Bool) → test z ≡ b → (fault_if kind b >> give (value z)) left ≡ Ok y → (x : ℤ) × (number_of w ≡ Some x) × (test x ≡ false) × (y ≡ (value x, left))
    by_test true e h = cc
    by_test false e h = let same : (value z, left) ≡ y = cc in (z, is, e, sym same)

passed : {A : Type 0} (kind : Kind) (test : ℤ → Bool) (value : ℤ → A) (left : Words) (z : ℤ) (o : Option ℤ) → o ≡ Some z → test z ≡ false → and_then (or_fault left o) (λ z. fault_if kind (test z) >> give (value z)) ≡ Ok (value z, left)
passed kind test value left z o is off = rw (is, off) refl

or_false : (a b : Bool) → (a || b) ≡ false → (a ≡ false) × (b ≡ false)
or_false true b h = cc
or_false false b h = (refl, h)

neither : (a b : Bool) → a ≡ false → b ≡ false → (a || b) ≡ false
neither true b p q = cc
neither false b p q = q

not_below : (a b : ℤ) → int_lt a b ≡ false → b ≤ℤ a
not_below a b h = grind (arith, nat_tests, h)

at_least : (a b : ℤ) → b ≤ℤ a → int_lt a b ≡ false
at_least a b h = grind (arith, nat_tests, h)

-- limits within which every number is told by its printed form
abbrev pub AreSmall : ℤ → ℤ → Type 0
AreSmall low high = (int_lt low (neg_ℤ (pos (2 ^ 120))) ≡ false) × (int_lt (pos (2 ^ 120)) high ≡ false)

small : (low high z : ℤ) → AreSmall low high → low ≤ℤ z → z ≤ℤ high → (unsigned_abs z < 10 ^ 40) × (mag z < 10 ^ 40)
small low high z wide l h =
    let at_least : (neg_ℤ (pos (2 ^ 120))) ≤ℤ z = grind (arith, nat_tests, wide.0, l) in
    let at_most : z ≤ℤ (pos (2 ^ 120)) = grind (arith, nat_tests, wide.1, h) in
    within z at_least at_most
  where
    within : (z : ℤ) → (neg_ℤ (pos (2 ^ 120))) ≤ℤ z → z ≤ℤ (pos (2 ^ 120)) → (unsigned_abs z < 10 ^ 40) × (mag z < 10 ^ 40)
    within (pos n) l h = (grind (arith, h), grind (arith, h))
    within (negsuc n) l h = (grind (arith, l), grind (arith, l))

abbrev pub IsIn : ℤ → ℤ → ℤ → Type 0
IsIn low high z = (low ≤ℤ z) × (z ≤ℤ high)

pub limited_one : (low high : ℤ) → AreSmall low high → OneWord (limited_word low high) signed_decimal (IsIn low high)
limited_one low high wide = record { told = told; taken = taken; printed = λ z h. printed_signed z (small low high z wide h.0 h.1).1 }
  where
    test : ℤ → Bool
    test z = int_lt z low || int_lt high z

    told : (w : List ℕ) (left : Words) (y : ℤ × Words) → limited_word low high w left ≡ Ok y → (y.1 ≡ left) × (in_printed_form w ≡ signed_decimal y.0) × IsIn low high y.0
    told w left y h =
        let is = tested fault.Range (λ z. int_lt z low || int_lt high z) (λ z. z) w left y (number_of w) refl h in
        let z : ℤ = is.0 in
        let parts = or_false (int_lt z low) (int_lt high z) is.2 in
        let same = is.3 in
        rw same (refl, printed_is w z is.1, (not_below z low parts.0, not_below high z parts.1))

    taken : (w : List ℕ) (z : ℤ) (left : Words) → IsIn low high z → in_printed_form w ≡ signed_decimal z → limited_word low high w left ≡ Ok (z, left)
    taken w z left h e =
        passed fault.Range (λ z. int_lt z low || int_lt high z) (λ z. z) left z (number_of w) (number_is w z (small low high z wide h.0 h.1).0 e)
        (neither (int_lt z low) (int_lt high z) (at_least z low h.0) (at_least high z h.1))

pub number_in-reads : (low high : ℤ) → AreSmall low high → Reads (number_in low high) Any (λ z. signed_decimal z ∷ []) (IsIn low high) Anything
number_in-reads low high wide = one_word (limited_one low high wide)

-- a number that is not negative
pub known_one : (count : ℕ) → count ≤ 2 ^ 120 → OneWord (known_word count) decimal (λ n. n < count)
known_one count few = record { told = told; taken = taken; printed = λ n h. printed_signed (pos n) (omega (arith, few, h)) }
  where
    told : (w : List ℕ) (left : Words) (y : ℕ × Words) → known_word count w left ≡ Ok y → (y.1 ≡ left) × (in_printed_form w ≡ decimal y.0) × (y.0 < count)
    told w left y h =
        let is = tested fault.Unknown (λ z. int_lt z (pos 0) || not (nat_lt (unsigned_abs z) count)) unsigned_abs w left y (number_of w) refl h in
        let z : ℤ = is.0 in
        let parts = or_false (int_lt z (pos 0)) (not (nat_lt (unsigned_abs z) count)) is.2 in
        let below : unsigned_abs z < count = grind (arith, nat_tests, parts.1) in
        let same = is.3 in
        rw same (refl, printed_is w z is.1 ∙ not_negative z parts.0, below)
      where
        not_negative : (z : ℤ) → int_lt z (pos 0) ≡ false → signed_decimal z ≡ decimal (unsigned_abs z)
        not_negative (pos n) h = refl
        not_negative (negsuc n) h = cc

    taken : (w : List ℕ) (n : ℕ) (left : Words) → n < count → in_printed_form w ≡ decimal n → known_word count w left ≡ Ok (n, left)
    taken w n left h e =
        let first : int_lt (pos n) (pos 0) ≡ false = at_least (pos n) (pos 0) (grind arith) in
        let second : not (nat_lt n count) ≡ false = grind (arith, nat_tests, h) in
        passed fault.Unknown (λ z. int_lt z (pos 0) || not (nat_lt (unsigned_abs z) count)) unsigned_abs left (pos n) (number_of w) (number_is w (pos n) (omega (arith, few, h)) e)
        (neither (int_lt (pos n) (pos 0)) (not (nat_lt n count)) first second)

pub known_below-reads : (count : ℕ) → count ≤ 2 ^ 120 → Reads (known_below count) Any (λ n. decimal n ∷ []) (λ n. n < count) Anything
known_below-reads count few = one_word (known_one count few)

pub natural_in-reads : (low high : ℕ) → int_lt (pos (2 ^ 120)) (pos high) ≡ false → Reads (natural_in low high) Any (λ n. decimal n ∷ []) (λ n. (low ≤ n) × (n ≤ high)) Anything
natural_in-reads low high wide =
    made unsigned_abs (number_in-reads (pos low) (pos high) (refl, wide)) (λ z h. natural z h.0 h.1) (λ n k h. (pos n, refl, (grind (arith, h.0), grind (arith, h.1))))
  where
    natural : (z : ℤ) → pos low ≤ℤ z → z ≤ℤ pos high → Unit {0} × (decimal (unsigned_abs z) ∷ [] ≡ signed_decimal z ∷ []) × ((low ≤ unsigned_abs z) × (unsigned_abs z ≤ high))
    natural (pos n) l h = (tt, refl, (grind (arith, nat_tests, l), grind (arith, nat_tests, h)))
    natural (negsuc n) l h = absurd (grind (arith, nat_tests, l))

-- a word that stands for nothing, or else a thing of one word
abbrev pub or_name : {A : Type 0} → List ℕ → (A → List ℕ) → Option A → List ℕ
or_name key form None = key
or_name key form (Some x) = form x

pub unless_name : {A : Type 0} {next : List ℕ → Wants A} {form : A → List ℕ} {holds : A → Type 0} (key : List ℕ) → IsPrinted key → number_of key ≡ None → ((x : A) → holds x → form x ≡ key → ⊥) → OneWord next form holds → OneWord (λ w. if bytes_eq w key then give None else next w >>= (λ x. give (Some x))) (or_name key form) (λ o. IfSome o holds)
unless_name {A} {next} {form} {holds} key key_printed plain other p = record { told = told; taken = taken; printed = printed }
  where
    told : (w : List ℕ) (left : Words) (y : Option A × Words) → (if bytes_eq w key then give None else next w >>= (λ x. give (Some x))) left ≡ Ok y → (y.1 ≡ left) × (in_printed_form w ≡ or_name key form y.0) × IfSome y.0 holds
    told w left y h = by_test (bytes_eq w key) refl h
      where
        by_item : (r : Result (A × Words) Kind) → next w left ≡ r → and_then r (λ x. give (Some x)) ≡ Ok y → (y.1 ≡ left) × (in_printed_form w ≡ or_name key form y.0) × IfSome y.0 holds
        by_item (Err kind) is h = cc
        by_item (Ok x) is h =
            let one = p.told w left x is in
            let same : (Some x.0, x.1) ≡ y = cc in
            subst (λ (z : Option A × Words). (z.1 ≡ left) × (in_printed_form w ≡ or_name key form z.0) × IfSome z.0 holds) same one

        by_test : (b : Bool) → bytes_eq w key ≡ b → (if b then give None else next w >>= (λ x. give (Some x))) left ≡ Ok y → (y.1 ≡ left) × (in_printed_form w ≡ or_name key form y.0) × IfSome y.0 holds
        by_test true is h =
            let same : ◌≡◌ {A = Option A × Words} (None, left) y = cc in
            subst (λ (z : Option A × Words). (z.1 ≡ left) × (in_printed_form w ≡ or_name key form z.0) × IfSome z.0 holds) same (refl, printed_plain w key plain ((bytes_eq-Decides w key).0 is), tt)
        by_test false is h = by_item (next w left) refl h

    taken : (w : List ℕ) (o : Option A) (left : Words) → IfSome o holds → in_printed_form w ≡ or_name key form o → (if bytes_eq w key then give None else next w >>= (λ x. give (Some x))) left ≡ Ok (o, left)
    taken w None left h e = rw ((bytes_eq-Decides w key).1 (plain_is w key plain e)) refl
    taken w (Some x) left h e = by_test (bytes_eq w key) refl
      where
        by_test : (b : Bool) → bytes_eq w key ≡ b → (if b then give None else next w >>= (λ x. give (Some x))) left ≡ Ok (Some x, left)
        by_test true is = absurd (other x h (sym e ∙ printed_plain w key plain ((bytes_eq-Decides w key).0 is)))
        by_test false is = ap (λ r. and_then r (λ x. give (Some x))) (p.taken w x left h e)

    printed : (o : Option A) → IfSome o holds → IsPrinted (or_name key form o)
    printed None h = key_printed
    printed (Some x) h = p.printed x h

-- a number is no name
pub not_name : (key : List ℕ) → number_of key ≡ None → (low high z : ℤ) → AreSmall low high → IsIn low high z → signed_decimal z ≡ key → ⊥
not_name key plain low high z wide h e =
    let told = number_of-signed z (small low high z wide h.0 h.1).1 in
    let clash : ◌≡◌ {A = Option ℤ} None (Some z) = sym plain ∙ (ap number_of (sym e) ∙ told) in
    cc
