-- What is wanted of the words of a line, one after the other, and the kind of the first fault.
use Rattle.std.specs.Prelude.{ℕ, zero, suc, ℤ, pos, unsigned_abs, int_lt, List, [], ◌∷◌, ◌++◌, length, Bool, true, false, ◌||◌, not, nat_lt, if◌then◌else◌, Option, None, Some, Result, Ok, Err}
use Rattle.std.specs.Cmp.Lexicographic.{pointwise}
use Rattle.std.specs.Str.{bytes_eq}
use Rattle.vrp_lex.specs.Text.{number_of}
use Rattle.line_text.specs.declared.fault.Kind.{Kind}
use Rattle.line_text.specs.declared.fault.Kind.TheVariants as fault

abbrev pub Words : Type 0
Words = List (List ℕ)

abbrev pub are_some_words : Words → Bool
are_some_words [] = false
are_some_words (w ∷ words) = true

-- a value of the first words that are left, and the words after them; or a fault
abbrev pub Wants : Type 0 → Type 0
Wants A = Words → Result (A × Words) Kind

abbrev pub and_then : {A B : Type 0} → Result (A × Words) Kind → (A → Wants B) → Result (B × Words) Kind
and_then (Ok x) next = next x.0 x.1
and_then (Err kind) next = Err kind

-- first one thing is wanted, and then the next
infixl 10 ◌>>=◌
abbrev pub ◌>>=◌ : {A B : Type 0} → Wants A → (A → Wants B) → Wants B
(wanted >>= next) words = and_then (wanted words) next

infixl 10 ◌>>◌
abbrev pub ◌>>◌ : {A B : Type 0} → Wants A → Wants B → Wants B
(wanted >> next) = wanted >>= (λ _. next)

-- a value without further words
abbrev pub give : {A : Type 0} → A → Wants A
give x words = Ok (x, words)

-- a fault where the test holds, at the word that was looked at last
abbrev pub fault_if : Kind → Bool → Wants (Unit {0})
fault_if kind test words = if test then Err kind else Ok (tt, words)

-- a word; Word where it is missing
abbrev pub word : Wants (List ℕ)
word [] = Err fault.Word
word (w ∷ words) = Ok (w, words)

-- The same for a word that is there: a number, else Number; a number within limits, else Range; the number of one of so many
-- things, counted from 0, else Unknown, however large or small it is.
abbrev pub number_of_word : List ℕ → Wants ℤ
number_of_word w words = number_or_fault (number_of w)
  where
    number_or_fault : Option ℤ → Result (ℤ × Words) Kind
    number_or_fault None = Err fault.Number
    number_or_fault (Some z) = Ok (z, words)

abbrev pub limited_word : ℤ → ℤ → List ℕ → Wants ℤ
limited_word low high w = do
  z ← number_of_word w
  fault_if fault.Range (int_lt z low || int_lt high z)
  give z

abbrev pub known_word : ℕ → List ℕ → Wants ℕ
known_word count w = do
  z ← number_of_word w
  fault_if fault.Unknown (int_lt z (pos 0) || not (nat_lt (unsigned_abs z) count))
  give (unsigned_abs z)

-- the next word as such a number
abbrev pub number_in : ℤ → ℤ → Wants ℤ
number_in low high = word >>= limited_word low high

abbrev pub natural_in : ℕ → ℕ → Wants ℕ
natural_in low high = do
  z ← number_in (pos low) (pos high)
  give (unsigned_abs z)

abbrev pub known_below : ℕ → Wants ℕ
known_below count = word >>= known_word count

-- one thing for each item of a list
abbrev pub for_each : {A B : Type 0} → (A → Wants B) → List A → Wants (List B)
for_each wanted [] = give []
for_each wanted (x ∷ xs) = do
  first ← wanted x
  others ← for_each wanted xs
  give (first ∷ others)

-- One thing after the other up to a word that stops them, or to the end of the words, at most so many; what is wanted may rest on
-- the things before.
abbrev pub at_most_until : {A : Type 0} → ℕ → (List ℕ → Bool) → (List A → Wants A) → List A → Wants (List A)
at_most_until zero stops wanted before words = Ok (before, words)
at_most_until (suc n) stops wanted before [] = Ok (before, [])
at_most_until (suc n) stops wanted before (w ∷ words) =
    if stops w then Ok (before, w ∷ words)
    else and_then (wanted before (w ∷ words)) (λ x. at_most_until n stops wanted (before ++ x ∷ []))

abbrev pub until : {A : Type 0} → (List ℕ → Bool) → (List A → Wants A) → Wants (List A)
until stops wanted words = at_most_until (length words) stops wanted [] words

-- a word is left that does not stop them
abbrev pub goes_on : (List ℕ → Bool) → Words → Bool
goes_on stops [] = false
goes_on stops (w ∷ words) = not (stops w)

-- one thing after the other to the end of the words
abbrev pub to_the_end : {A : Type 0} → (List A → Wants A) → Wants (List A)
to_the_end wanted = until (λ _. false) wanted

abbrev pub is_none : {A : Type 0} → List A → Bool
is_none [] = true
is_none (x ∷ xs) = false

-- a stated word, else Word
abbrev pub exactly : List ℕ → Wants (Unit {0})
exactly key = word >>= (λ w. fault_if fault.Word (not (bytes_eq w key)))

-- a tail that a stated word begins, where it is there
abbrev pub tail : {A : Type 0} → List ℕ → Wants (List A) → Wants (List A)
tail key wanted [] = Ok ([], [])
tail key wanted (w ∷ words) = if bytes_eq w key then wanted words else Ok ([], w ∷ words)

-- Exactly a name and a version, each in its one spelling: the words of a version line. Else Version.
abbrev pub is_version : List ℕ → List ℕ → Words → Bool
is_version name version words = pointwise bytes_eq words (name ∷ version ∷ [])

abbrev pub version_wanted : List ℕ → List ℕ → Wants (Unit {0})
version_wanted name version words = if is_version name version words then Ok (tt, []) else Err fault.Version
