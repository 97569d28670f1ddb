-- The words of a line, and what is wanted of them, one after the other, with the kind of the first fault.
use Rattle.std.specs.Prelude.{ℕ, ℤ, pos, unsigned_abs, int_lt, List, [], ◌∷◌, filter, Bool, true, false, ◌==◌, ◌||◌, if◌then◌else◌, Option, None, Some, Result, Ok, Err}
use Rattle.std.specs.List.{slice_split}
use Rattle.vrp_lex.specs.Text.{is_blank, is_some_bytes, number_of}
use Rattle.route_texts.specs.declared.fault.RouteKind.{RouteKind}
use Rattle.route_texts.specs.declared.fault.RouteKind.TheVariants as kind

abbrev pub Words : Type 0
Words = List (List ℕ)

-- the words of a line: what stands between blanks, where that is not empty; any other byte belongs to a word
abbrev pub words_in : List ℕ → Words
words_in line = filter is_some_bytes (slice_split is_blank line)

-- a word that ends before these bytes
abbrev pub ends_word : List ℕ → Bool
ends_word [] = true
ends_word (b ∷ bs) = is_blank b

-- the parts before and behind the first byte of this value; none where there is no such byte
abbrev pub onto_front : ℕ → Option (List ℕ × List ℕ) → Option (List ℕ × List ℕ)
onto_front b None = None
onto_front b (Some parts) = Some (b ∷ parts.0, parts.1)

abbrev pub cut_at : ℕ → List ℕ → Option (List ℕ × List ℕ)
cut_at mark [] = None
cut_at mark (b ∷ bs) = if b == mark then Some ([], bs) else onto_front b (cut_at mark bs)

abbrev pub are_some_words : Words → Bool
are_some_words [] = false
are_some_words (w ∷ words) = true

-- a value of the first words that are left, and the words after them; or a fault
abbrev pub Wants : Type 0 → Type 0
Wants A = Words → Result (A × Words) RouteKind

abbrev pub and_then : {A B : Type 0} → Result (A × Words) RouteKind → (A → Wants B) → Result (B × Words) RouteKind
and_then (Ok x) next = next x.0 x.1
and_then (Err kind) next = Err kind

-- first one thing is wanted, and then the next
infixl 10 ◌>>=◌
abbrev pub ◌>>=◌ : {A B : Type 0} → Wants A → (A → Wants B) → Wants B
(wanted >>= next) words = and_then (wanted words) next

infixl 10 ◌>>◌
abbrev pub ◌>>◌ : {A B : Type 0} → Wants A → Wants B → Wants B
(wanted >> next) = wanted >>= (λ _. next)

-- a value without further words
abbrev pub give : {A : Type 0} → A → Wants A
give x words = Ok (x, words)

-- a fault where the test holds, at the word that was looked at last
abbrev pub fault_if : RouteKind → Bool → Wants (Unit {0})
fault_if kind test words = if test then Err kind else Ok (tt, words)

-- a word; Word where it is missing
abbrev pub word : Wants (List ℕ)
word [] = Err kind.Word
word (w ∷ words) = Ok (w, words)

-- a number within limits: Number where there is none, Range outside
abbrev pub limited : ℤ → ℤ → Option ℤ → Wants ℤ
limited low high None words = Err kind.Number
limited low high (Some z) words = if int_lt z low || int_lt high z then Err kind.Range else Ok (z, words)

-- the next word as such a number
abbrev pub number_in : ℤ → ℤ → Wants ℤ
number_in low high = word >>= (λ w. limited low high (number_of w))

abbrev pub natural_in : ℕ → ℕ → Wants ℕ
natural_in low high = do
  z ← number_in (pos low) (pos high)
  give (unsigned_abs z)

-- no word is left; a word too many is Word
abbrev pub all_taken : {A : Type 0} → Result (A × Words) RouteKind → Result A RouteKind
all_taken (Err kind) = Err kind
all_taken (Ok (x, [])) = Ok x
all_taken (Ok (x, w ∷ words)) = Err kind.Word

-- what the words of a line say, where they are no more than what is wanted
abbrev pub whole : {A : Type 0} → Wants A → Words → Result A RouteKind
whole wanted words = all_taken (wanted words)

-- first one thing is read, and then the next
abbrev pub after : {A B : Type 0} → Result A RouteKind → (A → Result B RouteKind) → Result B RouteKind
after (Ok x) next = next x
after (Err kind) next = Err kind
