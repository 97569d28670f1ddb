-- The first words of bytes.
use Rattle.std.proofs.Common.{◌≡◌, ℕ, ◌+◌, ◌-◌, ◌≤◌, ◌<◌, List, [], ◌∷◌, ◌++◌, length, take, drop, refl, ap, sym, ◌∙◌, Bool, true, false, not, arith, add-zero, slice_range, get_or}
use Rattle.std.specs.Prelude.{◌&&◌, filter}
use Rattle.std.specs.List.{list_all, All}
use Rattle.std.proofs.lemmas.List.{take-append-drop, drop-drop, length-take-le, length-drop, get_or-drop}
use Rattle.std.proofs.lemmas.List.Splits.{slice_split_none, slice_split_at}
use Rattle.std.proofs.lemmas.List.Elements.{All-nil, All-cons}
use Rattle.vrp_lex.specs.Text.{is_blank, is_some_bytes}
use Rattle.route_texts.specs.Words.{words_in, ends_word}
use Rattle.route_texts.specs.Places.{IsFirstWord}

skip : (b : ℕ) (bs : List ℕ) → is_blank b ≡ true → words_in (b ∷ bs) ≡ words_in bs
skip b bs h = rw h refl

both_true : (a b : Bool) → (a && b) ≡ true → (a ≡ true) × (b ≡ true)
both_true true true h = (refl, refl)
both_true true false h = (refl, h)
both_true false b h = (h, elim b as (λ x. x ≡ true) [ true ↦ refl | false ↦ h ])

not_true : (a : Bool) → not a ≡ true → a ≡ false
not_true true h = cc
not_true false h = refl

-- blanks at the front change no words
words_in-blanks : (bs xs : List ℕ) → list_all is_blank bs ≡ true → words_in (bs ++ xs) ≡ words_in xs
words_in-blanks [] xs h = refl
words_in-blanks (b ∷ bs) xs h =
    let parts = both_true _ _ h in
    skip b (bs ++ xs) parts.0 ∙ words_in-blanks bs xs parts.1

no_blanks : (w : List ℕ) → list_all (λ b. not (is_blank b)) w ≡ true → All (λ b. is_blank b ≡ false) w
no_blanks [] h = All-nil (λ b. is_blank b ≡ false)
no_blanks (b ∷ w) h =
    let parts = both_true _ _ h in
    All-cons (λ b. is_blank b ≡ false) b w (not_true _ parts.0) (no_blanks w parts.1)

append_nil : (xs : List ℕ) → xs ++ [] ≡ xs
append_nil [] = refl
append_nil (x ∷ xs) = ap (λ ys. x ∷ ys) (append_nil xs)

-- a word, and what ends it
words_in-word : (w xs : List ℕ) → list_all (λ b. not (is_blank b)) w ≡ true → is_some_bytes w ≡ true → ends_word xs ≡ true → words_in (w ++ xs) ≡ w ∷ words_in xs
words_in-word w [] plain some ends =
    ap words_in (append_nil w) ∙ rw (slice_split_none is_blank w (no_blanks w plain), some) refl
words_in-word w (y ∷ ys) plain some ends =
    let cut = slice_split_at is_blank w y ys (no_blanks w plain) ends in
    ap (filter is_some_bytes) cut ∙ (rw some refl ∙ ap (λ ws. w ∷ ws) (sym (skip y ys ends)))

none_next : (xs : List ℕ) → (0 < length xs → is_blank (get_or xs 0 0) ≡ false) → ends_word xs ≡ true → words_in xs ≡ []
none_next [] other ends = refl
none_next (x ∷ xs) other ends = let none = other (omega arith) in cc

-- behind blanks, what is neither a blank nor a byte of a word is the end
pub words_in-none : (xs : List ℕ) (i : ℕ) → list_all is_blank (take i xs) ≡ true → (i < length xs → is_blank (get_or xs i 0) ≡ false) → ends_word (drop i xs) ≡ true → words_in xs ≡ []
words_in-none xs i blanks other ends =
    let here : 0 < length (drop i xs) → is_blank (get_or (drop i xs) 0 0) ≡ false = λ some. simp (get_or-drop, add-zero) (other (omega (arith, length-drop i xs, some))) in
    ap words_in (sym (take-append-drop i xs)) ∙ (words_in-blanks (take i xs) (drop i xs) blanks ∙ none_next (drop i xs) here ends)

some_of : (w : List ℕ) → 0 < length w → is_some_bytes w ≡ true
some_of [] h = absurd (omega arith)
some_of (b ∷ w) h = refl

slice_from : (xs : List ℕ) (i j : ℕ) → i ≤ j → drop i xs ≡ slice_range xs i j ++ drop j xs
slice_from xs i j h =
    let place : i + (j - i) ≡ j = omega arith in
    sym (take-append-drop (j - i) (drop i xs)) ∙ ap (λ ys. slice_range xs i j ++ ys) (drop-drop (j - i) i xs ∙ ap (λ n. drop n xs) place)

-- the parts that the places of a first word cut
cut_word : (xs : List ℕ) (word : ℕ × ℕ) → IsFirstWord xs word → xs ≡ take word.0 xs ++ (slice_range xs word.0 word.1 ++ drop word.1 xs)
cut_word xs word first =
    let order = first.ordered.0 in
    let rest : drop word.0 xs ≡ slice_range xs word.0 word.1 ++ drop word.1 xs = slice_from xs word.0 word.1 (omega arith) in
    sym (take-append-drop word.0 xs) ∙ ap (λ ys. take word.0 xs ++ ys) rest

some_word : (xs : List ℕ) (word : ℕ × ℕ) → IsFirstWord xs word → is_some_bytes (slice_range xs word.0 word.1) ≡ true
some_word xs word first =
    let order = first.ordered in
    some_of (slice_range xs word.0 word.1) (omega (arith, order, length-drop word.0 xs, length-take-le (word.1 - word.0) (drop word.0 xs) (omega (arith, order, length-drop word.0 xs))))

pub words_in-first : (xs : List ℕ) (word : ℕ × ℕ) → IsFirstWord xs word → words_in xs ≡ slice_range xs word.0 word.1 ∷ words_in (drop word.1 xs)
words_in-first xs word first =
    ap words_in (cut_word xs word first)
    ∙ (words_in-blanks (take word.0 xs) (slice_range xs word.0 word.1 ++ drop word.1 xs) first.blanks
    ∙ words_in-word (slice_range xs word.0 word.1) (drop word.1 xs) first.plain (some_word xs word first) first.ends)
