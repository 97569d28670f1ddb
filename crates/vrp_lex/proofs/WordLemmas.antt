-- The first words of bytes, and words of bytes that follow one another.
use Rattle.std.proofs.Common.{◌≡◌, ℕ, ◌+◌, ◌-◌, ◌≤◌, ◌<◌, List, [], ◌∷◌, ◌++◌, length, take, drop, refl, ap, sym, ◌∙◌, Bool, true, false, not, arith, append_assoc, add-zero, inl, inr, slice_range, get_or}
use Rattle.std.specs.Prelude.{◌==◌, ◌&&◌, ◌⊎◌, filter}
use Rattle.std.specs.List.{list_all, slice_split, All}
use Rattle.std.proofs.lemmas.Bool.Decides.{nat_tests}
use Rattle.std.proofs.lemmas.List.{take-append-drop, drop-drop, length-take-le, length-drop, get_or-drop}
use Rattle.std.proofs.lemmas.List.{length-append}
use Rattle.std.proofs.Math.Seq.{take-add}
use Rattle.std.proofs.lemmas.List.Splits.{slice_split_none, slice_split_at}
use Rattle.std.proofs.lemmas.List.Elements.{All-nil, All-cons}
use Rattle.vrp_lex.specs.Text.{is_blank, is_plain, ends_word, outside_comment, is_some_bytes, words_of}
use Rattle.vrp_lex.specs.Places.{IsFirstWord, IsWordAt}
use Rattle.vrp_lex.proofs.SliceLemmas.{slice_from, length-slice, take_cut, slice-slice, take-slice, drop-slice}

-- a blank begins no comment
blank_no_hash : (b : ℕ) → is_blank b ≡ true → (b == 35) ≡ false
blank_no_hash b h = grind (arith, nat_tests)

skip : (b : ℕ) (bs : List ℕ) → is_blank b ≡ true → words_of (b ∷ bs) ≡ words_of bs
skip b bs h = let no = blank_no_hash b h in rw (no, h) refl

both_true : (a b : Bool) → (a && b) ≡ true → (a ≡ true) × (b ≡ true)
both_true true true h = (refl, refl)
both_true true false h = (refl, h)
both_true false b h = (h, elim b as (λ x. x ≡ true) [ true ↦ refl | false ↦ h ])

not_true : (a : Bool) → not a ≡ true → a ≡ false
not_true true h = cc
not_true false h = refl

-- blanks at the front change no words
pub words_of-blanks : (bs xs : List ℕ) → list_all is_blank bs ≡ true → words_of (bs ++ xs) ≡ words_of xs
words_of-blanks [] xs h = refl
words_of-blanks (b ∷ bs) xs h =
    let parts = both_true _ _ h in
    skip b (bs ++ xs) parts.0 ∙ words_of-blanks bs xs parts.1

plain_parts : (b : ℕ) → is_plain b ≡ true → (is_blank b ≡ false) × ((b == 35) ≡ false)
plain_parts b h = let parts = both_true _ _ h in (not_true _ parts.0, not_true _ parts.1)

outside-plain : (w xs : List ℕ) → list_all is_plain w ≡ true → outside_comment (w ++ xs) ≡ w ++ outside_comment xs
outside-plain [] xs h = refl
outside-plain (b ∷ w) xs h =
    let parts = both_true _ _ h in
    let no = (plain_parts b parts.0).1 in
    rw no (ap (λ ys. b ∷ ys) (outside-plain w xs parts.1))

no_blanks : (w : List ℕ) → list_all is_plain w ≡ true → All (λ b. is_blank b ≡ false) w
no_blanks [] h = All-nil (λ b. is_blank b ≡ false)
no_blanks (b ∷ w) h =
    let parts = both_true _ _ h in
    All-cons (λ b. is_blank b ≡ false) b w ((plain_parts b parts.0).0) (no_blanks w parts.1)

append_nil : (xs : List ℕ) → xs ++ [] ≡ xs
append_nil [] = refl
append_nil (x ∷ xs) = ap (λ ys. x ∷ ys) (append_nil xs)

append_nil_words : (ws : List (List ℕ)) → ws ++ [] ≡ ws
append_nil_words [] = refl
append_nil_words (w ∷ ws) = ap (λ vs. w ∷ vs) (append_nil_words ws)

-- a word alone
lone : (w : List ℕ) → list_all is_plain w ≡ true → is_some_bytes w ≡ true → filter is_some_bytes (slice_split is_blank w) ≡ w ∷ []
lone w plain some = rw (slice_split_none is_blank w (no_blanks w plain), some) refl

ends_blank : (y : ℕ) → not (is_plain y) ≡ true → (is_blank y ≡ true) ⊎ ((y == 35) ≡ true)
ends_blank y h =
    elim (is_blank y) as (λ a. not (not a && not (y == 35)) ≡ true → (a ≡ true) ⊎ ((y == 35) ≡ true)) [
      | true ↦ λ e. inl refl
      | false ↦ λ e. inr (elim (y == 35) as (λ c. not (not c) ≡ true → c ≡ true) [ true ↦ λ f. refl | false ↦ λ f. f ] e)
    ] h

-- a word, and what ends it
pub words_of-word : (w xs : List ℕ) → list_all is_plain w ≡ true → is_some_bytes w ≡ true → ends_word xs ≡ true → words_of (w ++ xs) ≡ w ∷ words_of xs
words_of-word w [] plain some ends = rw (append_nil w, outside_all w plain) (lone w plain some)
  where
    outside_all : (w : List ℕ) → list_all is_plain w ≡ true → outside_comment w ≡ w
    outside_all w plain = let e = outside-plain w [] plain in rw append_nil at e
words_of-word w (y ∷ ys) plain some ends =
    elim (ends_blank y ends) [
      | inl blank ↦
          let no = blank_no_hash y blank in
          let out : outside_comment (w ++ y ∷ ys) ≡ w ++ y ∷ outside_comment ys = outside-plain w (y ∷ ys) plain ∙ rw no refl in
          let cut = slice_split_at is_blank w y (outside_comment ys) (no_blanks w plain) blank in
          ap (λ zs. filter is_some_bytes (slice_split is_blank zs)) out ∙ (ap (filter is_some_bytes) cut ∙ (rw some refl ∙ ap (λ ws. w ∷ ws) (sym (skip y ys blank))))
      | inr hash ↦
          let out : outside_comment (w ++ y ∷ ys) ≡ w = outside-plain w (y ∷ ys) plain ∙ rw hash (append_nil w) in
          let none : words_of (y ∷ ys) ≡ [] = rw hash refl in
          ap (λ zs. filter is_some_bytes (slice_split is_blank zs)) out ∙ (lone w plain some ∙ ap (λ ws. w ∷ ws) (sym none))
    ]

plain_some : (c : ℕ) (w r : List ℕ) → is_plain c ≡ true → ends_word ((c ∷ w) ++ r) ≡ true → ⊥
plain_some c w r plain ends = let no = not_true (is_plain c) ends in cc

-- bytes after which words go on as if they stood alone, where a word may end before them
pub record IsClosed (p : List ℕ) : Type 0 where
  pub meet : (r : List ℕ) → ends_word r ≡ true → words_of (p ++ r) ≡ words_of p ++ words_of r

abbrev pub Meets : List ℕ → List ℕ → Type 0
Meets p r = (p ≡ []) ⊎ (ends_word r ≡ true)

joined : (p r : List ℕ) → IsClosed p → Meets p r → words_of (p ++ r) ≡ words_of p ++ words_of r
joined p r closed (inl none) = rw none refl
joined p r closed (inr ends) = closed.meet r ends

-- how blanks and a word meet what is before them does not rest on what is behind them
meets_alike : (p b w r s : List ℕ) → list_all is_plain w ≡ true → is_some_bytes w ≡ true → Meets p (b ++ (w ++ r)) → Meets p (b ++ (w ++ s))
meets_alike p b w r s plain some (inl none) = inl none
meets_alike p [] [] r s plain some (inr ends) = cc
meets_alike p [] (c ∷ w) r s plain some (inr ends) = absurd (plain_some c w r ((both_true _ _ plain).0) ends)
meets_alike p (y ∷ b) w r s plain some (inr ends) = inr ends

grown : (p b w r : List ℕ) → IsClosed p → Meets p (b ++ (w ++ r)) → list_all is_blank b ≡ true → list_all is_plain w ≡ true → is_some_bytes w ≡ true → (s : List ℕ) → ends_word s ≡ true → words_of (p ++ (b ++ (w ++ s))) ≡ words_of p ++ w ∷ words_of s
grown p b w r closed meets blanks plain some s ends =
    joined p (b ++ (w ++ s)) closed (meets_alike p b w r s plain some meets)
    ∙ ap (λ ws. words_of p ++ ws) (words_of-blanks b (w ++ s) blanks ∙ words_of-word w s plain some ends)

pub words_of-grown : (p b w r : List ℕ) → IsClosed p → Meets p (b ++ (w ++ r)) → list_all is_blank b ≡ true → list_all is_plain w ≡ true → is_some_bytes w ≡ true → words_of (p ++ (b ++ w)) ≡ words_of p ++ w ∷ []
words_of-grown p b w r closed meets blanks plain some =
    let e : words_of (p ++ (b ++ (w ++ []))) ≡ words_of p ++ w ∷ [] = grown p b w r closed meets blanks plain some [] refl in
    rw (append_nil w) at e

pub closed_grown : (p b w r : List ℕ) → IsClosed p → Meets p (b ++ (w ++ r)) → list_all is_blank b ≡ true → list_all is_plain w ≡ true → is_some_bytes w ≡ true → IsClosed (p ++ (b ++ w))
closed_grown p b w r closed meets blanks plain some =
    record {
      meet = λ s ends.
          let whole = grown p b w r closed meets blanks plain some s ends in
          let regroup : (p ++ (b ++ w)) ++ s ≡ p ++ (b ++ (w ++ s)) = simp append_assoc in
          let front = words_of-grown p b w r closed meets blanks plain some in
          let back : words_of p ++ w ∷ words_of s ≡ (words_of p ++ w ∷ []) ++ words_of s = simp append_assoc in
          ap words_of regroup ∙ (whole ∙ (back ∙ ap (λ ws. ws ++ words_of s) (sym front)));
    }

comment_next : (xs : List ℕ) → (0 < length xs → is_blank (get_or xs 0 0) ≡ false) → ends_word xs ≡ true → words_of xs ≡ []
comment_next [] other ends = refl
comment_next (x ∷ xs) other ends =
    elim (ends_blank x ends) [ inl blank ↦ let none = other (omega arith) in cc | inr hash ↦ rw hash refl ]

-- behind blanks, what is neither a blank nor a byte of a word is a comment or the end
pub words_of-none : (xs : List ℕ) (i : ℕ) → list_all is_blank (take i xs) ≡ true → (i < length xs → is_blank (get_or xs i 0) ≡ false) → ends_word (drop i xs) ≡ true → words_of xs ≡ []
words_of-none xs i blanks other ends =
    let here : 0 < length (drop i xs) → is_blank (get_or (drop i xs) 0 0) ≡ false = λ some. simp (get_or-drop, add-zero) (other (omega (arith, length-drop i xs, some))) in
    ap words_of (sym (take-append-drop i xs)) ∙ (words_of-blanks (take i xs) (drop i xs) blanks ∙ comment_next (drop i xs) here ends)

some_of : (w : List ℕ) → 0 < length w → is_some_bytes w ≡ true
some_of [] h = absurd (omega arith)
some_of (b ∷ w) h = refl

-- the parts that the places of a first word cut
cut_at : (xs : List ℕ) (word : ℕ × ℕ) → IsFirstWord xs word → xs ≡ take word.0 xs ++ (slice_range xs word.0 word.1 ++ drop word.1 xs)
cut_at xs word first =
    let order = first.ordered.0 in
    let rest : drop word.0 xs ≡ slice_range xs word.0 word.1 ++ drop word.1 xs = slice_from xs word.0 word.1 (omega arith) in
    sym (take-append-drop word.0 xs) ∙ ap (λ ys. take word.0 xs ++ ys) rest

some_word : (xs : List ℕ) (word : ℕ × ℕ) → IsFirstWord xs word → is_some_bytes (slice_range xs word.0 word.1) ≡ true
some_word xs word first =
    let order = first.ordered in
    some_of (slice_range xs word.0 word.1) (omega (arith, order, length-drop word.0 xs, length-take-le (word.1 - word.0) (drop word.0 xs) (omega (arith, order, length-drop word.0 xs))))

pub words_of-first : (xs : List ℕ) (word : ℕ × ℕ) → IsFirstWord xs word → words_of xs ≡ slice_range xs word.0 word.1 ∷ words_of (drop word.1 xs)
words_of-first xs word first =
    ap words_of (cut_at xs word first)
    ∙ (words_of-blanks (take word.0 xs) (slice_range xs word.0 word.1 ++ drop word.1 xs) first.blanks
    ∙ words_of-word (slice_range xs word.0 word.1) (drop word.1 xs) first.plain (some_word xs word first) first.ends)

no_words : (bs : List ℕ) → list_all is_blank bs ≡ true → words_of bs ≡ []
no_words bs blanks = ap words_of (sym (append_nil bs)) ∙ words_of-blanks bs [] blanks

ends_blanks : (bs : List ℕ) → list_all is_blank bs ≡ true → ends_word bs ≡ true
ends_blanks [] blanks = refl
ends_blanks (b ∷ bs) blanks = let blank = (both_true (is_blank b) (list_all is_blank bs) blanks).0 in rw blank refl

-- so many words end at a place
pub record IsWordEnd (xs : List ℕ) (at k : ℕ) : Type 0 where
  pub within : at ≤ length xs
  pub closed : IsClosed (take at xs)
  pub meets : Meets (take at xs) (drop at xs)
  pub count : length (words_of (take at xs)) ≡ k

pub word_end_here : (xs : List ℕ) → IsWordEnd xs 0 0
word_end_here xs = record { within = omega arith; closed = record { meet = λ r ends. refl }; meets = inl refl; count = refl }

-- the parts before and at the word that follows the end of a word
grown_at : (xs : List ℕ) (at k : ℕ) (word : ℕ × ℕ) → IsWordEnd xs at k → IsFirstWord (drop at xs) word → Meets (take at xs) (take word.0 (drop at xs) ++ (slice_range (drop at xs) word.0 word.1 ++ drop word.1 (drop at xs)))
grown_at xs at k word end first = rw (← (cut_at (drop at xs) word first)) end.meets

pub word_end_after : (xs : List ℕ) (at k : ℕ) (word : ℕ × ℕ) → IsWordEnd xs at k → IsFirstWord (drop at xs) word → IsWordEnd xs (at + word.1) (k + 1)
word_end_after xs at k word end first =
    let rest = drop at xs in
    let places = first.ordered in
    let meets = grown_at xs at k word end first in
    let some = some_word rest word first in
    let parts : take word.1 rest ≡ take word.0 rest ++ slice_range rest word.0 word.1 = take_cut rest word.0 word.1 (omega (arith, places)) in
    let front : take (at + word.1) xs ≡ take at xs ++ (take word.0 rest ++ slice_range rest word.0 word.1) = take-add at word.1 xs ∙ ap (λ ys. take at xs ++ ys) parts in
    let back : drop (at + word.1) xs ≡ drop word.1 rest = sym (drop-drop word.1 at xs) in
    let words = words_of-grown (take at xs) (take word.0 rest) (slice_range rest word.0 word.1) (drop word.1 rest) end.closed meets first.blanks first.plain some in
    record {
      within = omega (arith, places, length-drop at xs, end.within);
      closed = rw front (closed_grown (take at xs) (take word.0 rest) (slice_range rest word.0 word.1) (drop word.1 rest) end.closed meets first.blanks first.plain some);
      meets = inr (rw back first.ends);
      count = ap (λ ys. length (words_of ys)) front ∙ (ap length words ∙ (length-append (words_of (take at xs)) (slice_range rest word.0 word.1 ∷ []) ∙ ap (λ n. n + 1) end.count));
    }

pub no_word_left : (xs : List ℕ) (at k : ℕ) → IsWordEnd xs at k → words_of (drop at xs) ≡ [] → length (words_of xs) ≡ k
no_word_left xs at k end none =
    let whole : words_of xs ≡ words_of (take at xs) ++ words_of (drop at xs) = ap words_of (sym (take-append-drop at xs)) ∙ joined (take at xs) (drop at xs) end.closed end.meets in
    ap length whole ∙ (rw (none, append_nil_words (words_of (take at xs))) end.count)

pub word_of : (text : List ℕ) (from to at k : ℕ) (word : ℕ × ℕ) → from ≤ to → to ≤ length text → IsWordEnd (slice_range text from to) at k → IsFirstWord (drop at (slice_range text from to)) word → IsWordAt text from to k (from + at + word.0, from + at + word.1)
word_of text from to at k word order within end first =
    let xs = slice_range text from to in
    let size = length-slice text from to within in
    let rest_size = length-drop at xs in
    let places = first.ordered in
    let at_within = end.within in
    let meets = grown_at xs at k word end first in
    let rest = drop-slice text from to at (omega (arith, size, at_within)) in
    let front : take (at + word.0) xs ≡ take at xs ++ take word.0 (drop at xs) = take-add at word.0 xs in
    let blank_words : words_of (take word.0 (drop at xs)) ≡ [] = no_words (take word.0 (drop at xs)) first.blanks in
    let before : words_of (take (at + word.0) xs) ≡ words_of (take at xs) =
    ap words_of front ∙ (end.closed.meet (take word.0 (drop at xs)) (ends_blanks (take word.0 (drop at xs)) first.blanks) ∙ rw (blank_words, append_nil_words (words_of (take at xs))) refl) in
    let whole : words_of xs ≡ words_of (take at xs) ++ words_of (drop at xs) = ap words_of (sym (take-append-drop at xs)) ∙ joined (take at xs) (drop at xs) end.closed end.meets in
    let here = words_of-first (drop at xs) word first in
    let place : from + (at + word.0) ≡ from + at + word.0 = omega arith in
    let to_front : slice_range text from (from + at + word.0) ≡ take (at + word.0) xs = rw (← place) (sym (take-slice text from to (at + word.0) (omega (arith, places, size, rest_size, at_within)))) in
    let to_word : slice_range (drop at xs) word.0 word.1 ≡ slice_range text (from + at + word.0) (from + at + word.1) = rw rest (slice-slice text (from + at) to word.0 word.1 (omega (arith, places)) (omega (arith, places, size, rest_size, at_within))) in
    let to_back : drop word.1 (drop at xs) ≡ slice_range text (from + at + word.1) to = rw rest (drop-slice text (from + at) to word.1 (omega (arith, places, size, rest_size, at_within))) in
    record {
      ordered = (omega arith, omega (arith, places), omega (arith, places, size, rest_size, at_within));
      before = ap (λ ys. length (words_of ys)) to_front ∙ (ap length before ∙ end.count);
      words = whole ∙ (ap (λ ws. words_of (take at xs) ++ ws) here ∙ rw (to_word, to_back, to_front, before) refl);
    }
