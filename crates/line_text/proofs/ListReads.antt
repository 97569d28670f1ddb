-- Lists of things: up to a word that stops them, to the end of the words, and one for each place.
use Rattle.std.proofs.Common.{◌≡◌, ℕ, zero, suc, ◌≤◌, Bool, true, false, List, [], ◌∷◌, ◌++◌, length, map, refl, ap, subst, sym, ◌∙◌, arith, append_assoc, append-nil, Result, Ok, Err}
use Rattle.std.specs.Prelude.{All, if◌then◌else◌}
use Rattle.std.specs.List.{flat_map}
use Rattle.std.proofs.lemmas.List.{length-append, map-append}
use Rattle.std.proofs.lemmas.List.Elements.{All-nil, All-cons, All-append, All-head, All-tail}
use Rattle.line_text.specs.declared.fault.Kind.{Kind}
use Rattle.line_text.specs.Words.{Words, Wants, and_then, for_each, at_most_until, until, to_the_end}
use Rattle.line_text.specs.Spelling.{in_printed_form}
pub use Rattle.line_text.specs.Items.{EachAfter, AllAt}
use Rattle.line_text.proofs.PrintedWordLemmas.{IsPrinted}
use Rattle.line_text.proofs.Judgement.{Reads, Spent, Any, Anything, AtEnd, parted, no_items, given, same_as, settled, two}

-- a condition that says nothing of the things before
pub each_of_all : {A : Type 0} (P : A → Type 0) (before xs : List A) → All P xs → EachAfter (λ _. P) before xs
each_of_all P before [] all = tt
each_of_all P before (x ∷ xs) all = (All-head P x xs all, each_of_all P (before ++ x ∷ []) xs (All-tail P x xs all))

pub all_of_each : {A : Type 0} (P : A → Type 0) (before xs : List A) → EachAfter (λ _. P) before xs → All P xs
all_of_each P before [] each = All-nil P
all_of_each P before (x ∷ xs) each = All-cons P x xs each.0 (all_of_each P (before ++ x ∷ []) xs each.1)

-- what each thing keeps, all things keep
pub each_keeps : {A : Type 0} {P : List A → A → Type 0} (Q : List A → Type 0) → ((before : List A) (x : A) → Q before → P before x → Q (before ++ x ∷ [])) → (before xs : List A) → Q before → EachAfter P before xs → Q (before ++ xs)
each_keeps Q step before [] q each = subst Q (sym (append-nil before)) q
each_keeps Q step before (x ∷ xs) q each =
    subst Q (append_assoc before (x ∷ []) xs) (each_keeps Q step (before ++ x ∷ []) xs (step before x q each.0) each.1)

-- a condition of each thing of a whole, wherever the whole is cut
pub each_of_cuts : {A : Type 0} {P : List A → A → Type 0} (whole : List A) → ((front : List A) (x : A) (back : List A) → front ++ x ∷ back ≡ whole → P front x) → (before xs : List A) → before ++ xs ≡ whole → EachAfter P before xs
each_of_cuts whole each before [] is = tt
each_of_cuts whole each before (x ∷ xs) is =
    (each before x xs is, each_of_cuts whole each (before ++ x ∷ []) xs (append_assoc before (x ∷ []) xs ∙ is))

-- what stands behind stops the list
abbrev pub Stopped : (List ℕ → Bool) → Words → Type 0
Stopped stops [] = Unit {0}
Stopped stops (w ∷ words) = stops w ≡ true

record ListSpent {A : Type 0} (form : A → Words) (P : List A → A → Type 0) (before : List A) (words : Words) (y : List A × Words) : Type 0 where
  pub more : List A
  pub front : Words
  pub whole : y.0 ≡ before ++ more
  pub is : words ≡ front ++ y.1
  pub spells : map in_printed_form front ≡ flat_map form more
  pub fits : EachAfter P before more

nothing_more : {A : Type 0} {form : A → Words} {P : List A → A → Type 0} (before : List A) (words : Words) (y : List A × Words) → ◌≡◌ {A = Result (List A × Words) Kind} (Ok (before, words)) (Ok y) → ListSpent form P before words y
nothing_more {A} before words y h =
    let same : (before, words) ≡ y = cc in
    record {
      more = [];
      front = [];
      whole = ap (λ (z : List A × Words). z.0) (sym same) ∙ sym (append-nil before);
      is = ap (λ (z : List A × Words). z.1) same;
      spells = refl;
      fits = tt;
    }

one_more : {A : Type 0} {form : A → Words} {P : List A → A → Type 0} (stops : List ℕ → Bool) (wanted : List A → Wants A) (judged : (before : List A) → Reads (wanted before) Any form (P before) Anything) (n : ℕ) (before : List A) (words : Words) (y : List A × Words) (r : Result (A × Words) Kind) → wanted before words ≡ r → ((x : A × Words) → at_most_until n stops wanted (before ++ x.0 ∷ []) x.1 ≡ Ok y → ListSpent form P (before ++ x.0 ∷ []) x.1 y) → and_then r (λ x. at_most_until n stops wanted (before ++ x ∷ [])) ≡ Ok y → ListSpent form P before words y
one_more stops wanted judged n before words y (Err kind) is later h = cc
one_more stops wanted judged n before words y (Ok x) is later h =
    let first = (judged before).told words x is in
    let rest = later x h in
    record {
      more = x.0 ∷ rest.more;
      front = first.front ++ rest.front;
      whole = rest.whole ∙ append_assoc before (x.0 ∷ []) rest.more;
      is = first.is ∙ (ap (λ ws. first.front ++ ws) rest.is ∙ sym (append_assoc first.front rest.front y.1));
      spells = map-append in_printed_form first.front rest.front ∙ rw (first.spells, rest.spells) refl;
      fits = (first.fits, rest.fits);
    }

by_stop : {A : Type 0} {form : A → Words} {P : List A → A → Type 0} (b : Bool) (before : List A) (words : Words) (y : List A × Words) (r : Result (List A × Words) Kind) → (r ≡ Ok y → ListSpent form P before words y) → (if b then Ok (before, words) else r) ≡ Ok y → ListSpent form P before words y
by_stop true before words y r later h = nothing_more before words y h
by_stop false before words y r later h = later h

list_told : {A : Type 0} {form : A → Words} {P : List A → A → Type 0} (stops : List ℕ → Bool) (wanted : List A → Wants A) (judged : (before : List A) → Reads (wanted before) Any form (P before) Anything) (n : ℕ) (before : List A) (words : Words) (y : List A × Words) → at_most_until n stops wanted before words ≡ Ok y → ListSpent form P before words y
list_told stops wanted judged zero before words y h = nothing_more before words y h
list_told stops wanted judged (suc n) before [] y h = nothing_more before [] y h
list_told stops wanted judged (suc n) before (w ∷ words) y h =
    by_stop (stops w) before (w ∷ words) y (and_then (wanted before (w ∷ words)) (λ x. at_most_until n stops wanted (before ++ x ∷ []))) (one_more stops wanted judged n before (w ∷ words) y (wanted before (w ∷ words)) refl (λ x. list_told stops wanted judged n (before ++ x.0 ∷ []) x.1 y)) h

stopped : {A : Type 0} (n : ℕ) (stops : List ℕ → Bool) (wanted : List A → Wants A) (xs : List A) (left : Words) → Stopped stops left → at_most_until n stops wanted xs left ≡ Ok (xs, left)
stopped zero stops wanted xs left is = refl
stopped (suc n) stops wanted xs [] is = refl
stopped (suc n) stops wanted xs (w ∷ left) is = rw is refl

one_taken : {A : Type 0} (n : ℕ) (stops : List ℕ → Bool) (wanted : List A → Wants A) (xs : List A) (w : List ℕ) (words left : Words) (x : A) (r : Result (List A × Words) Kind) → stops w ≡ false → length (w ∷ words ++ left) ≤ n → wanted xs (w ∷ words ++ left) ≡ Ok (x, left) → ((m : ℕ) → length left ≤ m → at_most_until m stops wanted (xs ++ x ∷ []) left ≡ r) → at_most_until n stops wanted xs (w ∷ words ++ left) ≡ r
one_taken zero stops wanted xs w words left x r goes enough read others = absurd (omega (arith, enough))
one_taken (suc n) stops wanted xs w words left x r goes enough read others =
    let room : length left ≤ n = omega (arith, enough, length-append words left) in
    rw goes (ap (λ s. and_then s (λ (y : _). at_most_until n stops wanted (xs ++ y ∷ []))) read ∙ others n room)

-- the first word of a thing does not stop the list
abbrev pub Begins : {A : Type 0} → (List ℕ → Bool) → (A → Words) → (List A → A → Type 0) → Type 0
Begins {A} stops form P = (before : List A) (x : A) (words : Words) → P before x → map in_printed_form words ≡ form x → (w : List ℕ) × (more : Words) × (words ≡ w ∷ more) × (stops w ≡ false)

list_taken : {A : Type 0} {form : A → Words} {P : List A → A → Type 0} (stops : List ℕ → Bool) (wanted : List A → Wants A) (judged : (before : List A) → Reads (wanted before) Any form (P before) Anything) → Begins stops form P → (xs : List A) (n : ℕ) (before : List A) (words left : Words) → EachAfter P before xs → length (words ++ left) ≤ n → map in_printed_form words ≡ flat_map form xs → Stopped stops left → at_most_until n stops wanted before (words ++ left) ≡ Ok (before ++ xs, left)
list_taken stops wanted judged begins [] n before words left each enough e is =
    ap (λ (ws : Words). at_most_until n stops wanted before (ws ++ left)) (no_items in_printed_form words e) ∙ (stopped n stops wanted before left is ∙ ap (λ xs. Ok (xs, left)) (sym (append-nil before)))
list_taken {form = form} stops wanted judged begins (x ∷ xs) n before words left each enough e is =
    let parts = parted in_printed_form words (form x) (flat_map form xs) e in
    let first = begins before x parts.first each.0 parts.front in
    let whole : words ++ left ≡ first.0 ∷ (first.1 ++ (parts.second ++ left)) = ap (λ (ws : Words). ws ++ left) parts.is ∙ (append_assoc parts.first parts.second left ∙ ap (λ (ws : Words). ws ++ (parts.second ++ left)) first.2) in
    let within : length (first.0 ∷ (first.1 ++ (parts.second ++ left))) ≤ n = subst (λ (ws : Words). length ws ≤ n) whole enough in
    let read = ap (λ (ws : Words). wanted before (ws ++ (parts.second ++ left))) (sym first.2) ∙ (judged before).taken x parts.first (parts.second ++ left) tt each.0 parts.front tt in
    ap (at_most_until n stops wanted before) whole
    ∙ (one_taken n stops wanted before first.0 first.1 (parts.second ++ left) x (Ok ((before ++ x ∷ []) ++ xs, left)) first.3 within read (λ m room. list_taken stops wanted judged begins xs m (before ++ x ∷ []) parts.second left each.1 room parts.back is)
    ∙ ap (λ ys. Ok (ys, left)) (append_assoc before (x ∷ []) xs))

list_printed : {A : Type 0} {form : A → Words} {P : List A → A → Type 0} (wanted : List A → Wants A) (judged : (before : List A) → Reads (wanted before) Any form (P before) Anything) (before xs : List A) → EachAfter P before xs → All IsPrinted (flat_map form xs)
list_printed wanted judged before [] each = All-nil IsPrinted
list_printed {form = form} wanted judged before (x ∷ xs) each =
    All-append IsPrinted (form x) (flat_map form xs) ((judged before).printed x tt each.0) (list_printed wanted judged (before ++ x ∷ []) xs each.1)

pub until-reads : {A : Type 0} {form : A → Words} {P : List A → A → Type 0} (stops : List ℕ → Bool) (wanted : List A → Wants A) → Begins stops form P → ((before : List A) → Reads (wanted before) Any form (P before) Anything) → Reads (until stops wanted) Any (flat_map form) (EachAfter P []) (Stopped stops)
until-reads {A} {form} {P} stops wanted begins judged =
    record {
      told = told;
      taken = λ xs words left k h e f. list_taken stops wanted judged begins xs (length (words ++ left)) [] words left h (omega arith) e f;
      printed = λ xs k h. list_printed wanted judged [] xs h;
    }
  where
    told : (words : Words) (y : List A × Words) → until stops wanted words ≡ Ok y → Spent Any (flat_map form) (EachAfter P []) words y
    told words y h =
        let spent = list_told stops wanted judged (length words) [] words y h in
        let same = sym spent.whole in
        record { front = spent.front; is = spent.is; knows = tt; spells = spent.spells ∙ ap (flat_map form) same; fits = subst (EachAfter P []) same spent.fits }

-- to the end of the words, where each thing has a word
some_word : {A : Type 0} (form : A → Words) (P : List A → A → Type 0) → ((x : A) → 1 ≤ length (form x)) → Begins (λ _. false) form P
some_word form P some before x [] h e = let none = ap (λ (ws : Words). length ws) e in absurd (omega (arith, none, some x))
some_word form P some before x (w ∷ words) h e = (w, words, refl, refl)

pub to_the_end-reads : {A : Type 0} {form : A → Words} {P : List A → A → Type 0} (wanted : List A → Wants A) → ((x : A) → 1 ≤ length (form x)) → ((before : List A) → Reads (wanted before) Any form (P before) Anything) → Reads (to_the_end wanted) Any (flat_map form) (EachAfter P []) AtEnd
to_the_end-reads {form = form} {P = P} wanted some judged =
    let read = until-reads (λ _. false) wanted (some_word form P some) judged in
    record {
      told = read.told;
      taken = λ xs words left k h e end. read.taken xs words left k h e (subst (Stopped (λ _. false)) (sym end) tt);
      printed = read.printed;
    }

-- One thing for each place of a list.
abbrev pub words_at : {A : Type 0} → (ℕ → A → Words) → List ℕ → List A → Words
words_at form [] xs = []
words_at form (k ∷ ks) [] = []
words_at form (k ∷ ks) (x ∷ xs) = form k x ++ words_at form ks xs

pub for_each-reads : {A : Type 0} {form : ℕ → A → Words} {P : ℕ → A → Type 0} (wanted : ℕ → Wants A) → ((k : ℕ) → Reads (wanted k) Any (form k) (P k) Anything) → (ks : List ℕ) → Reads (for_each wanted ks) Any (words_at form ks) (AllAt P ks) Anything
for_each-reads {A} {form} {P} wanted judged [] =
    same_as (settled (given {known = λ z. [] ≡ z} [] refl (λ z e. e))) (λ xs k h. (refl, subst (AllAt P []) h.0 tt)) (λ xs k h. (no_place xs h, tt))
  where
    no_place : (z : List A) → AllAt P [] z → [] ≡ z
    no_place [] all = refl
    no_place (x ∷ xs) all = absurd all
for_each-reads {A} {form} {P} wanted judged (k ∷ ks) =
    two (λ x xs. x ∷ xs) (judged k) (λ x p. for_each-reads wanted judged ks) (λ x xs p all. (tt, refl, (p, all))) parts
  where
    parts : (z : List A) → Any z → AllAt P (k ∷ ks) z → (x : A) × (xs : List A) × (x ∷ xs ≡ z) × P k x × AllAt P ks xs
    parts [] any all = absurd all
    parts (x ∷ xs) any all = (x, xs, refl, all.0, all.1)
