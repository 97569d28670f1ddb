-- The judgement of a grammar item: words are read as a thing exactly where they are its words, up to the form of numbers, and a condition holds of it.
use Rattle.std.proofs.Common.{◌≡◌, Bool, true, false, List, [], ◌∷◌, ◌++◌, map, refl, ap, subst, sym, ◌∙◌, append_assoc, Result, Ok, Err}
use Rattle.std.specs.Prelude.{All, MatchBool, if◌then◌else◌}
use Rattle.std.proofs.lemmas.List.{map-append}
use Rattle.std.proofs.lemmas.List.Elements.{All-nil, All-append}
use Rattle.line_text.specs.declared.fault.Kind.{Kind}
use Rattle.line_text.specs.Words.{Words, Wants, ◌>>=◌, ◌>>◌, and_then, give, fault_if}
use Rattle.line_text.specs.Spelling.{in_printed_form}
use Rattle.line_text.proofs.PrintedWordLemmas.{IsPrinted}

-- the words in front of those that are left are the words of a thing
pub record Spent {A : Type 0} (known : A → Type 0) (form : A → Words) (holds : A → Type 0) (words : Words) (y : A × Words) : Type 0 where
  pub front : Words
  pub is : words ≡ front ++ y.1
  pub knows : known y.0
  pub spells : map in_printed_form front ≡ form y.0
  pub fits : holds y.0

-- what may stand behind a thing: any words, or none
abbrev pub Anything : Words → Type 0
Anything left = Unit {0}

abbrev pub AtEnd : Words → Type 0
AtEnd left = left ≡ []

-- no thing is known yet
abbrev pub Any : {A : Type 0} → A → Type 0
Any x = Unit {0}

-- What is known of the thing comes from the words before; `behind` is what may stand behind its words.
pub record Reads {A : Type 0} (wanted : Wants A) (known : A → Type 0) (form : A → Words) (holds : A → Type 0) (behind : Words → Type 0) : Type 0 where
  pub told : (words : Words) (y : A × Words) → wanted words ≡ Ok y → Spent known form holds words y
  pub taken : (x : A) (words left : Words) → known x → holds x → map in_printed_form words ≡ form x → behind left → wanted (words ++ left) ≡ Ok (x, left)
  pub printed : (x : A) → known x → holds x → All IsPrinted (form x)

-- a list whose image is two lists
pub record Parted {X Y : Type 0} (view : X → Y) (xs : List X) (ys zs : List Y) : Type 0 where
  pub first : List X
  pub second : List X
  pub is : xs ≡ first ++ second
  pub front : map view first ≡ ys
  pub back : map view second ≡ zs

pub parted : {X Y : Type 0} (view : X → Y) (xs : List X) (ys zs : List Y) → map view xs ≡ ys ++ zs → Parted view xs ys zs
parted view xs [] zs e = record { first = []; second = xs; is = refl; front = refl; back = e }
parted view [] (y ∷ ys) zs e = cc
parted view (x ∷ xs) (y ∷ ys) zs e =
    let tail : map view xs ≡ ys ++ zs = cc in
    let head : view x ≡ y = cc in
    let others = parted view xs ys zs tail in
    record {
      first = x ∷ others.first;
      second = others.second;
      is = ap (λ l. x ∷ l) others.is;
      front = let front = others.front in cc;
      back = others.back;
    }

pub no_items : {X Y : Type 0} (view : X → Y) (xs : List X) → map view xs ≡ [] → xs ≡ []
no_items view [] e = refl
no_items view (x ∷ xs) e = cc

-- a thing is given
given_told : {A : Type 0} {known : A → Type 0} (x : A) → known x → (words : Words) (y : A × Words) → give x words ≡ Ok y → Spent known (λ _. []) (λ _. Unit {0}) words y
given_told {A} {known} x k words y e =
    let same : (x, words) ≡ y = cc in
    subst (λ (z : A × Words). Spent known (λ _. []) (λ _. Unit {0}) words z) same (record { front = []; is = refl; knows = k; spells = refl; fits = tt })

pub given : {A : Type 0} {known : A → Type 0} {behind : Words → Type 0} (x : A) → known x → ((z : A) → known z → x ≡ z) → Reads (give x) known (λ _. []) (λ _. Unit {0}) behind
given x k only =
    record {
      told = given_told x k;
      taken = λ z words left k h e f. rw (no_items in_printed_form words e, only z k) refl;
      printed = λ z k h. All-nil IsPrinted;
    }

-- The next thing is a part of the whole, and then the others are wanted.
next_told : {A B : Type 0} {form : A → Words} {holds : A → Type 0} {known : B → Type 0} {form2 : B → Words} {holds2 : B → Type 0} {behind : Words → Type 0} (part : B → A) (next : A → Wants B) (words : Words) (r : Result (A × Words) Kind) → ((x : A × Words) → r ≡ Ok x → Spent Any form holds words x) → ((x : A) → holds x → Reads (next x) (λ z. known z × (part z ≡ x)) form2 holds2 behind) → (y : B × Words) → and_then r next ≡ Ok y → Spent known (λ z. form (part z) ++ form2 z) (λ z. holds (part z) × holds2 z) words y
next_told part next words (Err kind) p q y e = cc
next_told {form = form} {holds = holds} {form2 = form2} part next words (Ok x) p q y e =
    let first = p x refl in
    let second = (q x.0 first.fits).told x.1 y e in
    let same = second.knows.1 in
    record {
      front = first.front ++ second.front;
      is = first.is ∙ (ap (λ ws. first.front ++ ws) second.is ∙ sym (append_assoc first.front second.front y.1));
      knows = second.knows.0;
      spells = map-append in_printed_form first.front second.front ∙ rw (first.spells, second.spells, same) refl;
      fits = (subst holds (sym same) first.fits, second.fits);
    }

-- What may stand behind the part is what the others, and what is left behind them, begin with.
pub next_before : {A B : Type 0} {wanted : Wants A} {after : A → Wants B} {form : A → Words} {holds : A → Type 0} {known : B → Type 0} {form2 : B → Words} {holds2 : B → Type 0} {behind2 behind : Words → Type 0} (part : B → A) → ((z : B) (words left : Words) → holds2 z → map in_printed_form words ≡ form2 z → behind left → behind2 (words ++ left)) → Reads wanted Any form holds behind2 → ((x : A) → holds x → Reads (after x) (λ z. known z × (part z ≡ x)) form2 holds2 behind) → Reads (wanted >>= after) known (λ z. form (part z) ++ form2 z) (λ z. holds (part z) × holds2 z) behind
next_before {wanted = wanted} {after = after} {form = form} {holds = holds} {known = known} {form2 = form2} {holds2 = holds2} {behind = behind} part follows p q =
    record {
      told = λ words y e. next_told part after words (wanted words) (p.told words) q y e;
      taken = taken;
      printed = λ z k h. All-append IsPrinted (form (part z)) (form2 z) (p.printed (part z) tt h.0) ((q (part z) h.0).printed z (k, refl) h.1);
    }
  where
    taken : (z : _) (words left : Words) → known z → holds (part z) × holds2 z → map in_printed_form words ≡ form (part z) ++ form2 z → behind left → and_then (wanted (words ++ left)) after ≡ Ok (z, left)
    taken z words left k h e f =
        let parts = parted in_printed_form words (form (part z)) (form2 z) e in
        let whole : words ++ left ≡ parts.first ++ (parts.second ++ left) = ap (λ (l : Words). l ++ left) parts.is ∙ append_assoc parts.first parts.second left in
        let first = p.taken (part z) parts.first (parts.second ++ left) tt h.0 parts.front (follows z parts.second left h.1 parts.back f) in
        let second = (q (part z) h.0).taken z parts.second left (k, refl) h.1 parts.back f in
        ap (λ (l : Words). and_then (wanted l) after) whole ∙ (ap (λ r. and_then r after) first ∙ second)

pub next : {A B : Type 0} {wanted : Wants A} {after : A → Wants B} {form : A → Words} {holds : A → Type 0} {known : B → Type 0} {form2 : B → Words} {holds2 : B → Type 0} {behind : Words → Type 0} (part : B → A) → Reads wanted Any form holds Anything → ((x : A) → holds x → Reads (after x) (λ z. known z × (part z ≡ x)) form2 holds2 behind) → Reads (wanted >>= after) known (λ z. form (part z) ++ form2 z) (λ z. holds (part z) × holds2 z) behind
next part p q = next_before part (λ z words left h e f. tt) p q

-- a test of what was read before; the condition says of the thing what the test says of its parts
pub unless : {B : Type 0} {after : Wants B} {known : B → Type 0} {form : B → Words} {holds : B → Type 0} {behind : Words → Type 0} (kind : Kind) (test : Bool) (passes : B → Type 0) → ((z : B) → known z → test ≡ false → passes z) → ((z : B) → known z → passes z → test ≡ false) → (test ≡ false → Reads after known form holds behind) → Reads (fault_if kind test >> after) known form (λ z. passes z × holds z) behind
unless {after = after} {known = known} {form = form} {holds = holds} {behind = behind} kind test passes on off q =
    record {
      told = λ words y e. told test refl words y e;
      taken = λ z words left k h e f. let none = off z k h.0 in ap (λ b. (fault_if kind b >> after) (words ++ left)) none ∙ (q none).taken z words left k h.1 e f;
      printed = λ z k h. (q (off z k h.0)).printed z k h.1;
    }
  where
    told : (b : Bool) → test ≡ b → (words : Words) (y : _) → (fault_if kind b >> after) words ≡ Ok y → Spent known form (λ z. passes z × holds z) words y
    told true is words y e = cc
    told false is words y e =
        let spent = (q is).told words y e in
        record { front = spent.front; is = spent.is; knows = spent.knows; spells = spent.spells; fits = (on y.0 spent.knows is, spent.fits) }

-- the same judgement in other words
pub same_as : {A : Type 0} {wanted : Wants A} {known : A → Type 0} {form form2 : A → Words} {holds holds2 : A → Type 0} {behind : Words → Type 0} → Reads wanted known form holds behind → ((z : A) → known z → holds z → (form z ≡ form2 z) × holds2 z) → ((z : A) → known z → holds2 z → holds z) → Reads wanted known form2 holds2 behind
same_as {form2 = form2} p to from =
    record {
      told = λ words y e.
          let spent = p.told words y e in
          let same = to y.0 spent.knows spent.fits in
          record { front = spent.front; is = spent.is; knows = spent.knows; spells = spent.spells ∙ same.0; fits = same.1 };
      taken = λ z words left k h e f. let was = from z k h in p.taken z words left k was (e ∙ sym (to z k was).0) f;
      printed = λ z k h. let was = from z k h in subst (λ ws. All IsPrinted ws) (to z k was).0 (p.printed z k was);
    }

-- a thing is made of another one, of which it tells all
made_told : {A B : Type 0} {form : A → Words} {holds : A → Type 0} {known : B → Type 0} {form2 : B → Words} {holds2 : B → Type 0} (make : A → B) (words : Words) (r : Result (A × Words) Kind) → ((x : A × Words) → r ≡ Ok x → Spent Any form holds words x) → ((x : A) → holds x → known (make x) × (form2 (make x) ≡ form x) × holds2 (make x)) → (y : B × Words) → and_then r (λ x. give (make x)) ≡ Ok y → Spent known form2 holds2 words y
made_told make words (Err kind) p to y e = cc
made_told {B = B} {known = known} {form2 = form2} {holds2 = holds2} make words (Ok x) p to y e =
    let spent = p x refl in
    let is = to x.0 spent.fits in
    let same : (make x.0, x.1) ≡ y = cc in
    subst (λ (z : B × Words). Spent known form2 holds2 words z) same (record { front = spent.front; is = spent.is; knows = is.0; spells = spent.spells ∙ sym is.1; fits = is.2 })

pub made : {A B : Type 0} {wanted : Wants A} {form : A → Words} {holds : A → Type 0} {known : B → Type 0} {form2 : B → Words} {holds2 : B → Type 0} {behind : Words → Type 0} (make : A → B) → Reads wanted Any form holds behind → ((x : A) → holds x → known (make x) × (form2 (make x) ≡ form x) × holds2 (make x)) → ((z : B) → known z → holds2 z → (x : A) × (make x ≡ z) × holds x) → Reads (wanted >>= (λ x. give (make x))) known form2 holds2 behind
made {wanted = wanted} {known = known} {form2 = form2} {holds2 = holds2} {behind = behind} make p to from =
    record {
      told = λ words y e. made_told make words (wanted words) (p.told words) to y e;
      taken = taken;
      printed = λ z k h. let x = from z k h in subst (λ y. All IsPrinted (form2 y)) x.1 (subst (λ ws. All IsPrinted ws) (sym (to x.0 x.2).1) (p.printed x.0 tt x.2));
    }
  where
    taken : (z : _) (words left : Words) → known z → holds2 z → map in_printed_form words ≡ form2 z → behind left → and_then (wanted (words ++ left)) (λ x. give (make x)) ≡ Ok (z, left)
    taken z words left k h e f =
        let x = from z k h in
        let form_is = e ∙ (ap form2 (sym x.1) ∙ (to x.0 x.2).1) in
        ap (λ r. and_then r (λ x. give (make x))) (p.taken x.0 words left tt x.2 form_is f) ∙ ap (λ y. Ok (y, left)) x.1

-- the last thing is a part of the whole
pub last : {A B : Type 0} {wanted : Wants A} {form : A → Words} {holds : A → Type 0} {known : B → Type 0} {behind : Words → Type 0} (part : B → A) (make : A → B) → Reads wanted Any form holds behind → ((x : A) → holds x → known (make x) × (part (make x) ≡ x)) → ((z : B) → known z → make (part z) ≡ z) → Reads (wanted >>= (λ x. give (make x))) known (λ z. form (part z)) (λ z. holds (part z)) behind
last {form = form} {holds = holds} part make p to from =
    made make p
    (λ x h. let is = to x h in (is.0, ap form is.1, subst holds (sym is.1) h))
    (λ z k h. (part z, from z k, h))

-- what is known is a condition
pub settled : {A : Type 0} {wanted : Wants A} {known : A → Type 0} {form : A → Words} {holds : A → Type 0} {behind : Words → Type 0} → Reads wanted known form holds behind → Reads wanted Any form (λ z. known z × holds z) behind
settled p =
    record {
      told = λ words y e.
          let spent = p.told words y e in
          record { front = spent.front; is = spent.is; knows = tt; spells = spent.spells; fits = (spent.knows, spent.fits) };
      taken = λ z words left k h e f. p.taken z words left h.0 h.1 e f;
      printed = λ z k h. p.printed z h.0 h.1;
    }

-- Two things, of which a whole is made: as `next` and `last`, where the parts of the whole are told by cases.
pub two : {A B C : Type 0} {wanted : Wants A} {after : A → Wants B} {form : A → Words} {holds : A → Type 0} {form2 : A → B → Words} {holds2 : A → B → Type 0} {known : C → Type 0} {whole : C → Words} {all : C → Type 0} {behind : Words → Type 0} (make : A → B → C) → Reads wanted Any form holds Anything → ((x : A) → holds x → Reads (after x) Any (form2 x) (holds2 x) behind) → ((x : A) (y : B) → holds x → holds2 x y → known (make x y) × (form x ++ form2 x y ≡ whole (make x y)) × all (make x y)) → ((z : C) → known z → all z → (x : A) × (y : B) × (make x y ≡ z) × holds x × holds2 x y) → Reads (wanted >>= (λ x. after x >>= (λ y. give (make x y)))) known whole all behind
two {A} {B} {C} {wanted} {after} {form} {holds} {form2} {holds2} {known} {whole} {all} {behind} make p q to from =
    record { told = λ words z e. told words (wanted words) (p.told words) z e; taken = taken; printed = printed }
  where
    second_told : (words : Words) (x : A × Words) → Spent Any form holds words x → (r : Result (B × Words) Kind) → after x.0 x.1 ≡ r → (z : C × Words) → and_then r (λ y. give (make x.0 y)) ≡ Ok z → Spent known whole all words z
    second_told words x first (Err kind) is z e = cc
    second_told words x first (Ok y) is z e =
        let second = (q x.0 first.fits).told x.1 y is in
        let made_of = to x.0 y.0 first.fits second.fits in
        let same : (make x.0 y.0, y.1) ≡ z = cc in
        subst (λ (z : C × Words). Spent known whole all words z) same
        (record {
          front = first.front ++ second.front;
          is = first.is ∙ (ap (λ ws. first.front ++ ws) second.is ∙ sym (append_assoc first.front second.front y.1));
          knows = made_of.0;
          spells = map-append in_printed_form first.front second.front ∙ (rw (first.spells, second.spells) refl ∙ made_of.1);
          fits = made_of.2;
        })

    told : (words : Words) (r : Result (A × Words) Kind) → ((x : A × Words) → r ≡ Ok x → Spent Any form holds words x) → (z : C × Words) → and_then r (λ x. after x >>= (λ y. give (make x y))) ≡ Ok z → Spent known whole all words z
    told words (Err kind) first z e = cc
    told words (Ok x) first z e = second_told words x (first x refl) (after x.0 x.1) refl z e

    taken : (z : C) (words left : Words) → known z → all z → map in_printed_form words ≡ whole z → behind left → (wanted >>= (λ x. after x >>= (λ y. give (make x y)))) (words ++ left) ≡ Ok (z, left)
    taken z words left k h e f =
        let of = from z k h in
        let form_is = e ∙ (ap whole (sym of.2) ∙ sym (to of.0 of.1 of.3 of.4).1) in
        let parts = parted in_printed_form words (form of.0) (form2 of.0 of.1) form_is in
        let all_words : words ++ left ≡ parts.first ++ (parts.second ++ left) = ap (λ (l : Words). l ++ left) parts.is ∙ append_assoc parts.first parts.second left in
        let first = p.taken of.0 parts.first (parts.second ++ left) tt of.3 parts.front tt in
        let second = (q of.0 of.3).taken of.1 parts.second left tt of.4 parts.back f in
        ap (λ (l : Words). and_then (wanted l) (λ x. after x >>= (λ y. give (make x y)))) all_words
        ∙ (ap (λ r. and_then r (λ x. after x >>= (λ y. give (make x y)))) first
        ∙ (ap (λ r. and_then r (λ y. give (make of.0 y))) second ∙ ap (λ c. Ok (c, left)) of.2))

    printed : (z : C) → known z → all z → All IsPrinted (whole z)
    printed z k h =
        let of = from z k h in
        let ws = (to of.0 of.1 of.3 of.4).1 ∙ ap whole of.2 in
        subst (λ ws. All IsPrinted ws) ws (All-append IsPrinted (form of.0) (form2 of.0 of.1) (p.printed of.0 tt of.3) ((q of.0 of.3).printed of.1 tt of.4))

-- one of two things, by a test that is known before
pub by_test : {A : Type 0} {m n : Wants A} {form form2 : A → Words} {holds holds2 : A → Type 0} {behind : Words → Type 0} (b : Bool) → Reads m Any form holds behind → Reads n Any form2 holds2 behind → Reads (if b then m else n) Any (λ x. if b then form x else form2 x) (λ x. MatchBool b (holds x) (holds2 x)) behind
by_test true p q = p
by_test false p q = q

-- a thing that takes no words
pub constant : {A : Type 0} {behind : Words → Type 0} (x : A) → Reads (give x) Any (λ _. []) (λ z. z ≡ x) behind
constant x = same_as (settled (given {known = λ z. x ≡ z} x refl (λ z e. e))) (λ z k h. (refl, sym h.0)) (λ z k h. (sym h, tt))

-- what is known holds of each thing that is read
pub knowing : {A : Type 0} {wanted : Wants A} {known : A → Type 0} {form : A → Words} {holds : A → Type 0} {behind : Words → Type 0} → ((z : A) → holds z → known z) → Reads wanted Any form holds behind → Reads wanted known form holds behind
knowing is p =
    record {
      told = λ words y e.
          let spent = p.told words y e in
          record { front = spent.front; is = spent.is; knows = is y.0 spent.fits; spells = spent.spells; fits = spent.fits };
      taken = λ z words left k h e f. p.taken z words left tt h e f;
      printed = λ z k h. p.printed z tt h;
    }

-- a thing behind which anything may stand may stand at the end
pub at_end : {A : Type 0} {wanted : Wants A} {known : A → Type 0} {form : A → Words} {holds : A → Type 0} {behind : Words → Type 0} → Reads wanted known form holds Anything → Reads wanted known form holds behind
at_end p = record { told = p.told; taken = λ z words left k h e f. p.taken z words left k h e tt; printed = p.printed }

-- where no more words come, the end stays the end
pub still_end : (words left : Words) → map in_printed_form words ≡ [] → AtEnd left → AtEnd (words ++ left)
still_end words left e end = rw (no_items in_printed_form words e) end
