-- Things wanted one after the other: what is left of them as a loop goes on.
use Rattle.std.proofs.Common.{◌≡◌, ℕ, zero, suc, ◌≤◌, ◌<◌, List, [], ◌∷◌, ◌++◌, length, refl, ap, subst, sym, ◌∙◌, append_assoc, append-nil, Bool, true, false, not, arith, Result, Ok, Err}
use Rattle.line_text.specs.declared.fault.Kind.{Kind}
use Rattle.line_text.specs.declared.fault.LineFault.{LineFault}
use Rattle.line_text.specs.declared.fault.LineFault.TheVariants.{Fault, Memory}
use Rattle.line_text.specs.Words.{Words, Wants, are_some_words, and_then, give, for_each, goes_on, at_most_until, until}
use Rattle.line_text.specs.Gives.{Fails, Gives}
use Rattle.std.specs.Result.{IsErrAnd}
use Rattle.std.proofs.lemmas.Result.{err_from_is_err_and}

-- a fault of one reading is a fault of another
pub fails_alike : {X Y : Type 0} (e : LineFault) (r : Result X Kind) (s : Result Y Kind) → ((kind : Kind) → r ≡ Err kind → s ≡ Err kind) → Fails e r → Fails e s
fails_alike Memory r s alike h = tt
fails_alike (Fault kind) r s alike h = alike kind h

-- the exit of a `?`: the fault that is handed on is a fault of another reading too
pub hands_on : {X Y Z : Type 0} (view : X → Y) (result : Result X LineFault) (e : LineFault) (r : Result Z Kind) (s : Result Y Kind) → IsErrAnd result (λ y. y ≡ e) → Fails e r → ((kind : Kind) → r ≡ Err kind → s ≡ Err kind) → Gives view result s
hands_on view result e r s was fails alike =
    let p = err_from_is_err_and result was in
    rw (p.1, p.2) (fails_alike e r s alike fails)

-- so many things are read, and the others are wanted yet
pub record GoesOn {A : Type 0} (stops : List ℕ → Bool) (wanted : List A → Wants A) (whole : Result (List A × Words) Kind) (before : List A) (words : Words) : Type 0 where
  pub fuel : ℕ
  pub enough : length words ≤ fuel
  pub same : at_most_until fuel stops wanted before words ≡ whole

pub goes_on-begin : {A : Type 0} (stops : List ℕ → Bool) (wanted : List A → Wants A) (words : Words) → GoesOn stops wanted (until stops wanted words) [] words
goes_on-begin stops wanted words = record { fuel = length words; enough = omega arith; same = refl }

next_is : {A : Type 0} (stops : List ℕ → Bool) (wanted : List A → Wants A) (n : ℕ) (before : List A) (w : List ℕ) (words : Words) (r : Result (A × Words) Kind) → stops w ≡ false → wanted before (w ∷ words) ≡ r → at_most_until (suc n) stops wanted before (w ∷ words) ≡ and_then r (λ x. at_most_until n stops wanted (before ++ x ∷ []))
next_is stops wanted n before w words r goes read = rw (goes, read) refl

going : (b : Bool) → not b ≡ true → b ≡ false
going true h = cc
going false h = refl

pub goes_on-more : {A : Type 0} (stops : List ℕ → Bool) (wanted : List A → Wants A) (whole : Result (List A × Words) Kind) (before : List A) (words rest : Words) (x : A) → GoesOn stops wanted whole before words → goes_on stops words ≡ true → wanted before words ≡ Ok (x, rest) → length rest < length words → GoesOn stops wanted whole (before ++ x ∷ []) rest
goes_on-more stops wanted whole before [] rest x on some read shorter = cc
goes_on-more stops wanted whole before (w ∷ words) rest x on some read shorter = more on.fuel on.enough on.same
  where
    more : (n : ℕ) → length (w ∷ words) ≤ n → at_most_until n stops wanted before (w ∷ words) ≡ whole → GoesOn stops wanted whole (before ++ x ∷ []) rest
    more zero enough same = absurd (omega arith)
    more (suc n) enough same = record { fuel = n; enough = omega arith; same = sym (next_is stops wanted n before w words (Ok (x, rest)) (going _ some) read) ∙ same }

pub goes_on-fault : {A : Type 0} (stops : List ℕ → Bool) (wanted : List A → Wants A) (whole : Result (List A × Words) Kind) (before : List A) (words : Words) (kind : Kind) → GoesOn stops wanted whole before words → goes_on stops words ≡ true → wanted before words ≡ Err kind → whole ≡ Err kind
goes_on-fault stops wanted whole before [] kind on some read = cc
goes_on-fault stops wanted whole before (w ∷ words) kind on some read = more on.fuel on.enough on.same
  where
    more : (n : ℕ) → length (w ∷ words) ≤ n → at_most_until n stops wanted before (w ∷ words) ≡ whole → whole ≡ Err kind
    more zero enough same = absurd (omega arith)
    more (suc n) enough same = sym same ∙ next_is stops wanted n before w words (Err kind) (going _ some) read

pub goes_on-end : {A : Type 0} (stops : List ℕ → Bool) (wanted : List A → Wants A) (whole : Result (List A × Words) Kind) (before : List A) (words : Words) → GoesOn stops wanted whole before words → goes_on stops words ≡ false → whole ≡ Ok (before, words)
goes_on-end stops wanted whole before words on none = sym on.same ∙ done on.fuel words none
  where
    stopped : (b : Bool) → not b ≡ false → b ≡ true
    stopped true h = refl
    stopped false h = cc

    done : (n : ℕ) (words : Words) → goes_on stops words ≡ false → at_most_until n stops wanted before words ≡ Ok (before, words)
    done zero words none = refl
    done (suc n) [] none = refl
    done (suc n) (w ∷ words) none = rw (stopped (stops w) none) refl

-- a list to the end of the words goes on where a word is left
pub goes_on-words : (words : Words) → goes_on (λ _. false) words ≡ are_some_words words
goes_on-words [] = refl
goes_on-words (w ∷ words) = refl

-- the things of a list of places, of which those in front are read
pub record EachLeft {A : Type 0} (wanted : ℕ → Wants A) (whole : Result (List A × Words) Kind) (front : List A) (places : List ℕ) (words : Words) : Type 0 where
  pub same : and_then (for_each wanted places words) (λ xs. give (front ++ xs)) ≡ whole

again : {A : Type 0} (r : Result (List A × Words) Kind) → and_then r (λ xs. give ([] ++ xs)) ≡ r
again (Ok x) = refl
again (Err kind) = refl

pub each_left-begin : {A : Type 0} (wanted : ℕ → Wants A) (places : List ℕ) (words : Words) → EachLeft wanted (for_each wanted places words) [] places words
each_left-begin wanted places words = record { same = again (for_each wanted places words) }

regrouped : {A : Type 0} (r : Result (List A × Words) Kind) (front : List A) (x : A) → and_then (and_then r (λ others. give (x ∷ others))) (λ xs. give (front ++ xs)) ≡ and_then r (λ xs. give ((front ++ x ∷ []) ++ xs))
regrouped (Ok y) front x = ap (λ zs. Ok (zs, y.1)) (sym (append_assoc front (x ∷ []) y.0))
regrouped (Err kind) front x = refl

pub each_left-more : {A : Type 0} (wanted : ℕ → Wants A) (whole : Result (List A × Words) Kind) (front : List A) (k : ℕ) (places : List ℕ) (words rest : Words) (x : A) → EachLeft wanted whole front (k ∷ places) words → wanted k words ≡ Ok (x, rest) → EachLeft wanted whole (front ++ x ∷ []) places rest
each_left-more wanted whole front k places words rest x left read =
    record { same = sym (regrouped (for_each wanted places rest) front x) ∙ rw read at left.same }

pub each_left-fault : {A : Type 0} (wanted : ℕ → Wants A) (whole : Result (List A × Words) Kind) (front : List A) (k : ℕ) (places : List ℕ) (words : Words) (kind : Kind) → EachLeft wanted whole front (k ∷ places) words → wanted k words ≡ Err kind → whole ≡ Err kind
each_left-fault wanted whole front k places words kind left read = sym (rw read at left.same)

pub each_left-end : {A : Type 0} (wanted : ℕ → Wants A) (whole : Result (List A × Words) Kind) (front : List A) (words : Words) → EachLeft wanted whole front [] words → whole ≡ Ok (front, words)
each_left-end wanted whole front words left = sym (rw append-nil at left.same)

-- what is read is seen as part of more
pub gives_more : {X Y Z : Type 0} (lift : Y → Z) (view : X → Y × Words) (result : Result X LineFault) (r : Result (Y × Words) Kind) → Gives view result r → Gives (λ x. (lift (view x).0, (view x).1)) result (and_then r (λ y. give (lift y)))
gives_more lift view (Ok x) r h = ap (λ s. and_then s (λ y. give (lift y))) h
gives_more lift view (Err Memory) r h = tt
gives_more lift view (Err (Fault kind)) r h = ap (λ s. and_then s (λ y. give (lift y))) h

pub given_twice : {A B C : Type 0} (r : Result (A × Words) Kind) (f : A → B) (g : B → C) → and_then (and_then r (λ x. give (f x))) (λ y. give (g y)) ≡ and_then r (λ x. give (g (f x)))
given_twice (Ok x) f g = refl
given_twice (Err kind) f g = refl

-- one part is told by the next, in two ways
pub gives_twice : {X A B C D : Type 0} (view : X → B × Words) (result : Result X LineFault) (r : Result (A × Words) Kind) (f : A → B) (lift : B → D) (g : A → C) (put : C → D) → ((a : A) → lift (f a) ≡ put (g a)) → Gives view result (and_then r (λ a. give (f a))) → Gives (λ x. (lift (view x).0, (view x).1)) result (and_then (and_then r (λ a. give (g a))) (λ c. give (put c)))
gives_twice {A = A} view result r f lift g put same h =
    subst (Gives (λ x. (lift (view x).0, (view x).1)) result) (given_twice r f lift ∙ (alike r ∙ sym (given_twice r g put))) (gives_more lift view result (and_then r (λ a. give (f a))) h)
  where
    alike : (r : Result (A × Words) Kind) → and_then r (λ a. give (lift (f a))) ≡ and_then r (λ a. give (put (g a)))
    alike (Ok x) = ap (λ d. Ok (d, x.1)) (same x.0)
    alike (Err kind) = refl
