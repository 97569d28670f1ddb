-- Label lines: what is read as a label is spelled as it, and the other way round.
use Rattle.std.proofs.Common.{◌≡◌, ℕ, zero, suc, ◌+◌, ◌-◌, ◌^◌, ◌≤◌, ◌<◌, ℤ, pos, neg_ℤ, Bool, true, false, not, inl, inr, List, [], ◌∷◌, ◌++◌, length, map, take, refl, ap, subst, sym, ◌∙◌, append-nil, arith}
use Rattle.std.specs.Prelude.{MatchBool, All, codes, decimal, nat_lt, ◌==◌, if◌then◌else◌}
use Rattle.std.specs.Fmt.{signed_decimal}
use Rattle.std.specs.List.{flat_map, range_with_len}
use Rattle.std.specs.Str.{bytes_eq}
use Rattle.std.proofs.lemmas.Bool.{cases_lt}
use Rattle.std.proofs.lemmas.Bool.Decides.{nat_tests}
use Rattle.std.proofs.lemmas.List.Concat.{flat_map_single}
use Rattle.std.proofs.lemmas.Slice.Eq.{bytes_eq-Decides}
use Rattle.path_graph.specs.declared.parts.Ends.{Ends}
use Rattle.path_graph.specs.Fit.{is_used_at}
use Rattle.path_graph.specs.SetBits.{IsWhole}
use Rattle.path_graph.specs.Walk.{positions}
use Rattle.label_rules.specs.declared.label.Label.{Label}
use Rattle.line_text.specs.declared.fault.Kind.TheVariants as fault
use Rattle.line_text.specs.Words.{Words, is_none}
use Rattle.line_text.specs.Spelling.{in_printed_form}
use Rattle.line_text.specs.Items.{EachAfter, AllAt}
use Rattle.line_text.proofs.PrintedWordLemmas.{printed_name}
use Rattle.line_text.proofs.NumberWordLemmas.{plain_is, printed_plain}
use Rattle.line_text.proofs.Judgement.{Reads, Any, Anything, AtEnd, given, next, next_before, made, unless, same_as, by_test, constant, no_items, knowing, at_end}
use Rattle.line_text.proofs.NumberReads.{IsIn, number_in-reads, natural_in-reads, known_below-reads, not_name}
use Rattle.line_text.proofs.ListReads.{Stopped, Begins, until-reads, to_the_end-reads, for_each-reads, words_at}
use Rattle.line_text.proofs.TailReads.{exactly-reads, tail-reads, tail_words, TailMay}
use Rattle.model_text.specs.LineWords.{last_of, is_above}
use Rattle.model_text.specs.ModelText.{used}
use Rattle.model_text.proofs.LineSpendLemmas.{used_at}
use Rattle.certificate.specs.SetWords.{members, set_with, set_wanted, sets_wanted, set_words}
use Rattle.certificate.specs.LabelWords.{value_at, ends_memory, memory_wanted, state_places, state_at, states_wanted, Shape, label_wanted, behind_key, label_words}
use Rattle.certificate.specs.CertText.{SetFits, ValueFits, StateFits, LabelFits}
use Rattle.certificate.proofs.SetWordLemmas.{SetMay, set_rising, rising_set, members-with, members-rising, with-whole, with-members}

-- what a line sees of a model that keeps its limits
pub record ShapeFits (shape : Shape) : Type 0 where
  pub vertices : shape.vertices ≤ 1024
  pub mains : shape.ends.mains ≤ 2
  pub seconds : shape.ends.seconds ≤ 4
  pub sets : shape.sets ≤ 512

pub not_true : (b : Bool) → not b ≡ false → b ≡ true
not_true true h = refl
not_true false h = cc

pub true_not : (b : Bool) → b ≡ true → not b ≡ false
true_not true h = refl
true_not false h = cc

-- a set, above those before
set-reads : (sets : ℕ) → sets ≤ 512 → (before : List ℕ) → Reads (set_wanted sets before) Any (λ set. decimal set ∷ []) (SetMay sets before) Anything
set-reads sets few before =
    same_as
    (next (λ set. set) (known_below-reads sets (omega (arith, few))) (λ set n.
    unless fault.Order (not (is_above (last_of before) set)) (λ x. is_above (last_of before) x ≡ true) (λ x k none. rw k.1 (not_true _ none)) (λ x k above. rw (← k.1) (true_not _ above)) (λ above.
    given set (tt, refl) (λ x k. sym k.1))))
    (λ x k h. (refl, (h.0, h.1.0)))
    (λ x k h. (h.0, (h.1, tt)))

few_sets : (sets : ℕ) → sets ≤ 512 → (xs : List ℕ) → All (λ x. x < sets) xs → All (λ x. x < 512) xs
few_sets sets few xs all k d within = let h = all k d within in omega (arith, few, h)

-- sets to the end of the line
pub sets-reads : (sets : ℕ) → sets ≤ 512 → Reads (sets_wanted sets) Any set_words (SetFits sets) AtEnd
sets-reads sets few =
    made set_with (to_the_end-reads (set_wanted sets) (λ s. omega arith) (set-reads sets few))
    (λ xs each. let up = set_rising sets xs each in
    let same = members-with xs up.0 (few_sets sets few xs up.1) in
    (tt, ap (λ ys. map decimal ys) same ∙ sym (flat_map_single decimal xs), record { whole = with-whole xs; known = subst (All (λ x. x < sets)) (sym same) up.1 }))
    (λ set k fits. (members set, with-members set fits.whole, rising_set sets (members set) (members-rising set) fits.known))

-- the sets of a memory, which `s` ends
abbrev is_s : List ℕ → Bool
is_s w = ends_memory w

not_equal : (v w : List ℕ) → (v ≡ w → ⊥) → bytes_eq v w ≡ false
not_equal v w apart = by_value (bytes_eq v w) refl
  where
    by_value : (b : Bool) → bytes_eq v w ≡ b → bytes_eq v w ≡ false
    by_value false is = is
    by_value true is = absurd (apart ((bytes_eq-Decides v w).0 is))

begins : (sets : ℕ) → sets ≤ 512 → Begins is_s (λ set. decimal set ∷ []) (SetMay sets)
begins sets few before set [] h e = cc
begins sets few before set (w ∷ words) h e =
    let head : in_printed_form w ≡ decimal set = cc in (
      w,
      words,
      refl,
      not_equal w (codes "s") (λ same.
          not_name (codes "s") refl (pos 0) (pos 1000000) (pos set) (refl, refl) (small_set set h.0) (sym head ∙ printed_plain w (codes "s") refl same)),
    )
  where
    small_set : (set : ℕ) → set < sets → IsIn (pos 0) (pos 1000000) (pos set)
    small_set set below = let most : set ≤ 1000000 = omega (arith, few, below) in (grind arith, grind (arith, most))

stops_no_m : (w : List ℕ) (left : Words) → Stopped is_s (w ∷ left) → bytes_eq w (codes "m") ≡ false
stops_no_m w left is = let same = (bytes_eq-Decides w (codes "s")).0 is in ap (λ v. bytes_eq v (codes "m")) same

abbrev sets_form : List ℕ → Words
sets_form memory = flat_map (λ set. decimal set ∷ []) memory

abbrev MemoryMay : ℕ → List ℕ → Type 0
MemoryMay sets memory = EachAfter (SetMay sets) [] memory × (is_none memory ≡ false)

memory-reads : (sets : ℕ) → sets ≤ 512 → Reads (memory_wanted sets) Any (tail_words (codes "m") sets_form) (TailMay (MemoryMay sets)) (Stopped is_s)
memory-reads sets few =
    tail-reads {form = sets_form} {holds = MemoryMay sets} (codes "m") (printed_name (codes "m") refl refl refl) refl (λ h. let clash = h.1 in cc) stops_no_m
    (same_as
    (next_before (λ memory. memory) (λ z words left h e f. subst (λ (ws : Words). Stopped is_s (ws ++ left)) (sym (no_items in_printed_form words e)) f) (until-reads is_s (set_wanted sets) (begins sets few) (set-reads sets few)) (λ memory m.
    unless fault.Word (is_none memory) (λ x. is_none x ≡ false) (λ x k none. rw k.1 none) (λ x k none. rw (← k.1) none) (λ some.
    given memory (tt, refl) (λ x k. sym k.1))))
    (λ x k h. (append-nil (sets_form x), (h.0, h.1.0)))
    (λ x k h. (h.0, (h.1, tt))))

memory_each : (sets : ℕ) (xs : List ℕ) → TailMay (MemoryMay sets) xs → EachAfter (SetMay sets) [] xs
memory_each sets [] may = tt
memory_each sets (x ∷ xs) may = may.0

each_memory : (sets : ℕ) (xs : List ℕ) → EachAfter (SetMay sets) [] xs → TailMay (MemoryMay sets) xs
each_memory sets [] each = tt
each_memory sets (x ∷ xs) each = (each, refl)

tail_is : (key : List ℕ) (xs : List ℕ) → tail_words key sets_form xs ≡ behind_key key (map decimal xs)
tail_is key [] = refl
tail_is key (x ∷ xs) = ap (λ ws. key ∷ ws) (flat_map_single decimal (x ∷ xs))

-- the states
state_at-reads : (cuts k : ℕ) → Reads (state_at cuts k) Any (λ state. if nat_lt k cuts then decimal state ∷ [] else []) (λ state. StateFits (nat_lt k cuts) state) Anything
state_at-reads cuts k =
    same_as (by_test (nat_lt k cuts) (natural_in-reads 0 255 refl) (constant 0)) (λ z known h. (refl, to (nat_lt k cuts) z h)) (λ z known h. from (nat_lt k cuts) z h)
  where
    to : (b : Bool) (z : ℕ) → MatchBool b ((0 ≤ z) × (z ≤ 255)) (z ≡ 0) → StateFits b z
    to true z h = h.1
    to false z h = h

    from : (b : Bool) (z : ℕ) → StateFits b z → MatchBool b ((0 ≤ z) × (z ≤ 255)) (z ≡ 0)
    from true z h = (omega arith, h)
    from false z h = h

abbrev pub StatesFit : ℕ → List ℕ → Type 0
StatesFit cuts states = AllAt (λ k state. StateFits (nat_lt k cuts) state) state_places states

taken_words : (cuts n a : ℕ) (xs : List ℕ) → AllAt (λ k state. StateFits (nat_lt k cuts) state) (range_with_len a n) xs → words_at (λ k state. if nat_lt k cuts then decimal state ∷ [] else []) (range_with_len a n) xs ≡ map decimal (take (cuts - a) xs)
taken_words cuts zero a [] all = none (cuts - a)
  where
    none : (m : ℕ) → [] ≡ map decimal (take m [])
    none zero = refl
    none (suc m) = refl
taken_words cuts zero a (x ∷ xs) all = absurd all
taken_words cuts (suc n) a [] all = absurd all
taken_words cuts (suc n) a (x ∷ xs) all = elim (cases_lt a cuts) [
  | inl below ↦
      let test : nat_lt a cuts ≡ true = grind (arith, nat_tests, below) in
      let count : cuts - a ≡ suc (cuts - (a + 1)) = omega (arith, below) in
      let rest = taken_words cuts n (a + 1) xs all.1 in
      rw (test, count) (ap (λ ws. decimal x ∷ ws) rest)
  | inr past ↦
      let test : nat_lt a cuts ≡ false = grind (arith, nat_tests, past) in
      let count : cuts - a ≡ 0 = omega (arith, past) in
      let later : cuts - (a + 1) ≡ 0 = omega (arith, past) in
      let rest = taken_words cuts n (a + 1) xs all.1 in
      rw test (rest ∙ (ap (λ m. map decimal (take m xs)) later ∙ ap (λ m. map decimal (take m (x ∷ xs))) (sym count)))
]

places_form : (cuts : ℕ) (states : List ℕ) → StatesFit cuts states → words_at (λ k state. if nat_lt k cuts then decimal state ∷ [] else []) state_places states ≡ map decimal (take cuts states)
unfolding state_places
places_form cuts states all = let same : cuts - 0 ≡ cuts = omega arith in taken_words cuts 64 0 states all ∙ ap (λ m. map decimal (take m states)) same

no_states : (cuts : ℕ) → StatesFit cuts [] → ⊥
unfolding state_places
no_states cuts all = all

states_form : (cuts : ℕ) (states : List ℕ) → StatesFit cuts states → (if cuts == 0 then [] else codes "s" ∷ []) ++ words_at (λ k state. if nat_lt k cuts then decimal state ∷ [] else []) state_places states ≡ behind_key (codes "s") (map decimal (take cuts states))
states_form cuts states all = by_cuts cuts states (places_form cuts states all) all
  where
    by_cuts : (c : ℕ) (states : List ℕ) → words_at (λ k state. if nat_lt k cuts then decimal state ∷ [] else []) state_places states ≡ map decimal (take c states) → StatesFit cuts states → (if c == 0 then [] else codes "s" ∷ []) ++ words_at (λ k state. if nat_lt k cuts then decimal state ∷ [] else []) state_places states ≡ behind_key (codes "s") (map decimal (take c states))
    by_cuts zero states e all = e
    by_cuts (suc c) [] e all = absurd (no_states cuts all)
    by_cuts (suc c) (x ∷ states) e all = let some : (suc c == 0) ≡ false = grind (arith, nat_tests) in rw some (ap (λ ws. codes "s" ∷ ws) e)

states-reads : (cuts : ℕ) → Reads (states_wanted cuts) Any (λ states. behind_key (codes "s") (map decimal (take cuts states))) (StatesFit cuts) AtEnd
states-reads cuts =
    same_as
    (next (λ _. tt) (by_test (cuts == 0) (constant tt) (exactly-reads (codes "s") (printed_name (codes "s") refl refl refl) refl)) (λ x any.
    knowing (λ z h. (tt, refl)) (at_end (for_each-reads (state_at cuts) (state_at-reads cuts) state_places))))
    (λ z k h. (states_form cuts z h.1, h.1))
    (λ z k h. (key_may (cuts == 0), h))
  where
    key_may : (b : Bool) → MatchBool b (◌≡◌ {A = Unit {0}} tt tt) (Unit {0})
    key_may true = refl
    key_may false = tt

states_stop : (states words left : Words) → map in_printed_form words ≡ behind_key (codes "s") states → AtEnd left → Stopped is_s (words ++ left)
states_stop states words left e end = rw end (by_states states words e)
  where
    by_states : (states words : Words) → map in_printed_form words ≡ behind_key (codes "s") states → Stopped is_s (words ++ [])
    by_states [] [] e = tt
    by_states [] (w ∷ words) e = cc
    by_states (s ∷ states) [] e = cc
    by_states (s ∷ states) (w ∷ words) e = let head : in_printed_form w ≡ codes "s" = cc in (bytes_eq-Decides w (codes "s")).1 (plain_is w (codes "s") refl head)

-- the values
value_at-reads : (ends : Ends) (k : ℕ) → Reads (value_at ends k) Any (λ value. if is_used_at ends k then signed_decimal value ∷ [] else []) (λ value. ValueFits (is_used_at ends k) value) Anything
value_at-reads ends k = by_test (is_used_at ends k) (number_in-reads (neg_ℤ (pos (2 ^ 31))) (pos (2 ^ 31 - 1)) (refl, refl)) (constant (pos 0))

six : {A : Type 0} (P : ℕ → A → Type 0) (xs : List A) → AllAt P positions xs → length xs ≡ 6
six P [] all = absurd all
six P (a ∷ []) all = absurd all.1
six P (a ∷ b ∷ []) all = absurd all.1.1
six P (a ∷ b ∷ c ∷ []) all = absurd all.1.1.1
six P (a ∷ b ∷ c ∷ d ∷ []) all = absurd all.1.1.1.1
six P (a ∷ b ∷ c ∷ d ∷ e ∷ []) all = absurd all.1.1.1.1.1
six P (a ∷ b ∷ c ∷ d ∷ e ∷ f ∷ []) all = refl
six P (a ∷ b ∷ c ∷ d ∷ e ∷ f ∷ g ∷ xs) all = absurd all.1.1.1.1.1.1

values_form : (shape : Shape) → ShapeFits shape → (values : List ℤ) → AllAt (λ k value. ValueFits (is_used_at shape.ends k) value) positions values → words_at (λ k value. if is_used_at shape.ends k then signed_decimal value ∷ [] else []) positions values ≡ map signed_decimal (used shape.ends values)
values_form shape fits values all =
    used_at (λ value. signed_decimal value ∷ []) shape.ends values fits.mains fits.seconds (six (λ k value. ValueFits (is_used_at shape.ends k) value) values all) ∙ flat_map_single signed_decimal (used shape.ends values)

-- a label
pub label-reads : (shape : Shape) → ShapeFits shape → Reads (label_wanted shape) Any (label_words shape) (LabelFits shape) AtEnd
label-reads shape fits =
    same_as
    (next (λ l. l.vertex) (known_below-reads shape.vertices (let few = fits.vertices in omega (arith, few))) (λ vertex v.
    next (λ l. l.cost) (number_in-reads (neg_ℤ (pos (2 ^ 112))) (pos (2 ^ 112)) (refl, refl)) (λ cost c.
    next (λ l. l.values.at) (for_each-reads (value_at shape.ends) (value_at-reads shape.ends) positions) (λ values vs.
    next_before (λ l. members l.memory) (λ l words left h e end. states_stop _ words left e end) (memory-reads shape.sets fits.sets) (λ memory m.
    made {form2 = λ l. behind_key (codes "s") (map decimal (take shape.cuts l.states))} {holds2 = λ l. StatesFit shape.cuts l.states × IsWhole l.memory}
    (λ states. record { vertex = vertex; values = record { at = values }; memory = set_with memory; states = states; cost = cost }) (states-reads shape.cuts)
    (λ states s. let up = set_rising shape.sets memory (memory_each shape.sets memory m) in
    (((((tt, refl), refl), refl), members-with memory up.0 (few_sets shape.sets fits.sets memory up.1)), refl, (s, with-whole memory)))
    (λ l k h. (l.states, rw (← k.0.0.0.1, ← k.0.0.1, ← k.0.1, ← k.1) (same_memory l (with-members l.memory h.1)), h.0)))))))
    (λ l k h. (whole_form l h.1.1.0 h.1.1.1.0, record { vertex = h.0; cost = h.1.0; values = h.1.1.0; memory = record { whole = h.1.1.1.1.1; known = (set_rising shape.sets (members l.memory) (memory_each shape.sets (members l.memory) h.1.1.1.0)).1 }; states = h.1.1.1.1.0 }))
    (λ l k h. (h.vertex, (h.cost, (h.values, (each_memory shape.sets (members l.memory) (rising_set shape.sets (members l.memory) (members-rising l.memory) h.memory.known), (h.states, h.memory.whole))))))
  where
    same_memory : (l : Label) → set_with (members l.memory) ≡ l.memory → record l { memory = set_with (members l.memory) } ≡ l
    same_memory l e = ap (λ m. record l { memory = m }) e

    whole_form : (l : Label) → AllAt (λ k value. ValueFits (is_used_at shape.ends k) value) positions l.values.at → TailMay (MemoryMay shape.sets) (members l.memory) → decimal l.vertex ∷ signed_decimal l.cost ∷ words_at (λ k value. if is_used_at shape.ends k then signed_decimal value ∷ [] else []) positions l.values.at ++ (tail_words (codes "m") sets_form (members l.memory) ++ behind_key (codes "s") (map decimal (take shape.cuts l.states))) ≡ label_words shape l
    whole_form l values memory =
        ap (λ ws. decimal l.vertex ∷ signed_decimal l.cost ∷ ws ++ (tail_words (codes "m") sets_form (members l.memory) ++ behind_key (codes "s") (map decimal (take shape.cuts l.states)))) (values_form shape fits l.values.at values)
        ∙ ap (λ ws. decimal l.vertex ∷ signed_decimal l.cost ∷ map signed_decimal (used shape.ends l.values.at) ++ (ws ++ behind_key (codes "s") (map decimal (take shape.cuts l.states)))) (tail_is (codes "m") (members l.memory))
