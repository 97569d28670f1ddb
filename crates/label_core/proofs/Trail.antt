-- The origins of an entry lead back over fewer entries than the table has.
use Rattle.std.proofs.Common.{◌≡◌, ◌⊎◌, ℕ, zero, suc, ◌+◌, ◌<◌, Bool, true, false, Some, None, List, [], ◌∷◌, length, get_or, eqb, refl, sym, ap, ◌∙◌, subst, inl, inr, ⊎_elim, arith}
use Rattle.std.specs.List.{list_any, AllByRecursion, IsDistinct}
use Rattle.std.specs.Prelude.{slice_get, sum_by, ◌||◌}
use Rattle.std.proofs.lemmas.Bool.{eqb-true}
use Rattle.std.proofs.lemmas.Option.{slice_get_within}
use Rattle.std.proofs.lemmas.List.Sums.{sum_by-cons}
use Rattle.std.proofs.lemmas.Map.Steps.{length-le_from_distinct_below}
use Rattle.label_core.specs.declared.table.Place.{Place}
use Rattle.label_core.specs.declared.table.Origin.{Origin}
use Rattle.label_core.specs.declared.table.Entry.{Entry}
use Rattle.label_core.specs.Tables.{Cells, StandsAt, entry_count}
use Rattle.label_core.specs.Walks.{origin, LeadsBack}
use Rattle.label_core.proofs.Lookup.{same_place, same_entry}

module _ {A : Type 0} where
  -- the number of an item in a list of lists, those before it counted
  abbrev number : List (List A) → ℕ → ℕ → ℕ
  number [] c i = i
  number (x ∷ xs) zero i = i
  number (x ∷ xs) (suc c) i = length x + number xs c i

  number_within : (t : List (List A)) (c i : ℕ) (a : A) → slice_get (get_or t c []) i ≡ Some a → number t c i < sum_by length t
  number_within [] c i a s = absurd (cc)
  number_within (x ∷ xs) zero i a s = let h = slice_get_within x i a s in let n = sum_by-cons length x xs in omega arith
  number_within (x ∷ xs) (suc c) i a s = let h = number_within xs c i a s in let n = sum_by-cons length x xs in omega arith

  number_tells : (t : List (List A)) (c i d j : ℕ) (a b : A) → slice_get (get_or t c []) i ≡ Some a → slice_get (get_or t d []) j ≡ Some b
      → number t c i ≡ number t d j → (c ≡ d) × (i ≡ j)
  number_tells [] c i d j a b s s' e = absurd (cc)
  number_tells (x ∷ xs) zero i zero j a b s s' e = (refl, e)
  number_tells (x ∷ xs) zero i (suc d) j a b s s' e = absurd (let h = slice_get_within x i a s in omega arith)
  number_tells (x ∷ xs) (suc c) i zero j a b s s' e = absurd (let h = slice_get_within x j b s' in omega arith)
  number_tells (x ∷ xs) (suc c) i (suc d) j a b s s' e = let m = number_tells xs c i d j a b s s' (omega arith) in (ap suc m.0, m.1)

either : (a b : Bool) → (a || b) ≡ true → (a ≡ true) ⊎ (b ≡ true)
either true b h = inl refl
either false b h = inr h

not_true : (b : Bool) → (b ≡ true → ⊥) → b ≡ false
not_true true n = absurd (n refl)
not_true false n = refl

module _ {L : Type 0} (t : Cells L) where
  -- the numbers of the entries from p back to the root
  abbrev trail : (arcs : List ℕ) (p : Place) → LeadsBack t p arcs → List ℕ
  trail [] p back = number t p.cell p.index ∷ []
  trail (k ∷ arcs) p (e, s, q, from, rest) = number t p.cell p.index ∷ trail arcs q rest

  length_trail : (arcs : List ℕ) (p : Place) (back : LeadsBack t p arcs) → length (trail arcs p back) ≡ suc (length arcs)
  length_trail [] p back = refl
  length_trail (k ∷ arcs) p (e, s, q, from, rest) = ap suc (length_trail arcs q rest)

  first_stands : (arcs : List ℕ) (p : Place) → LeadsBack t p arcs → (e : Entry L) × StandsAt t p e
  first_stands [] p (e, s, root) = (e, s)
  first_stands (k ∷ arcs) p (e, s, q, from, rest) = (e, s)

  trail_within : (arcs : List ℕ) (p : Place) (back : LeadsBack t p arcs) (n : ℕ) → list_any (eqb n) (trail arcs p back) ≡ true → n < entry_count t
  trail_within [] p (e, s, root) n h = ⊎_elim
      (λ is. subst (λ m. m < entry_count t) (sym (eqb-true n (number t p.cell p.index) is)) (number_within t p.cell p.index e s))
      (λ other. absurd (cc))
      (either (eqb n (number t p.cell p.index)) false h)
  trail_within (k ∷ arcs) p (e, s, q, from, rest) n h = ⊎_elim
      (λ is. subst (λ m. m < entry_count t) (sym (eqb-true n (number t p.cell p.index) is)) (number_within t p.cell p.index e s))
      (λ other. trail_within arcs q rest n other)
      (either (eqb n (number t p.cell p.index)) (list_any (eqb n) (trail arcs q rest)) h)

  -- from one place the origins lead back over one list of arcs
  same_length : (a b : List ℕ) (p : Place) → LeadsBack t p a → LeadsBack t p b → length a ≡ length b
  same_length [] [] p back back' = refl
  same_length [] (j ∷ b) p (e, s, root) (d, s', q, from, rest) =
      absurd (let same = ap (λ (z : Entry L). z.origin) (same_entry t p e d s s') in let h : None ≡ Some (origin q j) = sym root ∙ same ∙ from in cc)
  same_length (k ∷ a) [] p (e, s, q, from, rest) (d, s', root) =
      absurd (let same = ap (λ (z : Entry L). z.origin) (same_entry t p e d s s') in let h : Some (origin q k) ≡ None = sym from ∙ same ∙ root in cc)
  same_length (k ∷ a) (j ∷ b) p (e, s, q, from, rest) (d, s', q', from', rest') =
      let same = ap (λ (z : Entry L). z.origin) (same_entry t p e d s s') in
      let h : Some (origin q k) ≡ Some (origin q' j) = sym from ∙ same ∙ from' in
      let o : origin q k ≡ origin q' j = cc in
      ap suc (same_length a b q rest (subst (λ (z : Place). LeadsBack t z b) (sym (ap (λ (z : Origin). z.parent) o)) rest'))

  -- a place with a longer way back is not on the trail
  apart_from_trail : (arcs : List ℕ) (p : Place) (back : LeadsBack t p arcs) (long : List ℕ) (z : Place) → LeadsBack t z long → length arcs < length long
      → AllByRecursion (λ m. eqb (number t z.cell z.index) m ≡ false) (trail arcs p back)
  apart_from_trail [] p back long z far less = (
    not_true (eqb (number t z.cell z.index) (number t p.cell p.index))
        (λ h.
        let a = first_stands long z far in
        let b = first_stands [] p back in
        let m = number_tells t z.cell z.index p.cell p.index a.0 b.0 a.1 b.1 (eqb-true _ _ h) in
        let n = same_length long [] z far (subst (λ (y : Place). LeadsBack t y []) (sym (same_place z p m.0 m.1)) back) in
        omega arith),
    tt,
  )
  apart_from_trail (k ∷ arcs) p (e, s, q, from, rest) long z far less = (
    not_true (eqb (number t z.cell z.index) (number t p.cell p.index))
        (λ h.
        let a = first_stands long z far in
        let m = number_tells t z.cell z.index p.cell p.index a.0 e a.1 s (eqb-true _ _ h) in
        let n = same_length long (k ∷ arcs) z far (subst (λ (y : Place). LeadsBack t y (k ∷ arcs)) (sym (same_place z p m.0 m.1)) (e, s, q, from, rest)) in
        omega arith),
    apart_from_trail arcs q rest long z far (omega arith),
  )

  trail_distinct : (arcs : List ℕ) (p : Place) (back : LeadsBack t p arcs) → IsDistinct eqb (trail arcs p back)
  unfolding IsDistinct
  trail_distinct [] p back = (tt, tt)
  trail_distinct (k ∷ arcs) p (e, s, q, from, rest) =
      (apart_from_trail arcs q rest (k ∷ arcs) p (e, s, q, from, rest) (omega arith), trail_distinct arcs q rest)

  -- the way back is shorter than the number of entries
  pub way_back_is_short : (arcs : List ℕ) (p : Place) → LeadsBack t p arcs → length arcs < entry_count t
  way_back_is_short arcs p back =
      let h = length-le_from_distinct_below (trail arcs p back) (entry_count t) (trail_distinct arcs p back) (trail_within arcs p back) in
      let n = length_trail arcs p back in
      omega arith
