-- Entries by their place.
use Rattle.std.proofs.Common.{◌≡◌, ◌≢◌, ◌⊎◌, ℕ, zero, suc, ◌<◌, Some, List, [], ◌∷◌, ◌++◌, length, set, get_or, refl, sym, ap, ◌∙◌, subst, inl, inr, ⊎_elim, arith}
use Rattle.std.proofs.lemmas.List.{get_or-set_same, get_or-set_other}
use Rattle.std.proofs.lemmas.Option.{slice_get_within}
use Rattle.std.specs.Prelude.{slice_get}
use native.Mathlib.Decide.{ℕ_discrete}
use mathlib.Core.Logic.{dite}
use Rattle.label_core.specs.declared.table.Place.{Place}
use Rattle.label_core.specs.declared.table.Entry.{Entry}
use Rattle.label_core.specs.Tables.{Cells, entries_of, StandsAt}
use Rattle.label_core.specs.Puts.{set_at}

module _ {A : Type 0} where
  pub some_same : (a b : A) → Some a ≡ Some b → a ≡ b
  some_same a b h = (cc)

  -- the last of a longer list
  pub at_end : (l : List A) (a : A) → slice_get (l ++ a ∷ []) (length l) ≡ Some a
  at_end [] a = refl
  at_end (x ∷ xs) a = at_end xs a

  pub at_front : (l : List A) (a b : A) (i : ℕ) → slice_get l i ≡ Some b → slice_get (l ++ a ∷ []) i ≡ Some b
  at_front [] a b i e = absurd (cc)
  at_front (x ∷ xs) a b zero e = e
  at_front (x ∷ xs) a b (suc i) e = at_front xs a b i e

  pub front_or_end : (l : List A) (a b : A) (i : ℕ) → slice_get (l ++ a ∷ []) i ≡ Some b
      → (slice_get l i ≡ Some b) ⊎ ((i ≡ length l) × (a ≡ b))
  front_or_end [] a b zero e = inr (refl, cc)
  front_or_end [] a b (suc i) e = absurd (cc)
  front_or_end (x ∷ xs) a b zero e = inl e
  front_or_end (x ∷ xs) a b (suc i) e =
      ⊎_elim (λ t. inl t) (λ (t : (i ≡ length xs) × (a ≡ b)). inr (ap suc t.0, t.1)) (front_or_end xs a b i e)

  pub none_at_end : (l : List A) (b : A) → slice_get l (length l) ≡ Some b → ⊥
  none_at_end [] b e = (cc)
  none_at_end (x ∷ xs) b e = none_at_end xs b e

  pub within_is_there : (l : List A) (i : ℕ) → i < length l → (a : A) × (slice_get l i ≡ Some a)
  within_is_there [] i h = absurd (omega arith)
  within_is_there (x ∷ xs) zero h = (x, refl)
  within_is_there (x ∷ xs) (suc i) h = within_is_there xs i (omega arith)

  at_set_here : (l : List A) (i : ℕ) (a : A) → i < length l → slice_get (set l i a) i ≡ Some a
  at_set_here [] i a h = absurd (omega arith)
  at_set_here (x ∷ xs) zero a h = refl
  at_set_here (x ∷ xs) (suc i) a h = at_set_here xs i a (omega arith)

  at_set_else : (l : List A) (i j : ℕ) (a : A) → j ≢ i → slice_get (set l i a) j ≡ slice_get l j
  at_set_else [] i j a n = refl
  at_set_else (x ∷ xs) zero zero a n = absurd (n refl)
  at_set_else (x ∷ xs) zero (suc j) a n = refl
  at_set_else (x ∷ xs) (suc i) zero a n = refl
  at_set_else (x ∷ xs) (suc i) (suc j) a n = at_set_else xs i j a (λ e. n (ap suc e))

  -- what stands in a list after one item was replaced
  pub at_set : (l : List A) (i j : ℕ) (a b : A) → slice_get (set l i a) j ≡ Some b
      → ((j ≡ i) × (b ≡ a)) ⊎ ((j ≢ i) × (slice_get l j ≡ Some b))
  at_set [] i j a b e = absurd (cc)
  at_set (x ∷ xs) zero zero a b e = inl (refl, cc)
  at_set (x ∷ xs) zero (suc j) a b e = inr (λ h. cc, e)
  at_set (x ∷ xs) (suc i) zero a b e = inr (λ h. cc, e)
  at_set (x ∷ xs) (suc i) (suc j) a b e =
      ⊎_elim (λ (t : (j ≡ i) × (b ≡ a)). inl (ap suc t.0, t.1))
      (λ (t : (j ≢ i) × (slice_get xs j ≡ Some b)). inr (λ h. t.0 (cc), t.1))
      (at_set xs i j a b e)

  -- a list that is not empty stands within
  pub cell_there : (t : List (List A)) (c i : ℕ) (a : A) → slice_get (get_or t c []) i ≡ Some a → c < length t
  cell_there [] c i a e = absurd (cc)
  cell_there (x ∷ xs) zero i a e = omega arith
  cell_there (x ∷ xs) (suc c) i a e = let h = cell_there xs c i a e in omega arith

pub same_place : (p q : Place) → p.cell ≡ q.cell → p.index ≡ q.index → p ≡ q
same_place p q a b = λ i. record { cell = a i; index = b i }

pub same_or_apart : (p q : Place) → (p ≡ q) ⊎ (p ≢ q)
same_or_apart p q = dite (ℕ_discrete p.cell q.cell)
    (λ a. dite (ℕ_discrete p.index q.index) (λ b. inl (same_place p q a b)) (λ n. inr (λ e. n (ap (λ (z : Place). z.index) e))))
    (λ n. inr (λ e. n (ap (λ (z : Place). z.cell) e)))

module _ {L : Type 0} where
  pub same_entry : (t : Cells L) (p : Place) (x y : Entry L) → StandsAt t p x → StandsAt t p y → x ≡ y
  same_entry t p x y a b = some_same x y (sym a ∙ b)

  pub entries_set_here : (t : Cells L) (c : ℕ) (es : List (Entry L)) → c < length t → entries_of (set t c es) c ≡ es
  entries_set_here t c es h = get_or-set_same t c es [] h

  pub entries_set_else : (t : Cells L) (c d : ℕ) (es : List (Entry L)) → d ≢ c → entries_of (set t c es) d ≡ entries_of t d
  entries_set_else t c d es n = get_or-set_other t c d es [] n

  -- one entry was replaced: it stands there
  pub set_here : (t : Cells L) (p : Place) (e d : Entry L) → StandsAt t p d → StandsAt (set_at t p e) p e
  set_here t p e d s =
      subst (λ es. slice_get es p.index ≡ Some e)
      (sym (entries_set_here t p.cell (set (entries_of t p.cell) p.index e) (cell_there t p.cell p.index d s)))
      (at_set_here (entries_of t p.cell) p.index e (slice_get_within (entries_of t p.cell) p.index d s))

  -- one entry was replaced: the others stand as they did
  pub set_else : (t : Cells L) (p : Place) (e d : Entry L) → StandsAt t p d → (q : Place) → q ≢ p
      → slice_get (entries_of (set_at t p e) q.cell) q.index ≡ slice_get (entries_of t q.cell) q.index
  set_else t p e d s q n = dite (ℕ_discrete q.cell p.cell)
      (λ same. let in_cell : entries_of (set_at t p e) q.cell ≡ set (entries_of t p.cell) p.index e
      = ap (λ k. entries_of (set_at t p e) k) same
      ∙ entries_set_here t p.cell (set (entries_of t p.cell) p.index e) (cell_there t p.cell p.index d s) in
      ap (λ es. slice_get es q.index) in_cell
      ∙ at_set_else (entries_of t p.cell) p.index q.index e (λ i. n (same_place q p same i))
      ∙ ap (λ k. slice_get (entries_of t k) q.index) (sym same))
      (λ other. ap (λ es. slice_get es q.index) (entries_set_else t p.cell q.cell (set (entries_of t p.cell) p.index e) other))

  -- what stands at a place after one entry was replaced
  pub set_back : (t : Cells L) (p : Place) (e d : Entry L) → StandsAt t p d → (q : Place) (x : Entry L)
      → StandsAt (set_at t p e) q x → ((q ≡ p) × (x ≡ e)) ⊎ ((q ≢ p) × StandsAt t q x)
  set_back t p e d s q x h = ⊎_elim
      (λ same. inl (same, same_entry (set_at t p e) p x e (subst (λ z. StandsAt (set_at t p e) z x) same h) (set_here t p e d s)))
      (λ n. inr (n, sym (set_else t p e d s q n) ∙ h))
      (same_or_apart q p)
