-- What the code of the events cites.
use Rattle.std.proofs.lemmas.Option.{slice_get_read, get_or_from_slice_get}
use Rattle.std.specs.Prelude.{slice_get}
use Rattle.std.proofs.Common.{◌≡◌, ◌↔◌, ℕ, zero, suc, [], ◌∷◌, length, get_or, ◌<◌, Bool, IsTrue, Option, Some, None, List, refl, sym, ap, ◌∙◌, subst, arith}
use Rattle.label_space.specs.Rules.{Rules, Dominates}
use Rattle.label_core.specs.declared.table.Place.{Place}
use Rattle.label_core.specs.declared.table.Fate.TheVariants.{At}
use Rattle.label_core.specs.declared.table.Entry.{Entry}
use Rattle.label_core.specs.Tables.{Cells, StandsAt}
use Rattle.label_core.proofs.Lookup.{some_same, same_entry}
use Rattle.label_core.specs.declared.machine.PassState.{PassState}
use Rattle.label_core.specs.declared.machine.Core.{Core}
use Rattle.label_core.specs.Steps.{Knows, MayNote}
use Rattle.label_core.specs.Plays.{Decides}

-- an item of a list of lists, as code reads it
pub read_entry : {A : Type 0} (t : List (List A)) (c i : ℕ) (l : List A) (a : A) → i < length (get_or t c []) → l ≡ get_or t c l → a ≡ get_or l i a → slice_get (get_or t c []) i ≡ Some a
read_entry [] c i l a h is at = absurd (omega arith)
read_entry (x ∷ xs) zero i l a h is at = slice_get_read x (length x) i a refl h (at ∙ ap (λ z. get_or z i a) is)
read_entry (x ∷ xs) (suc c) i l a h is at = read_entry xs c i l a h is at

module _ {L : Type 0} (r : Rules L) where
  -- the entry that stands at a place is the one that a fact on this place speaks of
  pub stands_once : (t : Cells L) (q : Place) (e : Entry L) (l : L) (b : Bool) → StandsAt t q e → b ≡ r.dominates e.label l
      → (IsTrue b → (d : Entry L) × StandsAt t q d × Dominates r d.label l) × (((d : Entry L) × StandsAt t q d × Dominates r d.label l) → IsTrue b)
  stands_once t q e l b s is = (λ yes. (e, s, sym is ∙ yes), λ h. is ∙ ap (λ (v : Entry L). r.dominates v.label l) (same_entry t q e h.0 s h.1) ∙ h.2)

  -- a fate that names an entry
  pub at_legal : (t : Cells L) (s : PassState) (l m : L) (n : ℕ) (q : Place) (b : Bool) → n < r.degree l → r.extend l n ≡ Some m → Knows s q
      → (IsTrue b ↔ ((d : Entry L) × StandsAt t q d × Dominates r d.label m)) → IsTrue b ↔ MayNote r t s l n (At q)
  at_legal t s l m n q b within is known dom = (
    λ yes. let h = dom.0 yes in (within, (m, (within, is), h.0, h.1, h.2), known),
    λ may. let h = may.1 in dom.1 (h.2, h.3, subst (λ z. Dominates r h.2.label z) (some_same h.0 m (sym h.1.1 ∙ is)) h.4),
  )

-- an item, as code reads it
pub read_item : {A : Type 0} (l : List A) (i : ℕ) (a z : A) → slice_get l i ≡ Some a → z ≡ get_or l i z → z ≡ a
read_item l i a z at is = is ∙ get_or_from_slice_get l i a z at

-- a list of a list of lists, as code reads it
pub read_list : {A : Type 0} (t : List (List A)) (c : ℕ) (l : List A) → c < length t → l ≡ get_or t c l → get_or t c [] ≡ l
read_list [] c l h is = absurd (omega arith)
read_list (x ∷ xs) zero l h is = sym is
read_list (x ∷ xs) (suc c) l h is = read_list xs c l (omega arith) is

-- what a decision says
pub decides_none : {L : Type 0} (Makes : Core L → Type 0) (o : Option (Core L)) → Decides Makes o → o ≡ None → (y : Core L) → Makes y → ⊥
decides_none Makes None refused is = refused
decides_none Makes (Some y) made is = absurd (cc)

pub decides_some : {L : Type 0} (Makes : Core L → Type 0) (o : Option (Core L)) (y : Core L) → Decides Makes o → o ≡ Some y → Makes y
decides_some Makes None y refused is = absurd (cc)
decides_some Makes (Some z) y made is = subst Makes (some_same z y is) made
