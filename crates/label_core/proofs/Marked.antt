-- What a mark that is legal has to be: the one of the pass, entry and claim that code finds.
use Rattle.std.proofs.Common.{set, ◌≡◌, ◌+◌, ℕ, zero, suc, [], ◌∷◌, length, Some, List, refl, sym, ap, ◌∙◌, subst}
use Rattle.std.specs.Prelude.{slice_get}
use Rattle.label_space.specs.Rules.{Rules}
use Rattle.label_core.specs.declared.table.Place.{Place}
use Rattle.label_core.specs.declared.table.Fate.{Fate}
use Rattle.label_core.specs.declared.table.Entry.{Entry}
use Rattle.label_core.specs.Tables.{Cells, StandsAt}
use Rattle.label_core.specs.Puts.{set_at}
use Rattle.label_core.proofs.Lookup.{some_same, same_entry}
use Rattle.label_core.specs.declared.machine.ClaimState.{ClaimState}
use Rattle.label_core.specs.declared.machine.PassState.{PassState}
use Rattle.label_core.specs.declared.machine.Core.{Core}
use Rattle.label_core.specs.Steps.{PassAt, MayNoteAll, Finishes, after_mark}
use Rattle.label_core.specs.Rule.{IsRuled}
use Rattle.label_core.proofs.Refusing.{same_claim}

-- an item that is put where it stands
pub set_same : {A : Type 0} (l : List A) (i : ℕ) (a : A) → slice_get l i ≡ Some a → set l i a ≡ l
set_same [] i a e = absurd (cc)
set_same (x ∷ xs) zero a e = ap (λ z. z ∷ xs) (sym (some_same x a e))
set_same (x ∷ xs) (suc i) a e = ap (λ l. x ∷ l) (set_same xs i a e)

module _ {L : Type 0} (x : Core L) (p : ℕ) (s : PassState) (q : Place) (e : Entry L) where
  -- the core after a mark, as code makes it
  pub marked_is : (t : Cells L) (ps : List PassState) → t ≡ set_at x.table.cells q e → ps ≡ set x.passes p s
      → record x { table = record { cells = t }; passes = ps } ≡ after_mark x p s q e
  marked_is t ps a b = λ j. record x { table = record { cells = a j }; passes = b j }

  -- the same where the pass is as it was
  pub erased_is : (t : Cells L) → t ≡ set_at x.table.cells q e → PassAt x p s → record x { table = record { cells = t } } ≡ after_mark x p s q e
  erased_is t a at = marked_is t x.passes a (sym (set_same x.passes p s at))

-- the claim, the entry and the fates of a mark that finishes an entry
pub finishes_is : {L : Type 0} (r : Rules L) (x : Core L) → IsRuled r x → (p i : ℕ) (s : PassState) (k : ClaimState) (e : Entry L) (q : Place) (fates : List Fate) (y : Core L)
    → PassAt x p s → slice_get s.claims i ≡ Some k → k.place ≡ q → StandsAt x.table.cells q e
    → Finishes r x p q fates y → MayNoteAll r x.table.cells s e.label (length k.fates) fates × (length k.fates + length fates ≡ r.degree e.label)
finishes_is {L} r x rule p i s k e q fates y at has of_it stands (s', holds, e', i', k', may, made) =
    let s_is : s' ≡ s = some_same s' s (sym holds.0 ∙ at) in
    let has' : slice_get s.claims i' ≡ Some k' = subst (λ (z : PassState). slice_get z.claims i' ≡ Some k') s_is may.claim_at in
    let k_is : k' ≡ k = same_claim r x rule p i i' s k k' at has has' (may.of_it ∙ sym of_it) in
    let e_is : e' ≡ e = same_entry x.table.cells q e' e may.stands stands in (
      subst (λ (z : Entry L). MayNoteAll r x.table.cells s z.label (length k.fates) fates) e_is
          (subst (λ (z : ClaimState). MayNoteAll r x.table.cells s e'.label (length z.fates) fates) k_is
          (subst (λ z. MayNoteAll r x.table.cells z e'.label (length k'.fates) fates) s_is may.legal)),
      subst (λ (z : Entry L). length k.fates + length fates ≡ r.degree z.label) e_is
          (subst (λ (z : ClaimState). length z.fates + length fates ≡ r.degree e'.label) k_is may.one_each),
    )
