-- One entry edited, its label and origin kept: what holds of tables and claims holds still.
use Rattle.std.proofs.Common.{◌≡◌, ◌≢◌, ℕ, ◌<◌, ◌≤◌, Option, List, [], length, set, refl, sym, ap, ◌∙◌, subst, ⊎_elim, arith}
use Rattle.std.proofs.lemmas.List.{length-set}
use Rattle.std.proofs.lemmas.List.Sums.{sum_by-set}
use native.Mathlib.Decide.{ℕ_discrete}
use mathlib.Core.Logic.{dite}
use Rattle.label_space.specs.Rules.{Rules}
use Rattle.label_core.specs.declared.table.Place.{Place}
use Rattle.label_core.specs.declared.table.Fate.{Fate}
use Rattle.label_core.specs.declared.table.Turn.TheVariants.{Fresh, Done}
use Rattle.label_core.specs.declared.table.Entry.{Entry}
use Rattle.label_core.specs.Tables.{Cells, entries_of, StandsAt, entry_count}
use Rattle.label_core.specs.Points.{IsSound}
use Rattle.label_core.specs.Puts.{set_at}
use Rattle.label_core.specs.Fates.{AreLegal}
use Rattle.label_core.proofs.Lookup.{same_or_apart, same_entry, set_here, set_else, set_back, cell_there, entries_set_here, entries_set_else}
use Rattle.label_core.specs.Points.{Stays}
use Rattle.label_core.proofs.Stays.{all_legal_still}
use Rattle.label_core.specs.declared.machine.ClaimState.{ClaimState}
use Rattle.label_core.specs.Rule.{due_turn, due_at, due, IsWorked, IsClaim}

module _ {L : Type 0} (r : Rules L) (t : Cells L) (w : Place) (e e' : Entry L) (stands : StandsAt t w e) (label_is : e'.label ≡ e.label) (origin_is : e'.origin ≡ e.origin) where
  abbrev u : Cells L
  u = set_at t w e'

  pub edit_stays : Stays t u
  edit_stays q z s = ⊎_elim
      (λ same.
      let is : z ≡ e = same_entry t w z e (subst (λ v. StandsAt t v z) same s) stands in
      (e', subst (λ v. StandsAt u v e') (sym same) (set_here t w e' e stands), label_is ∙ ap (λ (v : Entry L). v.label) (sym is), origin_is ∙ ap (λ (v : Entry L). v.origin) (sym is)))
      (λ n. (z, set_else t w e' e stands q n ∙ s, refl, refl))
      (same_or_apart q w)

  pub edit_was : Stays u t
  edit_was q y s = ⊎_elim
      (λ (a : (q ≡ w) × (y ≡ e')). (e, subst (λ v. StandsAt t v e) (sym a.0) stands, sym label_is ∙ ap (λ (v : Entry L). v.label) (sym a.1), sym origin_is ∙ ap (λ (v : Entry L). v.origin) (sym a.1)))
      (λ (a : (q ≢ w) × StandsAt t q y). (y, a.1, refl, refl))
      (set_back t w e' e stands q y s)

  room : w.cell < length t
  room = cell_there t w.cell w.index e stands

  pub edit_length : length u ≡ length t
  edit_length = length-set t w.cell (set (entries_of t w.cell) w.index e')

  pub edit_size : (d : ℕ) → length (entries_of u d) ≡ length (entries_of t d)
  edit_size d = dite (ℕ_discrete d w.cell)
      (λ is.
      ap (λ k. length (entries_of u k)) is ∙ ap (λ (es : List (Entry L)). length es) (entries_set_here t w.cell (set (entries_of t w.cell) w.index e') room)
      ∙ length-set (entries_of t w.cell) w.index e' ∙ ap (λ k. length (entries_of t k)) (sym is))
      (λ n. ap (λ (es : List (Entry L)). length es) (entries_set_else t w.cell d (set (entries_of t w.cell) w.index e') n))

  pub edit_count : entry_count u ≡ entry_count t
  edit_count =
      let h = sum_by-set length t w.cell (set (entries_of t w.cell) w.index e') [] room in
      let n = length-set (entries_of t w.cell) w.index e' in
      omega arith

  -- how many claims are due at the edited entry, and elsewhere
  pub due_here : (due_at t w ≡ due_turn e.turn) × (due_at u w ≡ due_turn e'.turn)
  due_here = (ap (λ (o : Option (Entry L)). due o) stands, ap (λ (o : Option (Entry L)). due o) (set_here t w e' e stands))

  pub due_else : (q : Place) → q ≢ w → due_at u q ≡ due_at t q
  due_else q n = ap (λ (o : Option (Entry L)). due o) (set_else t w e' e stands q n)

  -- an edit that makes no entry Fresh, and Done only with all fates
  pub edit_works : IsWorked r t → IsSound r u
      → ((fates : List Fate) → e'.turn ≡ Done fates → (length fates ≡ r.degree e.label) × AreLegal r t e.label fates)
      → (e'.turn ≡ Fresh → e.turn ≡ Fresh)
      → IsWorked r u
  edit_works worked sound done fresh = record {
    sound = sound;
    fated = λ q y fates s is. ⊎_elim
        (λ (a : (q ≡ w) × (y ≡ e')).
        let all = done fates (ap (λ (v : Entry L). v.turn) (sym a.1) ∙ is) in
        subst (λ l. (length fates ≡ r.degree l) × AreLegal r u l fates) (sym label_is ∙ ap (λ (v : Entry L). v.label) (sym a.1))
        (all.0, all_legal_still r t u edit_stays e.label fates all.1))
        (λ (a : (q ≢ w) × StandsAt t q y).
        let all = worked.fated q y fates a.1 is in (all.0, all_legal_still r t u edit_stays y.label fates all.1))
        (set_back t w e' e stands q y s);
    parents = λ q y o d s from sd is.
        let b = edit_was q y s in
        ⊎_elim
        (λ (a : (o.parent ≡ w) × (d ≡ e')).
        worked.parents q b.0 o e b.1 (b.3 ∙ from) (subst (λ v. StandsAt t v e) (sym a.0) stands) (fresh (ap (λ (v : Entry L). v.turn) (sym a.1) ∙ is)))
        (λ (a : (o.parent ≢ w) × StandsAt t o.parent d). worked.parents q b.0 o d b.1 (b.3 ∙ from) a.1 is)
        (set_back t w e' e stands o.parent d sd);
  }

  -- a claim of another entry, or of this one where its turn is as it was
  pub claim_still : (k : ClaimState) → IsClaim r t k → (k.place ≡ w → e'.turn ≡ e.turn) → IsClaim r u k
  claim_still k was same_turn = record {
    entry = after.0;
    number = was.number;
    stands = after.1;
    turn_is = after.3 ∙ was.turn_is;
    legal = subst (λ l. AreLegal r u l k.fates) (sym after.2) (all_legal_still r t u edit_stays was.entry.label k.fates was.legal);
    within = subst (λ l. length k.fates ≤ r.degree l) (sym after.2) was.within;
    noted = λ q y o s from is. let b = edit_was q y s in was.noted q b.0 o b.1 (b.3 ∙ from) is;
  }
    where
      after : (y : Entry L) × StandsAt u k.place y × (y.label ≡ was.entry.label) × (y.turn ≡ was.entry.turn)
      after = ⊎_elim
          (λ same.
          let is : was.entry ≡ e = same_entry t w was.entry e (subst (λ v. StandsAt t v was.entry) same was.stands) stands in
          (e', subst (λ v. StandsAt u v e') (sym same) (set_here t w e' e stands), label_is ∙ ap (λ (v : Entry L). v.label) (sym is), same_turn same ∙ ap (λ (v : Entry L). v.turn) (sym is)))
          (λ n. (was.entry, set_else t w e' e stands k.place n ∙ was.stands, refl, refl))
          (same_or_apart k.place w)
