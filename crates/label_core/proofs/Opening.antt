-- The table with the root alone is sound.
use Rattle.std.proofs.Common.{◌≡◌, ℕ, zero, suc, ◌<◌, Some, None, List, [], ◌∷◌, length, replicate, get_or, refl, sym, ap, ◌∙◌, subst, arith}
use Rattle.std.proofs.lemmas.List.{length-set, length-replicate}
use Rattle.std.proofs.lemmas.Grind.{common_steps}
use Rattle.std.specs.Prelude.{slice_get}
use native.Mathlib.Decide.{ℕ_discrete}
use mathlib.Core.Logic.{dite}
use Rattle.label_space.specs.Rules.{Rules, Fits}
use Rattle.label_space.specs.Laws.{IsLawful}
use Rattle.label_core.specs.declared.table.Place.{Place}
use Rattle.label_core.specs.declared.table.Entry.{Entry}
use Rattle.label_core.specs.Tables.{place, entries_of, StandsAt}
use Rattle.label_core.specs.Points.{IsSound}
use Rattle.label_core.specs.Puts.{opening, fresh}
use Rattle.label_core.proofs.Lookup.{same_place, entries_set_here, entries_set_else}

empty_each : {A : Type 0} (n c : ℕ) → get_or (replicate n (let e : List A = [] in e)) c [] ≡ []
empty_each {A} n c = grind (arith, common_steps)

one_item : {A : Type 0} (a b : A) (i : ℕ) → slice_get (a ∷ []) i ≡ Some b → (i ≡ 0) × (b ≡ a)
one_item a b zero e = (refl, cc)
one_item a b (suc i) e = absurd (cc)

module _ {L : Type 0} (r : Rules L) (law : IsLawful r) where
  abbrev c : ℕ
  c = r.cell r.root

  room : c < length (replicate r.cells (let e : List (Entry L) = [] in e))
  room = let h = law.cell_within r.root law.root_fits in let n = length-replicate r.cells (let e : List (Entry L) = [] in e) in omega arith

  -- the root alone stands
  pub only_root : (p : Place) (e : Entry L) → StandsAt (opening r) p e → (p ≡ place c 0) × (e ≡ fresh r.root None)
  only_root p e s = dite (ℕ_discrete p.cell c)
      (λ is.
      let inside = ap (λ k. entries_of (opening r) k) is ∙ entries_set_here (replicate r.cells []) c (fresh r.root None ∷ []) room in
      let one = one_item (fresh r.root None) e p.index (subst (λ es. slice_get es p.index ≡ Some e) inside s) in
      (same_place p (place c 0) is one.0, one.1))
      (λ n.
      let inside = entries_set_else (replicate r.cells []) c p.cell (fresh r.root None ∷ []) n ∙ empty_each {A = Entry L} r.cells p.cell in
      absurd (let h : None ≡ Some e = subst (λ es. slice_get es p.index ≡ Some e) inside s in cc))

  pub root_stands : StandsAt (opening r) (place c 0) (fresh r.root None)
  root_stands = subst (λ es. slice_get es 0 ≡ Some (fresh r.root None)) (sym (entries_set_here (replicate r.cells []) c (fresh r.root None ∷ []) room)) refl

  pub opening_is_sound : IsSound r (opening r)
  opening_is_sound = record {
    cell_each = length-set (replicate r.cells []) c (fresh r.root None ∷ []) ∙ length-replicate r.cells [];
    at_home = λ p e s. let is = only_root p e s in
        subst (λ (z : Entry L). Fits r z.label × (r.cell z.label ≡ p.cell)) (sym is.1) (law.root_fits, sym (ap (λ (z : Place). z.cell) is.0));
    origins = record {
      lead_back = λ p e s. ([], (e, s, ap (λ (z : Entry L). z.origin) (only_root p e s).1));
      differ = λ p q e d s s' _. (only_root p e s).0 ∙ sym (only_root q d s').0;
    };
    labels = record {
      root = (place c 0, fresh r.root None, root_stands, refl, refl);
      extended = λ p e o s from. absurd (let is = ap (λ (z : Entry L). z.origin) (only_root p e s).1 in let h : None ≡ Some o = sym is ∙ from in cc);
    };
    links = record {
      linked = λ p q e s g. absurd (let is = ap (λ (z : Entry L). z.gone) (only_root p e s).1 in let h : None ≡ Some q = sym is ∙ g in cc);
      kept_at_last = λ p e s. ([], (e, s, ap (λ (z : Entry L). z.gone) (only_root p e s).1));
    };
    apart = λ p q e d s s' _ n _ _. absurd (n ((only_root p e s).0 ∙ sym (only_root q d s').0));
  }
