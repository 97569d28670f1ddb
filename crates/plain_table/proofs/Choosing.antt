-- What one extension does to a table that is being filled, in the terms of the code.
use Rattle.std.proofs.Common.{◌≡◌, ℕ, ◌<◌, ◌≤◌, Some, List, [], ◌∷◌, ◌++◌, length, get_or, take, drop, sym, ap, ◌∙◌, subst, arith}
use Rattle.std.proofs.lemmas.Option.{get_or_from_slice_get, slice_get-get_or, slice_get_within}
use Rattle.std.proofs.lemmas.Grind.{common_steps}
use Rattle.std.specs.Prelude.{slice_get}
use Rattle.label_space.specs.Rules.{Rules, Fits, Extends}
use Rattle.label_space.specs.Laws.{IsLawful}
use Rattle.label_core.specs.declared.table.Place.{Place}
use Rattle.label_core.specs.declared.table.Origin.{Origin}
use Rattle.label_core.specs.declared.table.Fate.{Fate}
use Rattle.label_core.specs.declared.table.Fate.TheVariants.{At}
use Rattle.label_core.specs.declared.table.Entry.{Entry}
use Rattle.label_core.specs.Tables.{Cells, StandsAt, place, entries_of}
use Rattle.label_core.proofs.Lookup.{cell_there}
use Rattle.label_core.specs.Walks.{origin}
use Rattle.label_core.specs.Puts.{fresh, put, CoversAt, CoversNot, EachFits}
use Rattle.plain_table.specs.Fillings.{Extending, AtWall}
use Rattle.plain_table.proofs.Stepping.{each_fits, few_in_cell, notes, covered_is_legal, longer_fits, longer_room, meets_wall, comes}

-- an item that stands within is read with any default
pub read_is : {A : Type 0} (xs : List A) (i : ℕ) (x d : A) → i < length xs → x ≡ get_or xs i x → x ≡ get_or xs i d
read_is xs i x d h e = e ∙ sym (get_or_from_slice_get xs i (get_or xs i x) d (slice_get-get_or xs i x h))

-- what was written through a slice of the whole list is the list
pub written_whole : {A : Type 0} (new old : List A) (n : ℕ) → length new ≡ length old → n ≡ length old → take n (new ++ drop (length new) old) ≡ new
written_whole new old n same all = grind (arith, common_steps)

module _ {L : Type 0} (t : Cells L) (p : Place) (e : Entry L) (stands : StandsAt t p e) (es : List (Entry L)) (es_is : es ≡ get_or t p.cell es) where
  -- the cell of an entry that stands is read
  pub cell_read : es ≡ entries_of t p.cell
  cell_read = read_is t p.cell es [] (cell_there t p.cell p.index e stands) es_is

  pub stands_read : slice_get es p.index ≡ Some e
  stands_read = subst (λ z. slice_get z p.index ≡ Some e) (sym cell_read) stands

  pub index_within : p.index < length es
  index_within = slice_get_within es p.index e stands_read

  -- the entry that stands is read
  pub entry_read : (x : Entry L) → ((d : Entry L) → get_or es p.index d ≡ x) → e ≡ x
  entry_read x reads = sym (get_or_from_slice_get es p.index e x stands_read) ∙ reads x

module _ {L : Type 0} (r : Rules L) (law : IsLawful r) (limit : ℕ) (t : Cells L) (order : List Place) (next : ℕ) (p : Place) (l : L) (fates : List Fate)
    (now : Extending r limit t order next p l fates) (k : ℕ) (next_choice : length fates ≡ k) (within : k < r.degree l) (m : L) (made : Some m ≡ r.extend l k) where
  x : Extends r l (length fates) m
  x = subst (λ i. Extends r l i m) (sym next_choice) (within, sym made)

  pub fits_longer : Fits r m
  fits_longer = longer_fits r limit t order next p l fates now law m x

  module _ (c : ℕ) (cell_is : c ≡ r.cell m) where
    pub cell_room : c < length t
    cell_room = subst (λ n. n < length t) (sym cell_is) (longer_room r limit t order next p l fates now law m x)

    pub fits_each : EachFits r (entries_of t c)
    fits_each = each_fits r t c now.steady.sound

    pub few_here : length (entries_of t c) ≤ limit
    few_here = let h = few_in_cell r t c cell_room in let n = now.steady.counted in let u = now.steady.few in omega arith

    module _ (slot es : List (Entry L)) (slot_is : slot ≡ get_or t c slot) (es_is : es ≡ slot) where
      es_here : es ≡ entries_of t c
      es_here = es_is ∙ read_is t c slot [] cell_room slot_is

      pub fits_each_read : EachFits r es
      fits_each_read = subst (λ z. EachFits r z) (sym es_here) fits_each

      pub few_read : length es ≤ limit
      few_read = subst (λ z. length z ≤ limit) (sym es_here) few_here

      inside : es ≡ entries_of t (r.cell m)
      inside = es_here ∙ ap (λ n. entries_of t n) cell_is

      pub notes_covered : (i : ℕ) → CoversAt r es m i → (items : List Fate) → items ≡ fates ++ At (place c i) ∷ [] → Extending r limit t order next p l items
      notes_covered i covers items is =
          let legal = covered_is_legal r limit t order next p l fates now m i x (subst (λ z. CoversAt r z m i) inside covers) in
          subst (λ z. Extending r limit t order next p l z) (sym (is ∙ ap (λ n. fates ++ At (place n i) ∷ []) cell_is))
          (notes r limit t order next p l fates now (At (place (r.cell m) i)) legal)

      module _ (uncovered : CoversNot r es m) where
        uncovered_here : CoversNot r (entries_of t (r.cell m)) m
        uncovered_here = subst (λ z. CoversNot r z m) inside uncovered

        pub stops : limit ≤ length order → AtWall r limit t
        stops full = meets_wall r limit t order next p l fates now law m x uncovered_here full

        pub puts : length order < limit → (o : Origin) → o.parent ≡ p → o.arc ≡ k → (u : Cells L) → u ≡ put r t c (fresh m (Some o)) → (q : Place) → q ≡ place c (length (entries_of t c))
            → (longer : List Place) → longer ≡ order ++ q ∷ [] → (n : ℕ) → n ≡ next → (items : List Fate) → items ≡ fates ++ At q ∷ [] → Extending r limit u longer n p l items
        puts room o parent arc u u_is q q_is longer longer_is n n_is items items_is =
            let o_is : o ≡ origin p (length fates) = (λ i. record { parent = parent i; arc = (arc ∙ sym next_choice) i }) in
            let table_is = u_is ∙ ap (λ z. put r t c (fresh m (Some z))) o_is ∙ ap (λ z. put r t z (fresh m (Some (origin p (length fates))))) cell_is in
            let spot_is : q ≡ place (r.cell m) (length (entries_of t (r.cell m))) = q_is ∙ ap (λ z. place z (length (entries_of t z))) cell_is in
            let now_comes = comes r limit t order next p l fates now law m x uncovered_here room in
            subst (λ z. Extending r limit u longer n p l z) (sym (items_is ∙ ap (λ z. fates ++ At z ∷ []) spot_is))
            (subst (λ z. Extending r limit u longer z p l (fates ++ At (place (r.cell m) (length (entries_of t (r.cell m)))) ∷ [])) (sym n_is)
            (subst (λ z. Extending r limit u z next p l (fates ++ At (place (r.cell m) (length (entries_of t (r.cell m)))) ∷ [])) (sym (longer_is ∙ ap (λ z. order ++ z ∷ []) spot_is))
            (subst (λ z. Extending r limit z (order ++ place (r.cell m) (length (entries_of t (r.cell m))) ∷ []) next p l (fates ++ At (place (r.cell m) (length (entries_of t (r.cell m)))) ∷ [])) (sym table_is) now_comes)))
