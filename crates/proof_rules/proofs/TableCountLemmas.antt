-- A wall at a table shows more different lists of choices than its limit.
use Rattle.std.proofs.Common.{◌≡◌, ◌≢◌, ℕ, zero, suc, ◌+◌, ◌<◌, ◌≤◌, None, Some, List, [], ◌∷◌, ◌++◌, length, get_or, map, reverse, All, refl, sym, ◌∙◌, ap, subst, arith, length-append}
use Rattle.std.specs.Prelude.{slice_get, slice_index}
use Rattle.std.specs.List.{AllPairs, AllZip, range_with_len}
use Rattle.std.proofs.lemmas.List.{length-map, get_or-map, reverse-append}
use Rattle.std.proofs.lemmas.List.Elements.{All-nil, All-cons, All-append, All-contains}
use Rattle.std.proofs.lemmas.List.FromFn.{length-range_with_len, get_or-range_with_len}
use Rattle.std.proofs.lemmas.List.Kept.{AllPairs-cons}
use Rattle.std.proofs.lemmas.List.Sums.{sum_by-cons}
use Rattle.label_space.specs.Rules.{Extends, Rules}
use Rattle.label_core.specs.declared.table.Place.{Place}
use Rattle.label_core.specs.declared.table.Entry.{Entry}
use Rattle.label_core.specs.Tables.{Cells, StandsAt, entries_of, place, entry_count}
use Rattle.label_core.specs.Walks.{IsWalkOf, LeadsBack, Reaches, origin}
use Rattle.label_rules.specs.Labels.{Direction, Setting, extended, root}
use Rattle.label_rules.specs.Spaces.{onward, rules}
use Rattle.label_rules.specs.declared.label.Label.{Label}
use Rattle.proof_rules.specs.TableWalls.{AreDifferentChoices, IsTableOver, TableWallLaw}
use Rattle.label_rules.proofs.TestLemmas.{is_extension}
use Rattle.proof_rules.proofs.ListWallLemmas.{pairs_append}
use Rattle.proof_rules.proofs.TableWallLemmas.{needs_none}
use Rattle.proof_rules.proofs.WalkListLemmas.{zip_at, zip_made, zip_size}

-- the places of a table, cell by cell
abbrev in_cell : {L : Type 0} → ℕ → List (Entry L) → List Place
in_cell c entries = map (place c) (range_with_len 0 (length entries))

abbrev places_from : {L : Type 0} → ℕ → Cells L → List Place
places_from c [] = []
places_from c (entries ∷ rest) = in_cell c entries ++ places_from (suc c) rest

in_cell_size : {L : Type 0} (c : ℕ) (entries : List (Entry L)) → length (in_cell c entries) ≡ length entries
in_cell_size c entries = length-map (range_with_len 0 (length entries)) (place c) ∙ length-range_with_len 0 (length entries)

places_size : {L : Type 0} (c : ℕ) (t : Cells L) → length (places_from c t) ≡ entry_count t
places_size c [] = refl
places_size {L} c (entries ∷ rest) =
    let both = length-append (in_cell c entries) (places_from (suc c) rest) in
    let next = sum_by-cons (length {A = Entry L}) entries rest in
    omega (arith, both, in_cell_size c entries, next, places_size (suc c) rest)

-- an entry stands at each
abbrev Stands : {L : Type 0} → Cells L → ℕ → Place → Type 0
Stands {L} t c p = (k : ℕ) × (e : Entry L) × (p.cell ≡ c + k) × (slice_get (entries_of t k) p.index ≡ Some e)

cell_at : {L : Type 0} (c : ℕ) (entries : List (Entry L)) (i : ℕ) (d : Place) → i < length (in_cell c entries) → (i < length entries) × (get_or (in_cell c entries) i d ≡ place c i)
cell_at c entries i d l =
    let within : i < length entries = omega (arith, l, in_cell_size c entries) in
    let size = length-range_with_len 0 (length entries) in
    let node : get_or (range_with_len 0 (length entries)) i 0 ≡ i = omega (arith, get_or-range_with_len 0 (length entries) i 0 within) in
    (within, get_or-map (place c) (range_with_len 0 (length entries)) i 0 d (omega (arith, within, size)) ∙ ap (place c) node)

got : {X : Type 0} (xs : List X) (i : ℕ) → i < length xs → (x : X) × (slice_get xs i ≡ Some x)
got [] i l = absurd (omega (arith, l))
got (x ∷ xs) zero l = (x, refl)
got (x ∷ xs) (suc i) l = got xs i (omega (arith, l))

stand_all : {L : Type 0} (c : ℕ) (t : Cells L) → All (Stands t c) (places_from c t)
stand_all c [] = All-nil (Stands [] c)
stand_all {L} c (entries ∷ rest) =
    All-append (Stands (entries ∷ rest) c) (in_cell c entries) (places_from (suc c) rest)
    (λ i d l.
    let at = cell_at c entries i d l in
    let e = got entries i at.0 in
    subst (Stands (entries ∷ rest) c) (sym at.1) (0, e.0, omega arith, e.1))
    (λ i d l. let at = stand_all (suc c) rest i d l in (suc at.0, at.1, omega (arith, at.2), at.3))

-- no place stands twice
from_cell : {L : Type 0} (c : ℕ) (t : Cells L) → All (λ (p : Place). c ≤ p.cell) (places_from c t)
from_cell c t = λ i d l. let at = stand_all c t i d l in omega (arith, at.2)

places_differ : {L : Type 0} (c : ℕ) (t : Cells L) → AllPairs (λ x y. x ≢ y) (places_from c t)
places_differ c [] = λ i j d less l same. omega (arith, l)
places_differ c (entries ∷ rest) =
    pairs_append (λ x y. x ≢ y) (in_cell c entries) (places_from (suc c) rest)
    (λ i j d less l same.
    let first = cell_at c entries i d (omega (arith, less, l)) in
    let second = cell_at c entries j d l in
    let index : i ≡ j = ap (λ (p : Place). p.index) (sym first.1 ∙ (same ∙ second.1)) in
    omega (arith, index, less))
    (places_differ (suc c) rest)
    (λ i d l j e m same.
    let here = cell_at c entries i d l in
    let cell : (get_or (in_cell c entries) i d).cell ≡ c = ap (λ (p : Place). p.cell) here.1 in
    let later = from_cell (suc c) rest j e m in
    omega (arith, cell, later, ap (λ (p : Place). p.cell) same))

-- one choice more
reaches_more : (r : Rules Label) (l : Label) (choices : List ℕ) (m : Label) (k : ℕ) (n : Label) → Reaches r l choices m → Extends r m k n → Reaches r l (choices ++ k ∷ []) n
reaches_more r l [] m k n h x = (n, subst (λ (a : Label). Extends r a k n) (sym h) x, refl)
reaches_more r l (c ∷ choices) m k n h x = (h.0, h.1, reaches_more r h.0 choices m k n h.2 x)

module _ (limit : ℕ) (direction : Direction) (S : Setting) (t : Cells Label) (wall : IsTableOver limit direction S t) where
  abbrev r : Rules Label
  r = rules direction S None wall.cells wall.cell_of

  -- the choices of the entry at a place
  abbrev Leads : Place → List ℕ → Type 0
  Leads p choices = IsWalkOf t p choices × ((l : Label) × Reaches r r.root choices l)

  all_walks : (lists : List (List ℕ)) × AllZip Leads (places_from 0 t) lists
  all_walks =
      zip_made Leads (places_from 0 t) (λ p h.
      let at = All-contains (Stands t 0) (places_from 0 t) p (stand_all 0 t) h in
      let cell : p.cell ≡ at.0 = omega (arith, at.2) in
      let stands : StandsAt t p at.1 = subst (λ (c : ℕ). slice_get (entries_of t c) p.index ≡ Some at.1) (sym cell) at.3 in
      let walk = wall.walks.walk p at.1 stands in
      (walk.0, (walk.1, (at.1.label, walk.2))))

  lists : List (List ℕ)
  lists = all_walks.0

  are : AllZip Leads (places_from 0 t) lists
  unfolding lists
  are = all_walks.1

  each : All (λ choices. (l : Label) × Reaches r r.root choices l) lists
  each = λ i d l. (zip_at Leads (places_from 0 t) lists i (place 0 0) d are l).1.1

  differ : AllPairs (λ x y. x ≢ y) lists
  differ = λ i j d less l same.
      let first = zip_at Leads (places_from 0 t) lists i (place 0 0) d are (omega (arith, less, l)) in
      let second = zip_at Leads (places_from 0 t) lists j (place 0 0) d are l in
      let place_same = wall.walks.differ (get_or (places_from 0 t) i (place 0 0)) (get_or (places_from 0 t) j (place 0 0)) (get_or lists j d) (subst (IsWalkOf t (get_or (places_from 0 t) i (place 0 0))) same first.1.0) second.1.0 in
      places_differ 0 t i j (place 0 0) less second.0 place_same

  size : length lists ≡ limit
  size = zip_size Leads (places_from 0 t) lists are ∙ (places_size 0 t ∙ wall.count)

  -- the one more
  walk : (choices : List ℕ) × IsWalkOf t wall.further.place choices × Reaches r (root direction S) choices wall.further.entry.label
  walk = wall.walks.walk wall.further.place wall.further.entry wall.further.stands

  more : List ℕ
  more = walk.0 ++ wall.further.choice ∷ []

  more_reaches : (l : Label) × Reaches r r.root more l
  unfolding more
  more_reaches =
      let f = wall.further in
      let arc : ℕ = slice_index (onward direction S f.entry.label.vertex) f.choice in
      let step = is_extension direction S None f.entry.label arc f.defined (needs_none direction S (extended direction S f.entry.label arc)) in
      (extended direction S f.entry.label arc, reaches_more r r.root walk.0 f.entry.label f.choice (extended direction S f.entry.label arc) walk.2 (f.within, step))

  -- it is the choices of no entry
  no_place : (p : Place) → IsWalkOf t p more → ⊥
  unfolding more
  no_place p h =
      let f = wall.further in
      let turned : reverse (walk.0 ++ f.choice ∷ []) ≡ f.choice ∷ reverse walk.0 = reverse-append walk.0 (f.choice ∷ []) in
      let back : LeadsBack t p (f.choice ∷ reverse walk.0) = subst (LeadsBack t p) turned h in
      let same : back.2 ≡ f.place = wall.walks.differ back.2 f.place walk.0 back.4 walk.1 in
      f.no_entry p back.0 back.1 (back.3 ∙ ap (λ (q : Place). Some (origin q f.choice)) same)

  more_other : All (λ choices. more ≢ choices) lists
  more_other = λ i d l same.
      let at = zip_at Leads (places_from 0 t) lists i (place 0 0) d are l in
      no_place (get_or (places_from 0 t) i (place 0 0)) (subst (IsWalkOf t (get_or (places_from 0 t) i (place 0 0))) (sym same) at.1.0)

  shown : (all : List (List ℕ)) × (length all ≡ suc limit) × AreDifferentChoices r all
  shown = (
    more ∷ lists,
    omega (arith, size),
    record { each = All-cons (λ choices. (l : Label) × Reaches r r.root choices l) more lists more_reaches each; differ = AllPairs-cons (λ x y. x ≢ y) more lists more_other differ },
  )

pub table_wall : TableWallLaw
table_wall limit direction S t wall = shown limit direction S t wall
