-- How filling begins, and what its two ends promise.
use Rattle.std.proofs.Common.{◌≡◌, ℕ, zero, suc, ◌<◌, ◌≤◌, Some, None, List, [], ◌∷◌, length, replicate, get_or, sym, ap, ◌∙◌, subst, inr, ⊎_elim, arith}
use Rattle.std.proofs.lemmas.Grind.{common_steps}
use Rattle.std.proofs.lemmas.List.{length-replicate}
use Rattle.std.proofs.lemmas.List.Folds.{sum_by-replicate}
use Rattle.std.proofs.lemmas.List.Sums.{sum_by-set}
use Rattle.std.proofs.lemmas.Option.{slice_get_within}
use Rattle.std.specs.Prelude.{slice_get, slice_set, sum_by}
use Rattle.label_space.specs.Rules.{Rules}
use Rattle.label_space.specs.Laws.{IsLawful}
use Rattle.label_core.specs.declared.table.Place.{Place}
use Rattle.label_core.specs.declared.table.Entry.{Entry}
use Rattle.label_core.specs.declared.table.Table.{Table}
use Rattle.label_core.specs.declared.table.Turn.TheVariants.{Fresh}
use Rattle.label_core.specs.Tables.{Cells, place, StandsAt, IsKept}
use Rattle.label_core.specs.Puts.{opening, fresh}
use Rattle.label_core.specs.Fates.{IsFinished}
use Rattle.label_core.proofs.Lookup.{some_same}
use Rattle.label_core.proofs.Opening.{only_root, root_stands, opening_is_sound}
use Rattle.label_core.proofs.Walking.{sound_walks_differ}
use Rattle.label_core.proofs.Closing.{finished_is_closed, finished_represents}
use Rattle.plain_table.specs.declared.table.Filled.TheVariants.{Closed, Wall}
use Rattle.plain_table.specs.Outcomes.{IsWhole, IsOutcome}
use Rattle.plain_table.specs.Fillings.{Waits, IsChildless, Fills, AtWall}

first_of_one : {A : Type 0} (a b : A) (i : ℕ) → slice_get (a ∷ []) i ≡ Some b → a ≡ b
first_of_one a b zero e = some_same a b e
first_of_one a b (suc i) e = absurd (cc)

-- lists of which one alone is not empty, and has one item
one_in_all : {A : Type 0} (n c : ℕ) (a : A) → c < n → sum_by length (slice_set (replicate n []) c (a ∷ [])) ≡ 1
one_in_all {A} n c a h =
    let empty : List (List A) = replicate n [] in
    let long = length-replicate n (let e : List A = [] in e) in
    let set = sum_by-set length empty c (a ∷ []) [] (omega arith) in
    let none = sum_by-replicate length n (let e : List A = [] in e) in
    let here : get_or empty c [] ≡ [] = grind (arith, common_steps) in
    let size = ap length here in
    omega arith

module _ {L : Type 0} (r : Rules L) (law : IsLawful r) (limit : ℕ) where
  -- the table with the root alone may be filled
  pub opens : 1 ≤ limit → Fills r limit (opening r) (place (r.cell r.root) 0 ∷ []) 0
  opens room = record {
    steady = record {
      sound = opening_is_sound r law;
      fates = λ p e fates s done. absurd (let is = ap (λ (z : Entry L). z.turn) (only_root r law p e s).1 in cc);
      counted = one_in_all r.cells (r.cell r.root) (fresh r.root None) (law.cell_within r.root law.root_fits);
      few = room;
      placed = λ i p at. (fresh r.root None, subst (λ z. StandsAt (opening r) z (fresh r.root None)) (first_of_one (place (r.cell r.root) 0) p i at) (root_stands r law));
    };
    reached = omega arith;
    turns = λ p e s. inr (
      ap (λ (z : Entry L). z.turn) (only_root r law p e s).1,
      (λ q d o sd from _. let is = ap (λ (z : Entry L). z.origin) (only_root r law q d sd).1 in let h : None ≡ Some o = sym is ∙ from in (cc)),
      λ _. (0, omega arith, ap (λ z. Some z) (sym (only_root r law p e s).0)),
    );
  }

  module _ (t : Cells L) (order : List Place) (next : ℕ) (fills : Fills r limit t order next) (over : length order ≤ next) where
    all_done : IsFinished t
    all_done p e s kept = ⊎_elim
        (λ done. done)
        (λ (w : (e.turn ≡ Fresh) × IsChildless t p × (IsKept e → Waits order next p)).
        let waits = w.2 kept in absurd (let h = slice_get_within order waits.0 p waits.2 in let n = waits.1 in omega arith))
        (fills.turns p e s)

    -- nothing waits any more: the table is whole
    pub ends_whole : IsWhole r limit t
    ends_whole = record {
      within = let n = fills.steady.counted in let h = fills.steady.few in omega arith;
      finished = all_done;
      closed = finished_is_closed r law t fills.steady.sound fills.steady.fates all_done;
      represented = finished_represents r law t fills.steady.sound fills.steady.fates all_done;
    }

    pub closed_outcome : (table : Table L) → table.cells ≡ t → IsOutcome r limit (Closed table)
    closed_outcome table is = subst (λ (z : Table L). IsOutcome r limit (Closed z)) (λ i. record { cells = sym is i }) (record {
      sound = fills.steady.sound;
      walks = sound_walks_differ r t fills.steady.sound;
      fates = fills.steady.fates;
      closed = ends_whole;
      wall = tt;
    })

  pub wall_outcome : (t : Cells L) → AtWall r limit t → (table : Table L) → table.cells ≡ t → IsOutcome r limit (Wall table)
  wall_outcome t wall table is = subst (λ (z : Table L). IsOutcome r limit (Wall z)) (λ i. record { cells = sym is i }) (record {
    sound = wall.sound;
    walks = sound_walks_differ r t wall.sound;
    fates = wall.fates;
    closed = tt;
    wall = wall.full;
  })

  -- the table that is opened in the code
  pub opens_as : 1 ≤ limit → (root : L) → root ≡ r.root → (c : ℕ) → c ≡ r.cell root → (n : ℕ) → n ≡ r.cells
      → (empty : Cells L) → empty ≡ replicate n [] → (es : List (Entry L)) → es ≡ fresh root None ∷ []
      → (order : List Place) → order ≡ place c 0 ∷ [] → Fills r limit (slice_set empty c es) order 0
  opens_as room root root_is c c_is n n_is empty empty_is es es_is order order_is =
      let cell_is : c ≡ r.cell r.root = c_is ∙ ap r.cell root_is in
      let table_is : slice_set empty c es ≡ opening r
      = ap (λ t. slice_set t c es) (empty_is ∙ ap (λ k. replicate k []) n_is)
      ∙ ap (λ k. slice_set (replicate r.cells []) k es) cell_is
      ∙ ap (λ x. slice_set (replicate r.cells []) (r.cell r.root) x) (es_is ∙ ap (λ x. fresh x None ∷ []) root_is) in
      subst (λ t. Fills r limit t order 0) (sym table_is)
      (subst (λ o. Fills r limit (opening r) o 0) (sym (order_is ∙ ap (λ k. place k 0 ∷ []) cell_is)) (opens room))
