-- The kept labels of a table as a list: it is closed where they are.
use Rattle.std.proofs.Common.{◌≡◌, ◌==◌, ℕ, zero, suc, ◌+◌, ◌<◌, ◌⊎◌, not, Bool, true, false, ℤ, Option, None, Some, List, [], ◌∷◌, ◌++◌, length, get_or, take, append_assoc, inl, inr, refl, sym, ◌∙◌, ap, subst, arith, zero-add}
use Rattle.std.specs.Prelude.{Contains, if◌then◌else◌, slice_get, slice_index, slice_index_or}
use Rattle.std.specs.List.{All, range_with_len}
use Rattle.std.specs.Option.{is_some}
use Rattle.std.proofs.lemmas.Bool.{false≢true, eq-eqb}
use Rattle.std.proofs.lemmas.List.{append-nil, get_or_default, take_more}
use Rattle.std.proofs.lemmas.List.FromFn.{length-range_with_len, get_or-range_with_len}
use Rattle.std.proofs.lemmas.List.Elements.{All-contains_itself, All-weaker, Contains-append_left, Contains-append_right, Contains-append_cases}
use Rattle.path_graph.specs.Walk.{arc_at}
use Rattle.path_graph.proofs.FreeLemmas.{filter_contains}
use Rattle.label_space.specs.Rules.{Rules, Extends}
use Rattle.label_core.specs.declared.table.Entry.{Entry}
use Rattle.label_core.specs.declared.table.Place.{Place}
use Rattle.label_core.specs.Points.{IsSound}
use Rattle.label_core.specs.Puts.{is_none}
use Rattle.label_core.specs.Tables.{Cells, HasKept, IsKept, place}
use Rattle.label_core.specs.Closed.{Covers as CoversIn}
use Rattle.plain_table.specs.declared.table.Filled.{Filled}
use Rattle.plain_table.specs.declared.table.Filled.TheVariants.{Closed as FilledClosed, Wall as FilledWall, Memory as FilledMemory}
use Rattle.plain_table.specs.Outcomes.{EachTable, IfClosed, IsWhole}
use Rattle.label_rules.specs.Dominance.{StatesFit}
use Rattle.label_rules.specs.declared.label.Label.{Label}
use Rattle.label_rules.specs.Labels.{Backward, CanExtend, Direction, Forward, Setting, SettingFits, extended, forward_label, left, root}
use Rattle.label_rules.specs.Spaces.{IsLabel, extension, is_label, onward, rules}
use Rattle.label_rules.specs.Tables.{Covers, IsClosed, LiesInWindows, NeedsDominator}
use Rattle.label_rules.proofs.TestLemmas.{dominates_decides, is_extension, label_decides}
use Rattle.label_rules.proofs.LabelLemmas.{forward_vertex}
use Rattle.label_rules.proofs.TableLemmas.{backward_law, forward_law}
use Rattle.route_labels.proofs.DominanceLemmas.{costs_least}
use Rattle.route_labels.specs.Tables.{ClosedTableLaw, HasRests, HasWalks, kept_in, kept_labels}

-- the first item of a list, and the others
contains_head : {X : Type 0} (x : X) (xs : List X) → Contains (x ∷ xs) x
contains_head x xs = (0, omega arith, refl)

contains_tail : {X : Type 0} (y : X) (ys : List X) (x : X) → Contains ys x → Contains (y ∷ ys) x
contains_tail y ys x h = (suc h.0, omega (arith, h.1), h.2)

contains_cases : {X : Type 0} (y : X) (ys : List X) (x : X) → Contains (y ∷ ys) x → (y ≡ x) ⊎ Contains ys x
contains_cases y ys x (zero, l, e) = inl e
contains_cases y ys x (suc k, l, e) = inr (k, omega (arith, l), e)

-- whether an entry is kept
none_is : (o : Option Place) → o ≡ None → is_none o ≡ true
none_is None e = refl
none_is (Some p) e = absurd (cc)

is_none_of : (o : Option Place) → is_none o ≡ true → o ≡ None
is_none_of None e = refl
is_none_of (Some p) e = absurd (false≢true e)

module _ {L : Type 0} where
  -- the label of a kept entry is in the list
  put_first : (b : Bool) (l : L) (rest : List L) → b ≡ true → Contains (if b then l ∷ rest else rest) l
  put_first true l rest e = contains_head l rest
  put_first false l rest e = absurd (false≢true e)

  put_later : (b : Bool) (l m : L) (rest : List L) → Contains rest m → Contains (if b then l ∷ rest else rest) m
  put_later true l m rest h = contains_tail l rest m h
  put_later false l m rest h = h

  kept_there : (entries : List (Entry L)) (i : ℕ) (e : Entry L) → slice_get entries i ≡ Some e → IsKept e → Contains (kept_in entries) e.label
  kept_there [] i e at kept = absurd (cc)
  kept_there (x ∷ rest) zero e at kept =
      let same : x ≡ e = cc in
      subst (λ (d : Entry L). Contains (if is_none x.gone then x.label ∷ kept_in rest else kept_in rest) d.label) same
      (put_first (is_none x.gone) x.label (kept_in rest) (none_is x.gone (ap (λ (d : Entry L). d.gone) same ∙ kept)))
  kept_there (x ∷ rest) (suc i) e at kept = put_later (is_none x.gone) x.label e.label (kept_in rest) (kept_there rest i e at kept)

  listed_there : (t : Cells L) (c i : ℕ) (e : Entry L) → slice_get (slice_index_or t c []) i ≡ Some e → IsKept e → Contains (kept_labels t) e.label
  listed_there [] c i e at kept = absurd (cc)
  listed_there (entries ∷ rest) zero i e at kept = Contains-append_left (kept_in entries) (kept_labels rest) e.label (kept_there entries i e at kept)
  listed_there (entries ∷ rest) (suc c) i e at kept = Contains-append_right (kept_in entries) (kept_labels rest) e.label (listed_there rest c i e at kept)

  pub listed : (t : Cells L) (l : L) → HasKept t l → Contains (kept_labels t) l
  listed t l has = subst (Contains (kept_labels t)) has.4 (listed_there t has.0.cell has.0.index has.1 has.2 has.3)

  -- a label of the list is that of a kept entry
  abbrev IsKeptAt : List (Entry L) → L → Type 0
  IsKeptAt entries l = (i : ℕ) × (e : Entry L) × (slice_get entries i ≡ Some e) × IsKept e × (e.label ≡ l)

  from_put : (b : Bool) (m l : L) (rest : List L) → Contains (if b then m ∷ rest else rest) l → ((b ≡ true) × (m ≡ l)) ⊎ Contains rest l
  from_put true m l rest h = elim (contains_cases m rest l h) [
    | inl e ↦ inl (refl, e)
    | inr k ↦ inr k
  ]
  from_put false m l rest h = inr h

  kept_from : (entries : List (Entry L)) (l : L) → Contains (kept_in entries) l → IsKeptAt entries l
  kept_from [] l h = absurd (omega (arith, h.1))
  kept_from (x ∷ rest) l h = elim (from_put (is_none x.gone) x.label l (kept_in rest) h) [
    | inl e ↦ (0, x, refl, is_none_of x.gone e.0, e.1)
    | inr k ↦ let at = kept_from rest l k in (suc at.0, at.1, at.2, at.3, at.4)
  ]

  pub kept_at : (t : Cells L) (l : L) → Contains (kept_labels t) l → HasKept t l
  kept_at [] l h = absurd (omega (arith, h.1))
  kept_at (entries ∷ rest) l h = elim (Contains-append_cases (kept_in entries) (kept_labels rest) l h) [
    | inl k ↦ let at = kept_from entries l k in (place 0 at.0, at.1, at.2, at.3, at.4)
    | inr k ↦ let at = kept_at rest l k in (place (suc at.0.cell) at.0.index, at.1, at.2, at.3, at.4)
  ]

-- the test of the code is that of the definition
none_told : (o : Option Place) (r : Bool) → is_some o ≡ not r → is_none o ≡ r
none_told None true e = refl
none_told None false e = absurd (false≢true e)
none_told (Some p) true e = absurd (false≢true (sym e))
none_told (Some p) false e = refl

-- entry by entry, and cell by cell
module _ {L : Type 0} where
  put_append : (b : Bool) (l : L) (xs ys both : List L) → both ≡ xs ++ ys → (if b then l ∷ both else both) ≡ (if b then l ∷ xs else xs) ++ ys
  put_append true l xs ys both e = ap (λ (ls : List L). l ∷ ls) e
  put_append false l xs ys both e = e

  kept_in-append : (xs ys : List (Entry L)) → kept_in (xs ++ ys) ≡ kept_in xs ++ kept_in ys
  kept_in-append [] ys = refl
  kept_in-append (x ∷ xs) ys = put_append (is_none x.gone) x.label (kept_in xs) (kept_in ys) (kept_in (xs ++ ys)) (kept_in-append xs ys)

  one_kept : (b : Bool) (l : L) → b ≡ true → (if b then l ∷ [] else []) ≡ l ∷ []
  one_kept true l e = refl
  one_kept false l e = absurd (false≢true e)

  one_gone : (b : Bool) (l : L) → b ≡ false → (if b then l ∷ [] else []) ≡ []
  one_gone true l e = absurd (false≢true (sym e))
  one_gone false l e = refl

  pub kept_one : (e : Entry L) (r : Bool) → is_some e.gone ≡ not r → r ≡ true → kept_in (e ∷ []) ≡ e.label ∷ []
  kept_one e r told is = one_kept (is_none e.gone) e.label (none_told e.gone r told ∙ is)

  pub kept_none : (e : Entry L) (r : Bool) → is_some e.gone ≡ not r → r ≡ false → kept_in (e ∷ []) ≡ []
  kept_none e r told is = one_gone (is_none e.gone) e.label (none_told e.gone r told ∙ is)

  pub kept_more : (entries : List (Entry L)) (i : ℕ) (e : Entry L) (before : List L) → i < length entries → e ≡ get_or entries i e
      → before ++ kept_in (take (i + 1) entries) ≡ (before ++ kept_in (take i entries)) ++ kept_in (e ∷ [])
  kept_more entries i e before within is =
      let one = take_more entries i e within in
      ap (λ (xs : List (Entry L)). before ++ kept_in xs) (one ∙ ap (λ (d : Entry L). take i entries ++ d ∷ []) (sym is))
      ∙ (ap (λ (ls : List L). before ++ ls) (kept_in-append (take i entries) (e ∷ [])) ∙ sym (append_assoc before (kept_in (take i entries)) (kept_in (e ∷ []))))

  kept_labels-append : (t u : Cells L) → kept_labels (t ++ u) ≡ kept_labels t ++ kept_labels u
  kept_labels-append [] u = refl
  kept_labels-append (entries ∷ rest) u =
      ap (λ (ls : List L). kept_in entries ++ ls) (kept_labels-append rest u) ∙ sym (append_assoc (kept_in entries) (kept_labels rest) (kept_labels u))

  pub cells_more : (t : Cells L) (c : ℕ) (entries : List (Entry L)) → c < length t → entries ≡ get_or t c entries
      → kept_labels (take (c + 1) t) ≡ kept_labels (take c t) ++ kept_in entries
  cells_more t c entries within is =
      let one = take_more t c entries within in
      ap (λ (xs : Cells L). kept_labels xs) (one ∙ ap (λ (d : List (Entry L)). take c t ++ d ∷ []) (sym is))
      ∙ (kept_labels-append (take c t) (entries ∷ []) ∙ ap (λ (ls : List L). kept_labels (take c t) ++ ls) (append-nil (kept_in entries)))

-- an arc on from a vertex is among its choices
in_range : (a n : ℕ) → a < n → Contains (range_with_len 0 n) a
in_range a n l = (a, omega (arith, length-range_with_len 0 n, l), get_or-range_with_len 0 n a a l ∙ zero-add a)

choice_of : (direction : Direction) (S : Setting) (v a : ℕ) → a < length S.graph.arcs → left direction S a ≡ v → Contains (onward direction S v) a
choice_of Forward S v a l e = filter_contains (λ b. (arc_at S.graph.arcs b).tail == v) (range_with_len 0 (length S.graph.arcs)) a (in_range a (length S.graph.arcs) l) (eq-eqb _ _ e)
choice_of Backward S v a l e = filter_contains (λ b. (arc_at S.graph.arcs b).head == v) (range_with_len 0 (length S.graph.arcs)) a (in_range a (length S.graph.arcs) l) (eq-eqb _ _ e)

module _ (direction : Direction) (S : Setting) (threshold : Option ℤ) (cells : ℕ) (cell_of : ℕ → ℤ → ℤ → ℕ) (t : Cells Label)
    (sound : IsSound (rules direction S threshold cells cell_of) t) where
  abbrev space : Rules Label
  space = rules direction S threshold cells cell_of

  label_of : (l : Label) → Contains (kept_labels t) l → IsLabel direction S l
  label_of l h =
      let has = kept_at t l h in
      let fits = (sound.at_home has.0 has.1 has.2).0 in
      (label_decides direction S l).0 (subst (λ (m : Label). is_label direction S m ≡ true) has.4 fits)

  covers_of : (l : Label) → CoversIn space (HasKept t) l → Covers direction S (kept_labels t) l
  covers_of l h = record { by = h.0; listed = listed t h.0 h.1; dominates = (dominates_decides direction S h.0 l).0 h.2 }

  extends_over : (l : Label) (a : ℕ) → a < length S.graph.arcs → left direction S a ≡ l.vertex → CanExtend direction S l a → NeedsDominator direction S threshold (extended direction S l a)
      → (k : ℕ) × Extends space l k (extended direction S l a)
  extends_over l a there from can needed =
      let at = choice_of direction S l.vertex a there from in
      let arc : slice_index (onward direction S l.vertex) at.0 ≡ a = get_or_default (onward direction S l.vertex) at.0 0 a at.1 ∙ at.2 in
      (at.0, (at.1, subst (λ (b : ℕ). extension direction S threshold l b ≡ Some (extended direction S l a)) (sym arc) (is_extension direction S threshold l a can needed)))

all_of : {X : Type 0} (P : X → Type 0) (xs : List X) → ((x : X) → Contains xs x → P x) → All P xs
all_of P xs h = All-weaker (Contains xs) P h xs (All-contains_itself xs)

pub closed_table : ClosedTableLaw
closed_table direction S threshold cells cell_of t sound closed = record {
  windows = all_of (LiesInWindows S) (kept_labels t) (λ l h. (label_of direction S threshold cells cell_of t sound l h).windows);
  cover = record {
    states = all_of (StatesFit S) (kept_labels t) (λ l h. (label_of direction S threshold cells cell_of t sound l h).states);
    root = covers_of direction S threshold cells cell_of t sound (root direction S) closed.0;
    extensions = λ l a h there from can needed.
        let x = extends_over direction S threshold cells cell_of t sound l a there from can needed in
        covers_of direction S threshold cells cell_of t sound (extended direction S l a) (closed.1 l x.0 (extended direction S l a) (kept_at t l h) x.1);
  };
}

-- the table that was filled
pub filled_list : (direction : Direction) (S : Setting) (threshold : Option ℤ) (cells : ℕ) (cell_of : ℕ → ℤ → ℤ → ℕ) (limit : ℕ) (f : Filled Label)
    → EachTable f (λ t. IsSound (rules direction S threshold cells cell_of) t.cells) → IfClosed f (λ t. IsWhole (rules direction S threshold cells cell_of) limit t.cells)
    → IfClosed f (λ t. IsClosed direction S threshold (kept_labels t.cells))
filled_list direction S threshold cells cell_of limit (FilledClosed t) sound whole = closed_table direction S threshold cells cell_of t.cells sound whole.closed
filled_list direction S threshold cells cell_of limit (FilledWall t) sound whole = tt
filled_list direction S threshold cells cell_of limit FilledMemory sound whole = tt

pub filled_more : (P Q : List Label → Type 0) (f : Filled Label) → ((labels : List Label) → P labels → Q labels) → IfClosed f (λ t. P (kept_labels t.cells)) → IfClosed f (λ t. Q (kept_labels t.cells))
filled_more P Q (FilledClosed t) to h = to (kept_labels t.cells) h
filled_more P Q (FilledWall t) to h = tt
filled_more P Q FilledMemory to h = tt

-- so a forward table without a threshold has a label at the sink for each admitted walk
pub closed_shows_walks : (S : Setting) (labels : List Label) → SettingFits S → IsClosed Forward S None labels → HasWalks S labels
closed_shows_walks S labels fits closed walk admitted =
    let has = admitted.labels walk [] (sym (append-nil walk)) in
    let covers = forward_law S labels walk S.graph.ends.sink fits closed.cover admitted.feasible.walk has in
    record {
      label = covers.by;
      listed = covers.listed;
      at_sink = covers.dominates.vertex ∙ forward_vertex S (root Forward S) walk S.graph.ends.sink admitted.feasible.walk;
      cost = costs_least Forward S covers.by (forward_label S walk) covers.dominates;
    }

-- and a backward one a dominator of each label of a rest
pub closed_shows_rests : (S : Setting) (labels : List Label) → SettingFits S → IsClosed Backward S None labels → HasRests S labels
closed_shows_rests S labels fits closed arcs v leads has = backward_law S labels arcs v fits closed.cover leads has
