-- The cheap entries of a table as they are gathered: each is cheap, all are there, and no two are the same.
use Rattle.std.proofs.Common.{◌≡◌, ◌≢◌, ◌==◌, ◌&&◌, ℕ, zero, suc, ◌+◌, ◌<◌, ◌⊎◌, Bool, true, false, ℤ, pos, Decides, Option, None, Some, List, [], ◌∷◌, ◌++◌, All, length, get_or, take, append_assoc, inl, inr, refl, sym, ◌∙◌, ap, subst, arith}
use Rattle.std.specs.Prelude.{Contains, ◌<ℤ◌, if◌then◌else◌, slice_get, slice_index_or}
use lib.Signed.{lt_z}
use Rattle.std.specs.List.{AllPairs, AllZip}
use Rattle.std.specs.List.Sorted.{IsPermutation, IsSorted}
use Rattle.std.proofs.lemmas.Bool.{false≢true}
use Rattle.std.proofs.lemmas.Bool.Decides.{Decides-and, Decides-eqb}
use Rattle.std.proofs.lemmas.List.{append-nil, length-take, take_more}
use Rattle.std.proofs.lemmas.List.Elements.{All-cons, All-contains_itself, All-nil, All-weaker, Contains-append_cases, Contains-append_left, Contains-append_right}
use Rattle.std.proofs.lemmas.List.Kept.{AllPairs-cons}
use Rattle.label_core.specs.declared.table.Entry.{Entry}
use Rattle.label_core.specs.declared.table.Place.{Place}
use Rattle.label_core.specs.Puts.{is_none}
use Rattle.label_core.specs.Tables.{Cells, IsKept, StandsAt, place}
use Rattle.label_rules.specs.declared.label.Label.{Label}
use Rattle.concatenate.proofs.LeastLemmas.{below_decides}
use Rattle.proof_rules.proofs.ListWallLemmas.{pairs_append}
use Rattle.pricing.specs.declared.ranking.Ranked.{Ranked}
use Rattle.pricing.specs.Cheap.{AreFirst, IsCheap}
use Rattle.pricing.specs.Ranks.{cheap_from, cheap_in, is_cheap, ranked_at}
use Rattle.pricing.proofs.SortLemmas.{first_each, first_few, first_order, first_others, rank_cmp}

none_decides : (o : Option Place) → Decides (is_none o) (o ≡ None)
none_decides None = (λ e. refl, λ e. refl)
none_decides (Some p) = (λ e. absurd (false≢true e), λ e. cc)

-- what the test of an entry says
cheap_decides : (sink : ℕ) (e : Entry Label) → Decides (is_cheap sink e) (IsKept e × ((e.label.vertex ≡ sink) × (e.label.cost <ℤ pos 0)))
cheap_decides sink e = Decides-and _ _ (none_decides e.gone) (Decides-and _ _ (Decides-eqb e.label.vertex sink) (below_decides e.label.cost (pos 0)))

-- an item that is put first, or not
from_if : {X : Type 0} (b : Bool) (x r : X) (xs : List X) → Contains (if b then x ∷ xs else xs) r → ((b ≡ true) × (x ≡ r)) ⊎ Contains xs r
from_if true x r xs h = elim (Contains-append_cases (x ∷ []) xs r h) [
  | inl k ↦ inl (refl, one_item x r k)
  | inr k ↦ inr k
]
  where
    one_item : {X : Type 0} (x r : X) → Contains (x ∷ []) r → x ≡ r
    one_item x r (zero, l, e) = e
    one_item x r (suc k, l, e) = absurd (omega (arith, l))
from_if false x r xs h = inr h

in_if : {X : Type 0} (b : Bool) (x : X) (xs : List X) → b ≡ true → Contains (if b then x ∷ xs else xs) x
in_if true x xs e = (0, omega arith, refl)
in_if false x xs e = absurd (false≢true e)

later_if : {X : Type 0} (b : Bool) (x r : X) (xs : List X) → Contains xs r → Contains (if b then x ∷ xs else xs) r
later_if true x r xs h = Contains-append_right (x ∷ []) xs r h
later_if false x r xs h = h

pairs_if : {X : Type 0} (R : X → X → Type 0) (b : Bool) (x : X) (xs : List X) → All (R x) xs → AllPairs R xs → AllPairs R (if b then x ∷ xs else xs)
pairs_if R true x xs first rest = AllPairs-cons R x xs first rest
pairs_if R false x xs first rest = rest

all_of : {X : Type 0} (P : X → Type 0) (xs : List X) → ((x : X) → Contains xs x → P x) → All P xs
all_of P xs h = All-weaker (Contains xs) P h xs (All-contains_itself xs)

-- an entry of a cell
record IsThere (sink c i : ℕ) (entries : List (Entry Label)) (r : Ranked) : Type 0 where
  k : ℕ
  e : Entry Label
  got : slice_get entries k ≡ Some e
  cheap : is_cheap sink e ≡ true
  same : r ≡ ranked_at c (i + k) e

there : (sink c i : ℕ) (entries : List (Entry Label)) (r : Ranked) → Contains (cheap_in sink c i entries) r → IsThere sink c i entries r
there sink c i [] r h = let l = h.1 in absurd (omega (arith, l))
there sink c i (e ∷ rest) r h = elim (from_if (is_cheap sink e) (ranked_at c i e) r (cheap_in sink c (suc i) rest) h) [
  | inl at ↦ let here : i ≡ i + 0 = omega arith in record { k = 0; e = e; got = refl; cheap = at.0; same = sym at.1 ∙ ap (λ (n : ℕ). ranked_at c n e) here }
  | inr more ↦
      let at = there sink c (suc i) rest r more in
      let here : suc i + at.k ≡ i + suc at.k = omega arith in
      record { k = suc at.k; e = at.e; got = at.got; cheap = at.cheap; same = at.same ∙ ap (λ (n : ℕ). ranked_at c n at.e) here }
]

in_there : (sink c i : ℕ) (entries : List (Entry Label)) (k : ℕ) (e : Entry Label) → slice_get entries k ≡ Some e → is_cheap sink e ≡ true → Contains (cheap_in sink c i entries) (ranked_at c (i + k) e)
in_there sink c i [] k e got cheap = absurd (cc)
in_there sink c i (x ∷ rest) zero e got cheap =
    let same : x ≡ e = cc in
    let here : i ≡ i + 0 = omega arith in
    subst (λ (d : Entry Label). Contains (cheap_in sink c i (x ∷ rest)) (ranked_at c (i + 0) d)) same
    (subst (λ (n : ℕ). Contains (cheap_in sink c i (x ∷ rest)) (ranked_at c n x)) here
    (in_if (is_cheap sink x) (ranked_at c i x) (cheap_in sink c (suc i) rest) (ap (is_cheap sink) same ∙ cheap)))
in_there sink c i (x ∷ rest) (suc k) e got cheap =
    let here : suc i + k ≡ i + suc k = omega arith in
    later_if (is_cheap sink x) (ranked_at c i x) (ranked_at c (i + suc k) e) (cheap_in sink c (suc i) rest)
    (subst (λ (n : ℕ). Contains (cheap_in sink c (suc i) rest) (ranked_at c n e)) here (in_there sink c (suc i) rest k e got cheap))

-- of a table
record IsThereFrom (sink c : ℕ) (t : Cells Label) (r : Ranked) : Type 0 where
  cell : ℕ
  entry : IsThere sink (c + cell) 0 (slice_index_or t cell []) r

there_from : (sink c : ℕ) (t : Cells Label) (r : Ranked) → Contains (cheap_from sink c t) r → IsThereFrom sink c t r
there_from sink c [] r h = let l = h.1 in absurd (omega (arith, l))
there_from sink c (entries ∷ rest) r h = elim (Contains-append_cases (cheap_in sink c 0 entries) (cheap_from sink (suc c) rest) r h) [
  | inl at ↦ let here : c ≡ c + 0 = omega arith in record { cell = 0; entry = subst (λ (n : ℕ). IsThere sink n 0 entries r) here (there sink c 0 entries r at) }
  | inr more ↦
      let at = there_from sink (suc c) rest r more in
      let here : suc c + at.cell ≡ c + suc at.cell = omega arith in
      record { cell = suc at.cell; entry = subst (λ (n : ℕ). IsThere sink n 0 (slice_index_or rest at.cell []) r) here at.entry }
]

in_from : (sink c : ℕ) (t : Cells Label) (cell k : ℕ) (e : Entry Label) → slice_get (slice_index_or t cell []) k ≡ Some e → is_cheap sink e ≡ true → Contains (cheap_from sink c t) (ranked_at (c + cell) (0 + k) e)
in_from sink c [] cell k e got cheap = absurd (cc)
in_from sink c (entries ∷ rest) zero k e got cheap =
    let here : c ≡ c + 0 = omega arith in
    subst (λ (n : ℕ). Contains (cheap_from sink c (entries ∷ rest)) (ranked_at n (0 + k) e)) here
    (Contains-append_left (cheap_in sink c 0 entries) (cheap_from sink (suc c) rest) (ranked_at c (0 + k) e) (in_there sink c 0 entries k e got cheap))
in_from sink c (entries ∷ rest) (suc cell) k e got cheap =
    let here : suc c + cell ≡ c + suc cell = omega arith in
    Contains-append_right (cheap_in sink c 0 entries) (cheap_from sink (suc c) rest) (ranked_at (c + suc cell) (0 + k) e)
    (subst (λ (n : ℕ). Contains (cheap_from sink (suc c) rest) (ranked_at n (0 + k) e)) here (in_from sink (suc c) rest cell k e got cheap))

-- each of them is cheap
pub each_cheap : (sink : ℕ) (t : Cells Label) → All (IsCheap sink t) (cheap_from sink 0 t)
each_cheap sink t = all_of (IsCheap sink t) (cheap_from sink 0 t) (λ r h.
    let at = there_from sink 0 t r h in
    let x = at.entry in
    let holds = (cheap_decides sink x.e).0 x.cheap in
    let cell : r.cell ≡ at.cell = ap (λ (s : Ranked). s.cell) x.same ∙ omega arith in
    let index : r.index ≡ x.k = ap (λ (s : Ranked). s.index) x.same ∙ omega arith in
    let cost : x.e.label.cost ≡ r.cost = sym (ap (λ (s : Ranked). s.cost) x.same) in
    record {
      entry = x.e;
      stands = subst (λ (c : ℕ). StandsAt t (place c r.index) x.e) (sym cell) (subst (λ (i : ℕ). StandsAt t (place at.cell i) x.e) (sym index) x.got);
      kept = holds.0;
      at_sink = holds.1.0;
      same = cost;
      negative = subst (λ (z : ℤ). z <ℤ pos 0) cost holds.1.1;
    })

-- and each that is cheap is among them
pub all_cheap : (sink : ℕ) (t : Cells Label) (r : Ranked) → IsCheap sink t r → Contains (cheap_from sink 0 t) r
all_cheap sink t r h =
    let cheap = (cheap_decides sink h.entry).1 (h.kept, (h.at_sink, subst (λ (z : ℤ). z <ℤ pos 0) (sym h.same) h.negative)) in
    let cell : 0 + r.cell ≡ r.cell = omega arith in
    let index : 0 + r.index ≡ r.index = omega arith in
    let same : ranked_at (0 + r.cell) (0 + r.index) h.entry ≡ r = λ i. record { cost = h.same i; cell = cell i; index = index i } in
    subst (Contains (cheap_from sink 0 t)) same (in_from sink 0 t r.cell r.index h.entry h.stands cheap)

-- no two are the same
in_differ : (sink c i : ℕ) (entries : List (Entry Label)) → AllPairs (λ x y. x ≢ y) (cheap_in sink c i entries)
in_differ sink c i [] = λ j k d less l. absurd (omega (arith, l))
in_differ sink c i (e ∷ rest) =
    pairs_if (λ x y. x ≢ y) (is_cheap sink e) (ranked_at c i e) (cheap_in sink c (suc i) rest)
    (all_of (λ r. ranked_at c i e ≢ r) (cheap_in sink c (suc i) rest) (λ r h same.
    let at = there sink c (suc i) rest r h in
    let index : i ≡ suc i + at.k = ap (λ (s : Ranked). s.index) (same ∙ at.same) in
    omega (arith, index)))
    (in_differ sink c (suc i) rest)

from_differ : (sink c : ℕ) (t : Cells Label) → AllPairs (λ x y. x ≢ y) (cheap_from sink c t)
from_differ sink c [] = λ j k d less l. absurd (omega (arith, l))
from_differ sink c (entries ∷ rest) =
    pairs_append (λ x y. x ≢ y) (cheap_in sink c 0 entries) (cheap_from sink (suc c) rest) (in_differ sink c 0 entries) (from_differ sink (suc c) rest)
    (all_of (λ x. All (λ y. x ≢ y) (cheap_from sink (suc c) rest)) (cheap_in sink c 0 entries) (λ x h.
    all_of (λ y. x ≢ y) (cheap_from sink (suc c) rest) (λ y k same.
    let one = there sink c 0 entries x h in
    let other = there_from sink (suc c) rest y k in
    let cell : c ≡ suc c + other.cell = ap (λ (s : Ranked). s.cell) (sym one.same ∙ (same ∙ other.entry.same)) in
    omega (arith, cell))))

pub cheap_differ : (sink : ℕ) (t : Cells Label) → AllPairs (λ x y. x ≢ y) (cheap_from sink 0 t)
cheap_differ sink t = from_differ sink 0 t

-- entry by entry, and cell by cell
in_append : (sink c i : ℕ) (xs ys : List (Entry Label)) → cheap_in sink c i (xs ++ ys) ≡ cheap_in sink c i xs ++ cheap_in sink c (i + length xs) ys
in_append sink c i [] ys = let here : i ≡ i + 0 = omega arith in ap (λ (n : ℕ). cheap_in sink c n ys) here
in_append sink c i (x ∷ xs) ys =
    let here : suc i + length xs ≡ i + suc (length xs) = omega arith in
    let rest = in_append sink c (suc i) xs ys ∙ ap (λ (n : ℕ). cheap_in sink c (suc i) xs ++ cheap_in sink c n ys) here in
    put_append (is_cheap sink x) (ranked_at c i x) (cheap_in sink c (suc i) xs) (cheap_in sink c (i + suc (length xs)) ys) (cheap_in sink c (suc i) (xs ++ ys)) rest
  where
    put_append : (b : Bool) (r : Ranked) (xs ys both : List Ranked) → both ≡ xs ++ ys → (if b then r ∷ both else both) ≡ (if b then r ∷ xs else xs) ++ ys
    put_append true r xs ys both e = ap (λ (rs : List Ranked). r ∷ rs) e
    put_append false r xs ys both e = e

from_append : (sink c : ℕ) (t u : Cells Label) → cheap_from sink c (t ++ u) ≡ cheap_from sink c t ++ cheap_from sink (c + length t) u
from_append sink c [] u = let here : c ≡ c + 0 = omega arith in ap (λ (n : ℕ). cheap_from sink n u) here
from_append sink c (entries ∷ rest) u =
    let here : suc c + length rest ≡ c + suc (length rest) = omega arith in
    ap (λ (rs : List Ranked). cheap_in sink c 0 entries ++ rs) (from_append sink (suc c) rest u ∙ ap (λ (n : ℕ). cheap_from sink (suc c) rest ++ cheap_from sink n u) here)
    ∙ sym (append_assoc (cheap_in sink c 0 entries) (cheap_from sink (suc c) rest) (cheap_from sink (c + suc (length rest)) u))

one_if : (b r : Bool) (x : Ranked) → r ≡ b → r ≡ true → (if b then x ∷ [] else []) ≡ x ∷ []
one_if true r x e is = refl
one_if false r x e is = absurd (false≢true (sym e ∙ is))

none_if : (b r : Bool) (x : Ranked) → r ≡ b → r ≡ false → (if b then x ∷ [] else []) ≡ []
none_if true r x e is = absurd (false≢true (sym is ∙ e))
none_if false r x e is = refl

taken_size : {X : Type 0} (i : ℕ) (xs : List X) → i < length xs → 0 + length (take i xs) ≡ i
taken_size i xs within = let size = length-take i xs in omega (arith, size, within)

entries_more : (sink c i : ℕ) (entries : List (Entry Label)) (e : Entry Label) → i < length entries → e ≡ get_or entries i e
    → cheap_in sink c 0 (take (i + 1) entries) ≡ cheap_in sink c 0 (take i entries) ++ (if is_cheap sink e then ranked_at c i e ∷ [] else [])
entries_more sink c i entries e within is =
    ap (cheap_in sink c 0) (take_more entries i e within ∙ ap (λ (d : Entry Label). take i entries ++ d ∷ []) (sym is))
    ∙ (in_append sink c 0 (take i entries) (e ∷ []) ∙ ap (λ (n : ℕ). cheap_in sink c 0 (take i entries) ++ cheap_in sink c n (e ∷ [])) (taken_size i entries within))

-- with one more that is cheap, or not
pub push_one : (sink c i : ℕ) (entries : List (Entry Label)) (e : Entry Label) (r : Bool) (before : List Ranked) → i < length entries → e ≡ get_or entries i e → r ≡ is_cheap sink e → r ≡ true
    → (before ++ cheap_in sink c 0 (take i entries)) ++ ranked_at c i e ∷ [] ≡ before ++ cheap_in sink c 0 (take (i + 1) entries)
push_one sink c i entries e r before within is told cheap =
    append_assoc before (cheap_in sink c 0 (take i entries)) (ranked_at c i e ∷ [])
    ∙ ap (λ (rs : List Ranked). before ++ rs)
    (ap (λ (rs : List Ranked). cheap_in sink c 0 (take i entries) ++ rs) (sym (one_if (is_cheap sink e) r (ranked_at c i e) told cheap)) ∙ sym (entries_more sink c i entries e within is))

pub push_none : (sink c i : ℕ) (entries : List (Entry Label)) (e : Entry Label) (r : Bool) (before : List Ranked) → i < length entries → e ≡ get_or entries i e → r ≡ is_cheap sink e → r ≡ false
    → before ++ cheap_in sink c 0 (take i entries) ≡ before ++ cheap_in sink c 0 (take (i + 1) entries)
push_none sink c i entries e r before within is told cheap =
    ap (λ (rs : List Ranked). before ++ rs)
    (sym (append-nil (cheap_in sink c 0 (take i entries)))
    ∙ (ap (λ (rs : List Ranked). cheap_in sink c 0 (take i entries) ++ rs) (sym (none_if (is_cheap sink e) r (ranked_at c i e) told cheap)) ∙ sym (entries_more sink c i entries e within is)))

pub cells_more : (sink i : ℕ) (t : Cells Label) (entries : List (Entry Label)) → i < length t → entries ≡ get_or t i entries
    → cheap_from sink 0 (take (i + 1) t) ≡ cheap_from sink 0 (take i t) ++ cheap_in sink i 0 entries
cells_more sink i t entries within is =
    ap (cheap_from sink 0) (take_more t i entries within ∙ ap (λ (d : List (Entry Label)). take i t ++ d ∷ []) (sym is))
    ∙ (from_append sink 0 (take i t) (entries ∷ [])
    ∙ (ap (λ (n : ℕ). cheap_from sink 0 (take i t) ++ cheap_from sink n (entries ∷ [])) (taken_size i t within)
    ∙ ap (λ (rs : List Ranked). cheap_from sink 0 (take i t) ++ rs) (append-nil (cheap_in sink i 0 entries))))

-- sorted, the first k of them
pub first_is : (sink : ℕ) (t : Cells Label) (k : ℕ) (ranked : List Ranked) → IsPermutation (cheap_from sink 0 t) ranked → IsSorted rank_cmp ranked → AreFirst sink t k (take k ranked)
first_is sink t k ranked moved up = record {
  each = first_each (IsCheap sink t) (cheap_from sink 0 t) ranked (each_cheap sink t) (all_cheap sink t) (cheap_differ sink t) moved up k;
  order = first_order (IsCheap sink t) (cheap_from sink 0 t) ranked (each_cheap sink t) (all_cheap sink t) (cheap_differ sink t) moved up k;
  few = first_few (IsCheap sink t) (cheap_from sink 0 t) ranked (each_cheap sink t) (all_cheap sink t) (cheap_differ sink t) moved up k;
  others = first_others (IsCheap sink t) (cheap_from sink 0 t) ranked (each_cheap sink t) (all_cheap sink t) (cheap_differ sink t) moved up k;
}

-- one more of two lists, place by place
pub zip_more : {A B : Type 0} (R : A → B → Type 0) (xs : List A) (ys : List B) (x : A) (y : B) → AllZip R xs ys → R x y → AllZip R (xs ++ x ∷ []) (ys ++ y ∷ [])
zip_more R [] [] x y h r = (r, tt)
zip_more R [] (b ∷ ys) x y h r = absurd h
zip_more R (a ∷ xs) [] x y h r = absurd h
zip_more R (a ∷ xs) (b ∷ ys) x y h r = (h.0, zip_more R xs ys x y h.1 r)
