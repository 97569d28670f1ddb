-- Entries in the order of cost, cell and index: a sorted list of different ones, and its first k.
use Rattle.std.proofs.Common.{◌≡◌, ◌≢◌, ℕ, ◌<◌, ◌≤◌, ◌⊎◌, ◌&&◌, eqb, int_eq, Bool, true, false, ℤ, Decides, List, All, length, get_or, take, inl, inr, refl, sym, ◌∙◌, ap, subst, arith}
use Rattle.std.specs.Prelude.{Contains, ◌<ℤ◌}
use Rattle.std.specs.declared.cmp.Ordering.{Ordering}
use Rattle.std.specs.declared.cmp.Ordering.TheVariants.{Less, Equal, Greater}
use Rattle.std.specs.Ordering.{MatchOrdering, int_cmp, is_lt, nat_cmp, ordering_then}
use Rattle.std.specs.Cmp.{IsStrictWeakOrder, IsTotalOrder, int_ranks, ranked}
use Rattle.std.specs.List.{AllPairs}
use Rattle.std.specs.List.Sorted.{IsPermutation, IsSorted}
use Rattle.std.proofs.lemmas.Bool.{cases_lt}
use Rattle.std.proofs.lemmas.Bool.Decides.{Decides-and, Decides-eqb, Decides-int_eq, Decides-like, same_from_decides}
use Rattle.std.proofs.lemmas.Cmp.{int_cmp_total, nat_cmp_total, then_total}
use Rattle.std.proofs.lemmas.List.{get_or-take, get_or_default, length-take}
use Rattle.std.proofs.lemmas.List.Elements.{All-take}
use Rattle.std.proofs.lemmas.List.MinMax.{ranks_by}
use Rattle.std.proofs.lemmas.List.Sorted.{All-permutation, Contains-permutation, sorted_far}
use Rattle.std.proofs.lemmas.Map.Keys.{IsDistinct-IsPermutation}
use Rattle.std.proofs.lemmas.Map.Made.{AllPairs-from_IsDistinct, IsDistinct-from_AllPairs}
use Rattle.pricing.specs.declared.ranking.Ranked.{Ranked}
use Rattle.pricing.specs.Cheap.{IsBefore}

-- the order of sorting
abbrev pub rank_cmp : Ranked → Ranked → Ordering
rank_cmp a b = ordering_then (int_cmp a.cost b.cost) (ordering_then (nat_cmp a.cell b.cell) (nat_cmp a.index b.index))

cost_order : IsTotalOrder (λ (a b : Ranked). int_cmp a.cost b.cost)
cost_order = record {
  antisymm = λ x y. int_cmp_total.antisymm x.cost y.cost;
  trans = λ x y z. int_cmp_total.trans x.cost y.cost z.cost;
  congr = λ x y z. int_cmp_total.congr x.cost y.cost z.cost;
}

cell_order : IsTotalOrder (λ (a b : Ranked). nat_cmp a.cell b.cell)
cell_order = record {
  antisymm = λ x y. nat_cmp_total.antisymm x.cell y.cell;
  trans = λ x y z. nat_cmp_total.trans x.cell y.cell z.cell;
  congr = λ x y z. nat_cmp_total.congr x.cell y.cell z.cell;
}

index_order : IsTotalOrder (λ (a b : Ranked). nat_cmp a.index b.index)
index_order = record {
  antisymm = λ x y. nat_cmp_total.antisymm x.index y.index;
  trans = λ x y z. nat_cmp_total.trans x.index y.index z.index;
  congr = λ x y z. nat_cmp_total.congr x.index y.index z.index;
}

rank_order : IsStrictWeakOrder (λ (a b : Ranked). is_lt (rank_cmp a b))
rank_order = ranks_by (then_total cost_order (then_total cell_order index_order)) (λ (r : Ranked). r)

-- what is not after another one and differs from it is before it
ranked_same : (r s : Ranked) → r.cost ≡ s.cost → r.cell ≡ s.cell → r.index ≡ s.index → r ≡ s
ranked_same r s cost cell index = λ i. record { cost = cost i; cell = cell i; index = index i }

by_ranks : (r s : Ranked) (o p q : Ordering) → r ≢ s → MatchOrdering o (s.cost <ℤ r.cost) (s.cost ≡ r.cost) (r.cost <ℤ s.cost) → MatchOrdering p (s.cell < r.cell) (s.cell ≡ r.cell) (r.cell < s.cell)
    → MatchOrdering q (s.index < r.index) (s.index ≡ r.index) (r.index < s.index) → is_lt (ordering_then o (ordering_then p q)) ≡ false → IsBefore r s
by_ranks r s Less p q other h j k above = cc
by_ranks r s Equal Less q other h j k above = cc
by_ranks r s Equal Equal Less other h j k above = cc
by_ranks r s Equal Equal Equal other h j k above = absurd (other (ranked_same r s (sym h) (sym j) (sym k)))
by_ranks r s Equal Equal Greater other h j k above = inr (sym h, inr (sym j, k))
by_ranks r s Equal Greater q other h j k above = inr (sym h, inl j)
by_ranks r s Greater p q other h j k above = inl h

before_by : (r s : Ranked) → r ≢ s → is_lt (rank_cmp s r) ≡ false → IsBefore r s
before_by r s other above =
    by_ranks r s (int_cmp s.cost r.cost) (nat_cmp s.cell r.cell) (nat_cmp s.index r.index) other (int_ranks s.cost r.cost)
    (ranked s.cell r.cell (nat_cmp s.cell r.cell) refl) (ranked s.index r.index (nat_cmp s.index r.index) refl) above

-- entries are equal where their parts are
abbrev same_ranked : Ranked → Ranked → Bool
same_ranked r s = int_eq r.cost s.cost && (eqb r.cell s.cell && eqb r.index s.index)

same_decides : (r s : Ranked) → Decides (same_ranked r s) (r ≡ s)
same_decides r s =
    Decides-like _
    (λ (h : (r.cost ≡ s.cost) × ((r.cell ≡ s.cell) × (r.index ≡ s.index))). ranked_same r s h.0 h.1.0 h.1.1)
    (λ (e : r ≡ s). (λ i. (e i).cost, (λ i. (e i).cell, λ i. (e i).index)))
    (Decides-and _ _ (Decides-int_eq r.cost s.cost) (Decides-and _ _ (Decides-eqb r.cell s.cell) (Decides-eqb r.index s.index)))

same_flips : (r s : Ranked) → same_ranked r s ≡ same_ranked s r
same_flips r s = same_from_decides (same_ranked r s) (same_ranked s r) (same_decides r s) (Decides-like _ (λ (e : s ≡ r). sym e) (λ (e : r ≡ s). sym e) (same_decides s r))

-- the first k of a sorted list of different ones
module _ (P : Ranked → Type 0) (xs ys : List Ranked) (each : All P xs) (all : (r : Ranked) → P r → Contains xs r) (differ : AllPairs (λ x y. x ≢ y) xs)
    (moved : IsPermutation xs ys) (up : IsSorted rank_cmp ys) where
  others_differ : AllPairs (λ x y. x ≢ y) ys
  others_differ = AllPairs-from_IsDistinct same_decides ys (IsDistinct-IsPermutation same_ranked same_flips xs ys moved (IsDistinct-from_AllPairs same_decides xs differ))

  before : AllPairs IsBefore ys
  before = λ i j d less l.
      before_by (get_or ys i d) (get_or ys j d) (others_differ i j d less l) (sorted_far (λ (a b : Ranked). is_lt (rank_cmp a b)) rank_order ys up i j d (omega (arith, less)) l)

  pub first_each : (k : ℕ) → All P (take k ys)
  first_each k = All-take P k ys (All-permutation P xs ys moved each)

  pub first_order : (k : ℕ) → AllPairs IsBefore (take k ys)
  first_order k = λ i j d less l.
      let size = length-take k ys in
      let first = get_or-take k ys i d (omega (arith, less, l, size)) in
      let second = get_or-take k ys j d (omega (arith, l, size)) in
      subst (λ (r : Ranked). IsBefore r (get_or (take k ys) j d)) (sym first) (subst (IsBefore (get_or ys i d)) (sym second) (before i j d less (omega (arith, l, size))))

  pub first_few : (k : ℕ) → length (take k ys) ≤ k
  first_few k = let size = length-take k ys in omega (arith, size)

  pub first_others : (k : ℕ) (r : Ranked) → P r → Contains (take k ys) r ⊎ ((length (take k ys) ≡ k) × All (λ s. IsBefore s r) (take k ys))
  first_others k r p =
      let at = Contains-permutation xs ys r moved (all r p) in
      let size = length-take k ys in
      elim (cases_lt at.0 k) [
        | inl less ↦ inl (at.0, omega (arith, less, size, at.1), get_or-take k ys at.0 r less ∙ at.2)
        | inr past ↦ inr (
          omega (arith, past, size, at.1),
          λ i d l.
              let taken = get_or-take k ys i d (omega (arith, l, size)) in
              let here = before i at.0 r (omega (arith, l, size, past)) at.1 in
              let item : get_or ys i r ≡ get_or (take k ys) i d = get_or_default ys i r d (omega (arith, l, size)) ∙ sym taken in
              subst (λ (s : Ranked). IsBefore s r) item (subst (IsBefore (get_or ys i r)) at.2 here),
        )
      ]
