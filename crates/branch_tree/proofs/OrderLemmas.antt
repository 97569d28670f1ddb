-- The greatest item of a heap by the turned order has the pair that comes first.
use Rattle.std.proofs.Common.{◌≡◌, ℕ, ◌<◌, ℤ, false, List, [], ◌∷◌, All, inl, inr, refl, sym, arith}
use Rattle.std.specs.Prelude.{◌<ℤ◌}
use Rattle.std.specs.declared.cmp.Ordering.{Ordering}
use Rattle.std.specs.declared.cmp.Ordering.TheVariants.{Less, Equal, Greater}
use Rattle.std.specs.declared.cmp.Reverse.{Reverse}
use Rattle.std.specs.Ordering.{MatchOrdering, int_cmp, is_lt, nat_cmp, ordering_then}
use Rattle.std.specs.Cmp.{int_ranks, ranked}
use Rattle.std.specs.BinaryHeap.{IsUpperBound}
use Rattle.std.proofs.lemmas.List.Elements.{All-nil, All-cons}
use Rattle.branch_tree.specs.Order.{ComesFirst, Pair, pairs_of, turned_order}

by_ranks : (a b : ℤ) (n k : ℕ) (o p : Ordering) → MatchOrdering o (b <ℤ a) (b ≡ a) (a <ℤ b) → MatchOrdering p (k < n) (k ≡ n) (n < k) → is_lt (ordering_then o p) ≡ false → ComesFirst (a, n) (b, k)
by_ranks a b n k Less p h j above = cc
by_ranks a b n k Equal Less h j above = cc
by_ranks a b n k Equal Equal h j above = inr (sym h, omega (arith, j))
by_ranks a b n k Equal Greater h j above = inr (sym h, omega (arith, j))
by_ranks a b n k Greater p h j above = inl h

comes_first : (x y : Reverse Pair) → is_lt (turned_order x y) ≡ false → ComesFirst x.0 y.0
comes_first x y above =
    by_ranks x.0.0 y.0.0 x.0.1 y.0.1 (int_cmp y.0.0 x.0.0) (nat_cmp y.0.1 x.0.1) (int_ranks y.0.0 x.0.0) (ranked y.0.1 x.0.1 (nat_cmp y.0.1 x.0.1) refl) above

pub first_of_all : (x : Reverse Pair) (items : List (Reverse Pair)) → IsUpperBound turned_order x items → All (ComesFirst x.0) (pairs_of items)
first_of_all x [] bound = All-nil (ComesFirst x.0)
first_of_all x (y ∷ items) bound = All-cons (ComesFirst x.0) y.0 (pairs_of items) (comes_first x y bound.0) (first_of_all x items bound.1)
