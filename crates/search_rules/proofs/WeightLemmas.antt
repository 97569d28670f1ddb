-- How many nodes a tree may have.
use Rattle.std.proofs.Common.{ℕ, suc, ◌+◌, ◌≤◌, List, [], ◌∷◌, ◌++◌, length, sum_by, ap, subst, arith}
use Rattle.std.proofs.lemmas.List.Sums.{sum_by-append, sum_by-cons}
use Rattle.proof_rules.specs.Grows.{Rules, Grows, HoldsForEach}

-- a node at an item of a kind opens only items of the kind; it weighs one, and with these no more than its item
pub record Weighs {I N : Type 0} (r : Rules I N) (Is : I → Type 0) (weight : I → ℕ) : Type 0 where
  pub below : (i : I) (n : N) → Is i → r.Fits i n → HoldsForEach Is (r.children i n)
  pub most : (i : I) (n : N) → Is i → r.Fits i n → suc (sum_by weight (r.children i n)) ≤ weight i

each_append : {I : Type 0} (P : I → Type 0) (is js : List I) → HoldsForEach P is → HoldsForEach P js → HoldsForEach P (is ++ js)
each_append P [] js h k = k
each_append P (i ∷ is) js h k = (h.0, each_append P is js h.1 k)

-- the items that stay open are of the kind; the nodes and their weights are no more than the weights at the start
pub record Left {I N : Type 0} (Is : I → Type 0) (weight : I → ℕ) (is : List I) (ns : List N) (js : List I) : Type 0 where
  pub each : HoldsForEach Is js
  pub most : length ns + sum_by weight js ≤ sum_by weight is

pub nodes_weigh : {I N : Type 0} (r : Rules I N) (Is : I → Type 0) (weight : I → ℕ) → Weighs r Is weight → (is js : List I) (ns : List N)
    → HoldsForEach Is is → Grows r is ns js → Left Is weight is ns js
nodes_weigh {I} r Is weight w is js [] each g = record { each = subst (HoldsForEach Is) g each; most = let same = ap (sum_by weight) g in omega (arith, same) }
nodes_weigh r Is weight w [] js (n ∷ ns) each g = absurd g
nodes_weigh r Is weight w (i ∷ is) js (n ∷ ns) each g =
    let rest = nodes_weigh r Is weight w (r.children i n ++ is) js ns (each_append Is (r.children i n) is (w.below i n each.0 g.0) each.1) g.1 in
    let parts = sum_by-append weight (r.children i n) is in
    let one = w.most i n each.0 g.0 in
    let whole = sum_by-cons weight i is in
    record { each = rest.each; most = omega (arith, rest.most, parts, one, whole) }
