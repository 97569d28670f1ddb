-- A list that grows to its end is the list of the nodes of trees, each before those below it.
use Rattle.std.proofs.Common.{◌≡◌, List, [], ◌∷◌, ◌++◌, refl, sym, ap, ◌∙◌, append_assoc}
use Rattle.proof_rules.specs.Grows.{Rules, Grows}
use Rattle.proof_rules.specs.TreeOrder.{Forest, EmptyForest, WithTree, Stand, preorder}
use Rattle.proof_rules.proofs.GrowsLemmas.{grows_append, grows_frame}

pub trees_grow : {I N : Type 0} (r : Rules I N) (is : List I) (t : Forest N)
    → Stand r is t → Grows r is (preorder t) []
trees_grow r [] EmptyForest h = refl
trees_grow r [] (WithTree n below after) h = absurd h
trees_grow r (i ∷ is) EmptyForest h = absurd h
trees_grow r (i ∷ is) (WithTree n below after) h = (
  h.0,
  grows_append r (r.children i n ++ is) is [] (preorder below) (preorder after)
      (grows_frame r (r.children i n) [] is (preorder below) (trees_grow r (r.children i n) below h.1))
      (trees_grow r is after h.2),
)

-- trees at items side by side come apart
trees_split : {I N : Type 0} (r : Rules I N) (first then : List I) (t : Forest N) → Stand r (first ++ then) t
    → (a : Forest N) × (b : Forest N) × (preorder t ≡ preorder a ++ preorder b) × Stand r first a × Stand r then b
trees_split r [] then t h = (EmptyForest, t, refl, tt, h)
trees_split r (i ∷ first) then EmptyForest h = absurd h
trees_split {I} {N} r (i ∷ first) then (WithTree n below after) h =
    let rest = trees_split r first then after h.2 in
    let order : n ∷ (preorder below ++ preorder after) ≡ (n ∷ (preorder below ++ preorder rest.0)) ++ preorder rest.1 =
    ap (λ (ns : List N). n ∷ (preorder below ++ ns)) rest.2 ∙ ap (λ (ns : List N). n ∷ ns) (sym (append_assoc (preorder below) (preorder rest.0) (preorder rest.1))) in
    (WithTree n below rest.0, rest.1, order, (h.0, h.1, rest.3), rest.4)

pub grown_trees : {I N : Type 0} (r : Rules I N) (is : List I) (ns : List N) → Grows r is ns []
    → (t : Forest N) × (preorder t ≡ ns) × Stand r is t
grown_trees r [] [] g = (EmptyForest, refl, tt)
grown_trees r (i ∷ is) [] g = cc
grown_trees r [] (n ∷ ns) g = absurd g
grown_trees {I} {N} r (i ∷ is) (n ∷ ns) g =
    let all = grown_trees r (r.children i n ++ is) ns g.1 in
    let parts = trees_split r (r.children i n) is all.0 all.2 in
    (WithTree n parts.0 parts.1, ap (λ (ms : List N). n ∷ ms) (sym parts.2 ∙ all.1), (g.0, parts.3, parts.4))
