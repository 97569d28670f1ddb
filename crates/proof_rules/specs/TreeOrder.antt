-- Trees of nodes, and the lists of their nodes from the root down, each before those below it.
use Rattle.std.specs.Prelude.{List, [], ◌∷◌, ◌++◌}
use Rattle.proof_rules.specs.Grows.{Rules}

-- trees side by side: a node, the trees below it, and the trees after its own
pub data Forest (N : Type 0) : Type 0 where
  EmptyForest : Forest N
  WithTree : N → Forest N → Forest N → Forest N

-- a tree stands at each item, and at each node's children the trees below it
abbrev pub Stand : {I N : Type 0} → Rules I N → List I → Forest N → Type 0
Stand r [] EmptyForest = Unit {0}
Stand r [] (WithTree n below after) = ⊥
Stand r (i ∷ is) EmptyForest = ⊥
Stand r (i ∷ is) (WithTree n below after) = r.Fits i n × Stand r (r.children i n) below × Stand r is after

abbrev pub preorder : {N : Type 0} → Forest N → List N
preorder EmptyForest = []
preorder (WithTree n below after) = n ∷ (preorder below ++ preorder after)
