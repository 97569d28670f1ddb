-- Taking subtrees out of a tree, in one pass.
use Rattle.std.specs.Prelude.{◌≡◌, ℕ, List, [], ◌++◌, length}
use Rattle.proof_rules.specs.Grows.{Rules, Grows}

-- `out` is kept of the nodes so far; the next trees of `rest`, `skip` of them, are to be left out
pub record Cuts {I N : Type 0} (r : Rules I N) (is : List I) (out rest : List N) (skip : ℕ) : Type 0 where
  pub left_out : List I
  pub count : length left_out ≡ skip
  pub stay : List I
  pub kept : Grows r is out stay
  pub ahead : Grows r (left_out ++ stay) rest []
