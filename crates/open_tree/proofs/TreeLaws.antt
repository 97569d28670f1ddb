-- The laws of trees with open places.
use Rattle.std.proofs.Common.{ℕ, ℤ, ◌≤◌, [], ◌∷◌, length, subst}
use Rattle.proof_rules.specs.Grows.{Rules}
use Rattle.proof_rules.proofs.GrowsLemmas.{grows_weaken}
use Rattle.open_tree.specs.Open.{with_open, mades, slots_of}
use Rattle.open_tree.specs.Laws.{PutLaw, WholeLaw, ReachLaw, PruneLaw, WeakenLaw}
use Rattle.open_tree.proofs.OpenLaws.{made_whole, open_reach, put_in, open_step, grown_slots}
use Rattle.open_tree.proofs.PruneLaws.{prune_grows, prune_fewer, tested_mades}

pub put_law : {I N : Type 0} (r : Rules I N) → PutLaw r
put_law r top before after i nodes rest tree grown =
    put_in r top i before (slots_of nodes rest) after tree (grown_slots r (i ∷ []) rest nodes grown)

pub whole_law : {I N : Type 0} (r : Rules I N) → WholeLaw r
whole_law r top slots none tree = made_whole r top [] slots none tree

pub reach_law : {I N : Type 0} (r : Rules I N) (Has : I → ℤ → Type 0) → ReachLaw r Has
reach_law r Has z descends top slots cost tree at below = open_reach r Has z descends top slots cost tree at below

pub prune_law : {I N : Type 0} (r : Rules I N) → PruneLaw r
prune_law r top olds kept tested pruned zip tree = (
  prune_grows r top olds kept tested pruned zip tree,
  subst (λ (n : ℕ). length (mades kept) ≤ n) (tested_mades r olds tested zip) (prune_fewer kept tested pruned),
)

pub weaken_law : {I N : Type 0} (r s : Rules I N) → WeakenLaw r s
weaken_law r s step top slots tree = grows_weaken (with_open r) (with_open s) (open_step r s step) top [] slots tree
