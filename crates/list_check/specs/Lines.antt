-- The lines of a tree as a set of pairs of a parent and an arc.
use Rattle.std.specs.Prelude.{◌≢◌, ◌↔◌, ℕ, ◌<◌, Bool, IsTrue, List, length, Contains}
use Rattle.std.specs.BTreeSet.{BTreeSet, contains}
use Rattle.std.specs.declared.cmp.Ordering.{Ordering}
use Rattle.std.specs.Ordering.{nat_cmp, ordering_then}
use Rattle.proof_rules.specs.PrefixTrees.{Step, step_at}

-- the order of the pairs, and whether a pair is one of them
abbrev pub pair_cmp : ℕ × ℕ → ℕ × ℕ → Ordering
pair_cmp x y = ordering_then (nat_cmp x.0 y.0) (nat_cmp x.1 y.1)

abbrev pub has_line : BTreeSet (ℕ × ℕ) → ℕ → ℕ → Bool
has_line lines parent arc = contains pair_cmp lines (parent, arc)

-- no two steps are equal
abbrev pub AreDifferent : List Step → Type 0
AreDifferent steps = (m n : ℕ) → m < n → n < length steps → step_at steps m ≢ step_at steps n

-- the lines are those of the steps
abbrev pub AreLinesOf : List Step → BTreeSet (ℕ × ℕ) → Type 0
AreLinesOf steps lines = (parent arc : ℕ) → IsTrue (has_line lines parent arc) ↔ Contains steps (record { parent = parent; arc = arc })

-- no two steps are equal, and the lines are theirs
pub record AreLines (steps : List Step) (lines : BTreeSet (ℕ × ℕ)) : Type 0 where
  pub different : AreDifferent steps
  pub each : AreLinesOf steps lines
