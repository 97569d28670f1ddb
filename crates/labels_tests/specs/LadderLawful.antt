-- The ladder is a lawful space.
use Rattle.std.proofs.Common.{◌≡◌, ◌≤◌, ◌<◌, ◌-◌, ◌*◌, ◌+◌, ℕ, sym, subst, ap, refl, arith}
use Rattle.std.specs.Prelude.{pos, ◌≤ℤ◌, nat_le, Some}
use Rattle.std.proofs.lemmas.Int.{ints}
use Rattle.std.proofs.lemmas.Bool.Decides.{nat_tests}
use Rattle.std.proofs.lemmas.Grind.{common_steps}
use Rattle.label_space.specs.Rules.{Fits, Dominates, Extends}
use Rattle.label_space.specs.Laws.{IsLawful}
use Rattle.labels_tests.specs.Ladder.{ladder_rules}

within : (l : ℕ) → Fits ladder_rules l → ladder_rules.cell l < 3
within l f = grind (arith, nat_tests, common_steps)

down_fits : (l k m : ℕ) → Fits ladder_rules l → Extends ladder_rules l k m → Fits ladder_rules m
down_fits l k m f e = grind (arith, nat_tests, common_steps)

self_dominates : (a : ℕ) → Dominates ladder_rules a a
self_dominates a = grind (arith, nat_tests, common_steps)

through : (a b c : ℕ) → Dominates ladder_rules a b → Dominates ladder_rules b c → Dominates ladder_rules a c
through a b c d e = grind (arith, nat_tests, common_steps)

down_dominates : (a b k m : ℕ) → Dominates ladder_rules a b → Extends ladder_rules b k m → Dominates ladder_rules (a - (2 * k + 3)) m
down_dominates a b k m d e = grind (arith, nat_tests, common_steps)

level_rises : (a b : ℕ) → Dominates ladder_rules a b → pos a ≤ℤ pos b
level_rises a b d = grind (arith, ints, nat_tests, common_steps)

same_number : (a b : ℕ) → pos a ≡ pos b → a ≡ b
same_number a b e = (cc)

-- the ladder is lawful
pub ladder_lawful : IsLawful ladder_rules
ladder_lawful = record {
  root_fits = refl;
  cell_within = within;
  extension_fits = down_fits;
  reflexive = λ a f. self_dominates a;
  transitive = λ a b c fa fb fc d e. through a b c d e;
  same_degree = λ a b fa fb d. refl;
  extends_too = λ a b k m fa fb d e. (a - (2 * k + 3), (e.0, refl), down_dominates a b k m d e);
  level_no_greater = λ a b fa fb d. level_rises a b d;
  equal_level_one_cell = λ a b fa fb d e. ap ladder_rules.cell (same_number a b e);
}
