-- The numbers are a lawful space.
use Rattle.std.proofs.Common.{◌≡◌, ℕ, sym, subst, ap, refl, arith}
use Rattle.std.specs.Prelude.{pos, ◌≤ℤ◌}
use Rattle.std.proofs.lemmas.Int.{ints}
use Rattle.std.proofs.lemmas.Grind.{common_steps}
use Rattle.label_space.specs.Rules.{Fits, Dominates, Extends}
use Rattle.label_space.specs.Laws.{IsLawful}
use Rattle.labels_tests.specs.Numbers.{number_rules}

same : (a b : ℕ) → Dominates number_rules a b → a ≡ b
same a b d = grind (arith, common_steps)

within : (l k m : ℕ) → Fits number_rules l → Extends number_rules l k m → Fits number_rules m
within l k m f e = grind (arith, common_steps)

self_dominates : (a : ℕ) → Dominates number_rules a a
self_dominates a = grind (arith, common_steps)

level_same : (a : ℕ) → pos a ≤ℤ pos a
level_same a = omega (arith, ints)

-- the numbers are lawful
pub number_lawful : IsLawful number_rules
number_lawful = record {
  root_fits = refl;
  cell_within = λ l f. omega arith;
  extension_fits = within;
  reflexive = λ a f. self_dominates a;
  transitive = λ a b c fa fb fc d e. subst (λ x. Dominates number_rules x c) (sym (same a b d)) e;
  same_degree = λ a b fa fb d. ap number_rules.degree (same a b d);
  extends_too = λ a b k m fa fb d e.
      subst (λ (x : ℕ). (n : ℕ) × Extends number_rules x k n × Dominates number_rules n m) (sym (same a b d)) (m, e, self_dominates m);
  level_no_greater = λ a b fa fb d. subst (λ (x : ℕ). pos a ≤ℤ pos x) (same a b d) (level_same a);
  equal_level_one_cell = λ a b fa fb d e. ap number_rules.cell (same a b d);
}
