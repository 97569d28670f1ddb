-- States and costs are a lawful space.
use Rattle.std.proofs.Common.{◌≡◌, ◌<◌, ◌≤◌, ◌+◌, ℕ, Some, sym, ap, ◌∙◌, subst, refl, arith}
use Rattle.std.specs.Prelude.{pos, ◌≤ℤ◌, ◌==◌, nat_le, true}
use Rattle.std.proofs.lemmas.Int.{ints}
use Rattle.std.proofs.lemmas.Bool.Decides.{nat_tests}
use Rattle.std.proofs.lemmas.Grind.{common_steps}
use Rattle.label_space.specs.Rules.{Fits, Dominates, Extends}
use Rattle.label_space.specs.Laws.{IsLawful}
use Rattle.labels_tests.specs.declared.costs.Paid.{Paid}
use Rattle.labels_tests.specs.Costs.{cost_rules, choices, next_label}

same_state : (a b : Paid) → Dominates cost_rules a b → a.state ≡ b.state
same_state a b d = grind (arith, nat_tests, common_steps)

within : (l : Paid) → Fits cost_rules l → l.state < 4
within l f = grind (arith, nat_tests, common_steps)

next_fits : (s k : ℕ) → k < choices s → Fits cost_rules (next_label s k)
next_fits s k h = grind (arith, nat_tests, common_steps)

self_dominates : (a : Paid) → Dominates cost_rules a a
self_dominates a = grind (arith, nat_tests, common_steps)

through : (a b c : Paid) → Dominates cost_rules a b → Dominates cost_rules b c → Dominates cost_rules a c
through a b c d e = grind (arith, nat_tests, common_steps)

extension : (l : Paid) (k : ℕ) (m : Paid) → Extends cost_rules l k m → next_label l.state k ≡ m
extension l k m e = (cc)

level_same : (n : ℕ) → pos n ≤ℤ pos n
level_same n = omega (arith, ints)

-- states and costs are lawful
pub cost_lawful : IsLawful cost_rules
cost_lawful = record {
  root_fits = refl;
  cell_within = within;
  extension_fits = λ l k m f e. subst (λ x. Fits cost_rules x) (extension l k m e) (next_fits l.state k e.0);
  reflexive = λ a f. self_dominates a;
  transitive = λ a b c fa fb fc d e. through a b c d e;
  same_degree = λ a b fa fb d. ap choices (same_state a b d);
  extends_too = λ a b k m fa fb d e.
      let s = same_state a b d in
      (m, (subst (λ n. k < choices n) (sym s) e.0, ap (λ n. Some (next_label n k)) s ∙ e.1), self_dominates m);
  level_no_greater = λ a b fa fb d. subst (λ n. pos a.state ≤ℤ pos n) (same_state a b d) (level_same a.state);
  equal_level_one_cell = λ a b fa fb d e. same_state a b d;
}
