-- The laws of a space of labels.
use Rattle.std.specs.Prelude.{◌≡◌, ℕ, ◌<◌, ◌≤ℤ◌}
use Rattle.label_space.specs.Rules.{Rules, Fits, Dominates, Extends}

-- The labels of a space stay labels over every choice, and dominance is an order that
-- every choice keeps: what a label may still become its dominator becomes at least as well.
-- The level never rises from a label to its dominator, and stands still in one cell alone.
pub record IsLawful {L : Type 0} (r : Rules L) : Type 0 where
  pub root_fits : Fits r r.root
  pub cell_within : (l : L) → Fits r l → r.cell l < r.cells
  pub extension_fits : (l : L) (k : ℕ) (m : L) → Fits r l → Extends r l k m → Fits r m
  pub reflexive : (a : L) → Fits r a → Dominates r a a
  pub transitive : (a b c : L) → Fits r a → Fits r b → Fits r c
      → Dominates r a b → Dominates r b c → Dominates r a c
  pub same_degree : (a b : L) → Fits r a → Fits r b → Dominates r a b → r.degree a ≡ r.degree b
  pub extends_too : (a b : L) (k : ℕ) (m : L) → Fits r a → Fits r b → Dominates r a b
      → Extends r b k m → (n : L) × Extends r a k n × Dominates r n m
  pub level_no_greater : (a b : L) → Fits r a → Fits r b → Dominates r a b
      → r.level a ≤ℤ r.level b
  pub equal_level_one_cell : (a b : L) → Fits r a → Fits r b → Dominates r a b
      → r.level a ≡ r.level b → r.cell a ≡ r.cell b
