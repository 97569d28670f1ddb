-- Multipliers that are all 0.
use Rattle.std.specs.Prelude.{◌≡◌, ℕ, ℤ, pos, ◌+ℤ◌, List, []}
use Rattle.path_graph.specs.Fit.{int_at}
use Rattle.route_model.specs.declared.multipliers.Mult.{Mult}
use Rattle.route_model.specs.declared.places.Span.{Span}
use Rattle.route_model.specs.declared.places.Spot.{Spot}
use Rattle.route_model.specs.Parts.{ModelParts}
use Rattle.multipliers.specs.Quantities.{base}
use Rattle.proof_rules.specs.Counts.{Walk}
use Rattle.proof_rules.specs.Nodes.{count_terms}
use Rattle.proof_rules.specs.NodeWalls.{no_mult}

-- each is 0, and there is none of a cut
pub record AreZeros (mult : Mult) : Type 0 where
  pub vars : (j : ℕ) → int_at mult.vars j ≡ pos 0
  pub rows : (i : ℕ) → int_at mult.rows i ≡ pos 0
  pub sets : (s : ℕ) → int_at mult.sets s ≡ pos 0
  pub paths : (g : ℕ) → int_at mult.paths g ≡ pos 0
  pub cuts : mult.cuts ≡ []

-- the bound that they prove of counts in boxes: the terms of the place and of the listed walks together
abbrev pub zero_bound : ModelParts → Spot → List Walk → List Span → ℤ
zero_bound m spot walks boxes = base m [] spot.boxes no_mult +ℤ count_terms m no_mult walks boxes
