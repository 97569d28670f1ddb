-- The lines of near lists while they are put together.
use Rattle.std.specs.Prelude.{◌≡◌, ℕ, ◌<◌, ◌⊎◌, IsTrue, List, [], All}
use Rattle.path_graph.specs.declared.set_bits.SetBits.{SetBits}
use Rattle.path_graph.specs.SetBits.{has_set}
use Rattle.line_text.specs.Items.{EachAfter}
use Rattle.certificate.specs.declared.sizes.Sizes.{Sizes}
use Rattle.certificate.specs.CertText.{NearMay}

-- no member is this number or above it
abbrev pub HasAllBelow : ℕ → SetBits → Type 0
HasAllBelow count set = (s : ℕ) → IsTrue (has_set set s) → s < count

-- the text can tell the lines, and each stands before a vertex of a graph
pub record AreLinesBefore (s : Sizes) (lines : List (ℕ × ℕ × SetBits)) (g v : ℕ) : Type 0 where
  pub fits : EachAfter (NearMay s) [] lines
  pub before : All (λ (line : ℕ × ℕ × SetBits). (line.0 < g) ⊎ ((line.0 ≡ g) × (line.1 < v))) lines
