-- Which texts spell which model.
use Rattle.std.specs.Prelude.{◌≡◌, ℕ, ◌⊎◌, List, [], ◌∷◌, map, All, false}
use Rattle.route_model.specs.Parts.{ModelParts}
use Rattle.route_model.specs.Fit.{IsModel}
use Rattle.vrp_lex.specs.Text.{lines_of, has_bad_byte}
use Rattle.line_text.specs.Words.{Words}
use Rattle.line_text.specs.Spelling.{in_printed_form, lines_with_words}
use Rattle.model_text.specs.LineKinds.{version_words}
use Rattle.model_text.specs.ModelLines.{sets_words, model_lines}

-- the line of the sets, which may be left out where there are none
abbrev pub IsSetsPart : ℕ → List Words → Type 0
IsSetsPart sets lines = (lines ≡ sets_words sets ∷ []) ⊎ ((sets ≡ 0) × (lines ≡ []))

-- A text spells a model: its bytes are accepted, the version line comes first, and then its words are those of the model's lines,
-- but for the form of the numbers. The model keeps all limits, and no arcs without main consumption form a cycle.
pub record Spells (text : List ℕ) (m : ModelParts) : Type 0 where
  pub accepted : All (λ line. has_bad_byte line ≡ false) (lines_of text)
  pub lines : List Words
  pub sets : List Words
  pub version : lines_with_words text ≡ version_words ∷ lines
  pub sets_part : IsSetsPart m.sets sets
  pub words : map (map in_printed_form) lines ≡ model_lines m sets
  pub model : IsModel m

abbrev pub SpellsNothing : List ℕ → Type 0
SpellsNothing text = (m : ModelParts) → Spells text m → ⊥
