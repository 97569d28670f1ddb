-- Texts of models and of plans in printed form.
use Rattle.std.specs.Prelude.{◌≡◌, ◌≢◌, ℕ, List, All}
use Rattle.route_model.specs.declared.plan.Plan.{Plan}
use Rattle.route_model.specs.Parts.{ModelParts}
use Rattle.route_model.specs.Fit.{IsModel}
use Rattle.line_text.specs.Spelling.{lines_with_words, IsPrintedText}
use Rattle.model_text.specs.ModelText.{model_text}
use Rattle.model_text.specs.ModelLines.{sets_words}
use Rattle.model_text.specs.Spelling.{Spells}
use Rattle.model_text.specs.PathText.{plan_text, PlanFits, SpellsPlan}

-- a model text in printed form: a text in printed form without the line `sets 0`
pub record IsPrintedModelText (text : List ℕ) : Type 0 where
  pub form : IsPrintedText text
  pub no_sets_zero : All (λ words. words ≢ sets_words 0) (lines_with_words text)

-- of the texts of a model exactly one has the printed form: its printed text
pub record HasOnePrintedText (m : ModelParts) : Type 0 where
  pub printed : IsPrintedModelText (model_text m)
  pub spells : Spells (model_text m) m
  pub only : (text : List ℕ) → IsPrintedModelText text → Spells text m → text ≡ model_text m

abbrev pub PrintedModelLaw : Type 0
PrintedModelLaw = (m : ModelParts) → IsModel m → HasOnePrintedText m

-- the model that a printed text spells is printed as that text again
abbrev pub PrintedAgainLaw : Type 0
PrintedAgainLaw = (m n : ModelParts) → IsModel m → Spells (model_text m) n → model_text n ≡ model_text m

-- the same of the path texts of a plan
pub record HasOnePrintedPathText (plan : Plan) : Type 0 where
  pub printed : IsPrintedText (plan_text plan)
  pub spells : SpellsPlan (plan_text plan) plan
  pub only : (text : List ℕ) → IsPrintedText text → SpellsPlan text plan → text ≡ plan_text plan

abbrev pub PrintedPlanLaw : Type 0
PrintedPlanLaw = (plan : Plan) → PlanFits plan → HasOnePrintedPathText plan
