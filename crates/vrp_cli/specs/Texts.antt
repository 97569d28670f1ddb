-- The texts of answers.
use Rattle.std.specs.Prelude.{ℕ, ℤ, Option, None, Some, List, [], ◌∷◌, ◌++◌, codes}
use Rattle.std.specs.List.{flat_map}
use Rattle.std.specs.Fmt.{decimal, signed_decimal}
use Rattle.route_model.specs.declared.plan.Verdict.{Verdict}
use Rattle.route_model.specs.declared.plan.Verdict.TheVariants.{Fine, NotWalk, Count, Packing, VarBox, RowBox}
use Rattle.line_text.specs.declared.fault.TextFault.{TextFault}
use Rattle.certificate.specs.declared.cert.Goal.{Goal}
use Rattle.certificate.specs.declared.cert.Goal.TheVariants as goal
use Rattle.cert_check.specs.declared.fault.CheckFault.{CheckFault}
use Rattle.cert_check.specs.Kinds.{check_name, check_number}
use Rattle.line_text.specs.Faults.{kind_number, kind_name}
use Rattle.line_text.specs.Spelling.{line}
use Rattle.model_text.specs.PathText.{path_line}
use Rattle.solve_run.specs.declared.outcome.Best.{Best}

-- a word and a cost
abbrev pub cost_line : List ℕ → ℤ → List ℕ
cost_line word cost = line word (signed_decimal cost ∷ [])

-- the best plan that was found: `incumbent COST` and the lines of its paths, or `incumbent none`
abbrev pub incumbent_text : Option Best → List ℕ
incumbent_text None = line (codes "incumbent") (codes "none" ∷ [])
incumbent_text (Some best) = cost_line (codes "incumbent") best.cost ++ flat_map path_line best.plan.paths

-- `KIND limit NUMBER`, `bound BOUND`, then the best plan
abbrev pub limit_text : List ℕ → ℕ → ℤ → Option Best → List ℕ
limit_text kind limit bound best =
    line kind (codes "limit" ∷ decimal limit ∷ []) ++ (cost_line (codes "bound") bound ++ incumbent_text best)

-- `fine COST`
abbrev pub fine_text : ℤ → List ℕ
fine_text cost = cost_line (codes "fine") cost

-- `refused PART LINE NUMBER KIND`
abbrev pub fault_text : List ℕ → TextFault → List ℕ
fault_text part fault =
    line (codes "refused") (part ∷ decimal fault.line ∷ decimal (kind_number fault.kind) ∷ kind_name fault.kind ∷ [])

-- `refused model LINE NUMBER KIND`
abbrev pub refused_model_text : TextFault → List ℕ
refused_model_text fault = fault_text (codes "model") fault

-- `refused paths LINE NUMBER KIND`
abbrev pub refused_paths_text : TextFault → List ℕ
refused_paths_text fault = fault_text (codes "paths") fault

-- `refused certificate LINE NUMBER KIND`, of a text that is no certificate, or of a certificate that is not accepted
abbrev pub no_certificate_text : TextFault → List ℕ
no_certificate_text fault = fault_text (codes "certificate") fault

abbrev pub refused_certificate_text : CheckFault → List ℕ
refused_certificate_text fault =
    line (codes "refused") (codes "certificate" ∷ decimal fault.line ∷ decimal (check_number fault.kind) ∷ check_name fault.kind ∷ [])

-- a claim in words
abbrev pub claim_words : Goal → List (List ℕ)
claim_words (goal.Optimal cost) = codes "optimal" ∷ signed_decimal cost ∷ []
claim_words goal.Infeasible = codes "infeasible" ∷ []

-- `accepted`, then the claim
abbrev pub accepted_text : Goal → List ℕ
accepted_text claim = line (codes "accepted") (claim_words claim)

-- the first fault of a plan, in two words; a plan that is fine has none
abbrev pub plan_fault_words : Verdict → List (List ℕ)
plan_fault_words (Fine cost) = []
plan_fault_words (NotWalk i) = codes "walk" ∷ decimal i ∷ []
plan_fault_words (Count g) = codes "count" ∷ decimal g ∷ []
plan_fault_words (Packing s) = codes "packing" ∷ decimal s ∷ []
plan_fault_words (VarBox j) = codes "variable" ∷ decimal j ∷ []
plan_fault_words (RowBox i) = codes "row" ∷ decimal i ∷ []

-- `refused plan`, then its first fault
abbrev pub refused_plan_text : Verdict → List ℕ
refused_plan_text verdict = line (codes "refused") (codes "plan" ∷ plan_fault_words verdict)
