-- What was written where a run ends with a status, and which status is due.
use Rattle.std.specs.Prelude.{◌≡◌, ℕ, ◌<◌, ◌≤◌, ◌⊎◌, ℤ, List, length, codes, Option}
use Rattle.std.specs.Io.KnownBytes.{Appends}
use Rattle.route_model.specs.declared.plan.Plan.{Plan}
use Rattle.route_model.specs.declared.plan.Verdict.{Verdict}
use Rattle.route_model.specs.Parts.{ModelParts}
use Rattle.route_model.specs.Solution.{IsSolution, HasNoSolution}
use Rattle.line_text.specs.declared.fault.TextFault.{TextFault}
use Rattle.model_text.specs.Spelling.{Spells, SpellsNothing}
use Rattle.model_text.specs.Refusal.{IsRefusedFor}
use Rattle.model_text.specs.PathText.{SpellsPlan, SpellsNoPlan}
use Rattle.certificate.specs.declared.cert.Cert.{Cert}
use Rattle.certificate.specs.declared.cert.Goal.{Goal}
use Rattle.certificate.specs.Spelling.{SpellsCert, SpellsNoCert}
use Rattle.cert_check.specs.declared.fault.CheckFault.{CheckFault}
use Rattle.cert_check.specs.Verdicts.{IsAccepted}
use Rattle.certificate.specs.declared.cert.Node.{Node}
use Rattle.place_nodes.specs.declared.wall.LabelWall.{LabelWall}
use Rattle.search_steps.specs.Passed.{PassesLabels, PassesNodes}
use Rattle.solve_run.specs.declared.outcome.Best.{Best}
use Rattle.solve_run.specs.declared.outcome.Limits.{Limits}
use Rattle.command_words.specs.declared.command.Command.{Command}
use Rattle.command_words.specs.declared.command.Command.TheVariants.{Solve, Print, Eval, Check}
use Rattle.vrp_cli.specs.declared.limits.TheConstants.{MAX_INPUT}
use Rattle.vrp_cli.specs.declared.status.Kept.{Kept}
use Rattle.vrp_cli.specs.declared.status.Kept.TheVariants.{Nothing, Label, Nodes}
use Rattle.vrp_cli.specs.Commands.{model_part, second_part}
use Rattle.vrp_cli.specs.Texts.{fine_text, limit_text, refused_model_text, refused_paths_text, refused_plan_text}
use Rattle.vrp_cli.specs.Texts.{accepted_text, no_certificate_text, refused_certificate_text}
use Rattle.vrp_cli.specs.Solved.{StopsAtLabels, StopsAtNodes, TellsLeast, TellsNone}
use Rattle.vrp_cli.specs.Headline.{TellsModel, SpellsSolution, ArePathsRefusedFor, IsPlanRefusedFor}
use Rattle.vrp_cli.specs.Headline.{SpellsProved, IsNoCertificate, IsCertificateRefusedFor}

-- what was written is a certificate of a least solution of the model that the input spells
abbrev pub WroteLeast : Option (List ℕ) → Option (List ℕ) → List ℕ → Type 0
WroteLeast old new input = (text : List ℕ) × TellsLeast text input × Appends old new text

-- what was written is a certificate that the model that the input spells has no solution
abbrev pub WroteNone : Option (List ℕ) → Option (List ℕ) → List ℕ → Type 0
WroteNone old new input = (text : List ℕ) × TellsNone text input × Appends old new text

-- what was written is the limit of labels, a bound and the best plan, and why labels were not enough is kept
abbrev pub WroteLabelLimit : Limits → Kept → Option (List ℕ) → Option (List ℕ) → List ℕ → Type 0
WroteLabelLimit limits kept old new input =
    (wall : LabelWall) × (best : Option Best) × (bound : ℤ) × (kept ≡ Label wall) × StopsAtLabels limits.labels wall best bound input
    × Appends old new (limit_text (codes "label") limits.labels bound best)

-- what was written is the limit of nodes, the bound of those that are kept, and the best plan, which is kept too
abbrev pub WroteNodeLimit : Limits → Kept → Option (List ℕ) → Option (List ℕ) → List ℕ → Type 0
WroteNodeLimit limits kept old new input =
    (nodes : List Node) × (best : Option Best) × (bound : ℤ) × (kept ≡ Nodes nodes best) × StopsAtNodes limits nodes best bound input
    × Appends old new (limit_text (codes "node") limits.nodes bound best)

-- only a limit keeps something
abbrev pub IsKeptBy : ℕ → Kept → Type 0
IsKeptBy number kept = (kept ≡ Nothing) ⊎ (number ≡ 5) ⊎ (number ≡ 6)

-- what was written is the printed text of the model that the input spells
abbrev pub WroteModel : Option (List ℕ) → Option (List ℕ) → List ℕ → Type 0
WroteModel old new input = (text : List ℕ) × TellsModel text input × Appends old new text

-- what was written is the cost of the solution that the input spells behind its model
abbrev pub WroteCost : Option (List ℕ) → Option (List ℕ) → List ℕ → Type 0
WroteCost old new input = (cost : ℤ) × SpellsSolution cost input × Appends old new (fine_text cost)

-- what was written is the first fault of the text, which spells no model
abbrev pub WroteFault : Option (List ℕ) → Option (List ℕ) → List ℕ → Type 0
WroteFault old new text = (fault : TextFault) × IsRefusedFor fault text × Appends old new (refused_model_text fault)

-- what was written is the first fault behind the model: of a text that spells no plan, or of a plan that is no solution
abbrev pub WrotePlanFault : Option (List ℕ) → Option (List ℕ) → List ℕ → Type 0
WrotePlanFault old new input =
    ((fault : TextFault) × ArePathsRefusedFor fault input × Appends old new (refused_paths_text fault))
    ⊎ ((verdict : Verdict) × IsPlanRefusedFor verdict input × Appends old new (refused_plan_text verdict))

-- what was written is the claim of the certificate that the input spells behind its model, and the claim holds
abbrev pub WroteClaim : Option (List ℕ) → Option (List ℕ) → List ℕ → Type 0
WroteClaim old new input = (claim : Goal) × SpellsProved claim input × Appends old new (accepted_text claim)

-- what was written is the first fault behind the model: of a text that spells no certificate, or of a certificate that is
-- not accepted
abbrev pub WroteCertificateFault : Option (List ℕ) → Option (List ℕ) → List ℕ → Type 0
WroteCertificateFault old new input =
    ((fault : TextFault) × IsNoCertificate fault input × Appends old new (no_certificate_text fault))
    ⊎ ((fault : CheckFault) × IsCertificateRefusedFor fault input × Appends old new (refused_certificate_text fault))

-- a search ends with this status, or at a limit that the model passes: it has more feasible partial walks, or more rests, than
-- the limit of labels; or, at the limit of nodes, more nodes are enough than that limit
abbrev pub IsSolvedWith : ℕ → Limits → ModelParts → ℕ → Type 0
IsSolvedWith number limits m end =
    (end ≡ number) ⊎ ((end ≡ 5) × PassesLabels m limits.labels)
    ⊎ ((end ≡ 6) × (PassesLabels m limits.labels ⊎ PassesNodes m limits.nodes))

-- the status that is due on a model and the text behind it, which `eval` and `check` alone read
abbrev pub IsDueOn : Command → ModelParts → List ℕ → ℕ → Type 0
IsDueOn (Solve limits) m paths end =
    (HasNoSolution m → IsSolvedWith 1 limits m end)
    × ((plan : Plan) → IsSolution m plan → IsSolvedWith 0 limits m end)
IsDueOn Print m paths end = end ≡ 0
IsDueOn Eval m paths end =
    (SpellsNoPlan paths → end ≡ 4)
    × ((plan : Plan) → SpellsPlan paths plan → ¬ (IsSolution m plan) → end ≡ 4)
    × ((plan : Plan) → SpellsPlan paths plan → IsSolution m plan → end ≡ 0)
IsDueOn Check m text end =
    (SpellsNoCert m text → end ≡ 4)
    × ((cert : Cert) → SpellsCert m text cert → ¬ (IsAccepted m cert) → end ≡ 4)
    × ((cert : Cert) → SpellsCert m text cert → IsAccepted m cert → end ≡ 0)

-- the status that is due on an input: by its length, then by whether it spells a model, then by the command
abbrev pub IsDue : Command → ℕ → List ℕ → Type 0
IsDue command end input =
    (MAX_INPUT < length input → end ≡ 10)
    × (length input ≤ MAX_INPUT → SpellsNothing (model_part command input) → end ≡ 3)
    × ((m : ModelParts) → length input ≤ MAX_INPUT → Spells (model_part command input) m → IsDueOn command m (second_part input) end)
