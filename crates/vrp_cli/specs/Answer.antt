-- The status and the text of an answer, and what one says of the input.
use Rattle.std.specs.Prelude.{◌≡◌, ℕ, ℤ, Option, List, codes}
use Rattle.route_model.specs.declared.plan.Plan.{Plan}
use Rattle.route_model.specs.declared.plan.Verdict.{Verdict}
use Rattle.route_model.specs.Parts.{ModelParts}
use Rattle.route_model.specs.Quantities.{cost_of}
use Rattle.route_model.specs.Solution.{IsSolution}
use Rattle.route_model.specs.Verdicts.{IsVerdict}
use Rattle.line_text.specs.declared.fault.TextFault.{TextFault}
use Rattle.model_text.specs.Spelling.{Spells}
use Rattle.model_text.specs.Refusal.{IsRefusedFor}
use Rattle.model_text.specs.PathText.{SpellsPlan, SpellsNoPlan}
use Rattle.model_text.specs.PathFault.{IsFirstPathFault}
use Rattle.proof_rules.specs.Validity.{Holds}
use Rattle.certificate.specs.declared.cert.Cert.{Cert}
use Rattle.certificate.specs.declared.cert.Node.{Node}
use Rattle.certificate.specs.Spelling.{SpellsNoCert}
use Rattle.certificate.specs.Reading.{IsFirstCertFault}
use Rattle.cert_rules.specs.Meaning.{claim_of}
use Rattle.cert_check.specs.declared.fault.CheckFault.{CheckFault}
use Rattle.cert_check.specs.Verdicts.{IsAccepted, IsFirstFault}
use Rattle.place_nodes.specs.declared.wall.LabelWall.{LabelWall}
use Rattle.solve_run.specs.declared.outcome.Best.{Best}
use Rattle.solve_run.specs.declared.outcome.Limits.{Limits}
use Rattle.solve_run.specs.Limits.{LimitsFit}
use Rattle.command_words.specs.declared.command.Command.{Command}
use Rattle.command_words.specs.declared.command.Command.TheVariants.{Solve, Print, Eval, Check}
use Rattle.vrp_cli.specs.declared.answer.Answer.{Answer}
use Rattle.vrp_cli.specs.declared.answer.Answer.TheVariants.{Optimal, Infeasible, LabelLimit, NodeLimit, Printed, Fine, Accepted, RefusedWords, RefusedModel, RefusedPaths, RefusedPlan, NoCertificate, RefusedCertificate, FailedRead, OutOfMemory, TooLong}
use Rattle.vrp_cli.specs.declared.status.Kept.TheVariants.{Label, Nodes}
use Rattle.vrp_cli.specs.declared.status.Status.{Status}
use Rattle.vrp_cli.specs.Commands.{model_part, second_part}
use Rattle.vrp_cli.specs.Texts.{fine_text, limit_text, refused_model_text, refused_paths_text, refused_plan_text}
use Rattle.vrp_cli.specs.Texts.{accepted_text, no_certificate_text, refused_certificate_text}
use Rattle.vrp_cli.specs.Solved.{SpellsOnly, StopsAtLabels, StopsAtNodes, TellsLeast, TellsNone}
use Rattle.vrp_cli.specs.Headline.{TellsModel, status_alone}

abbrev pub status_of : Answer → Status
status_of (Optimal text) = status_alone 0
status_of (Infeasible text) = status_alone 1
status_of (LabelLimit text wall) = record { number = 5; kept = Label wall }
status_of (NodeLimit text nodes best) = record { number = 6; kept = Nodes nodes best }
status_of (Printed text) = status_alone 0
status_of (Fine text) = status_alone 0
status_of (Accepted text) = status_alone 0
status_of RefusedWords = status_alone 2
status_of (RefusedModel text) = status_alone 3
status_of (RefusedPaths text) = status_alone 4
status_of (RefusedPlan text) = status_alone 4
status_of (NoCertificate text) = status_alone 4
status_of (RefusedCertificate text) = status_alone 4
status_of FailedRead = status_alone 7
status_of OutOfMemory = status_alone 9
status_of TooLong = status_alone 10

abbrev pub text_of : Answer → List ℕ
text_of (Optimal text) = text
text_of (Infeasible text) = text
text_of (LabelLimit text wall) = text
text_of (NodeLimit text nodes best) = text
text_of (Printed text) = text
text_of (Fine text) = text
text_of (Accepted text) = text
text_of RefusedWords = codes "refused words\n"
text_of (RefusedModel text) = text
text_of (RefusedPaths text) = text
text_of (RefusedPlan text) = text
text_of (NoCertificate text) = text
text_of (RefusedCertificate text) = text
text_of FailedRead = codes "fault read\n"
text_of OutOfMemory = codes "fault memory\n"
text_of TooLong = codes "refused input too long\n"

-- the text refuses an input, whose model text spells no model
abbrev pub RefusesModel : Command → List ℕ → List ℕ → Type 0
RefusesModel command input text =
    (fault : TextFault) × IsRefusedFor fault (model_part command input) × (text ≡ refused_model_text fault)

-- an answer to a plan
abbrev pub AnswersPlan : ModelParts → Plan → Answer → Type 0
AnswersPlan m plan (Fine text) = IsSolution m plan × (text ≡ fine_text (cost_of m plan))
AnswersPlan m plan (RefusedPlan text) =
    (verdict : Verdict) × IsVerdict m plan verdict × (¬ (IsSolution m plan)) × (text ≡ refused_plan_text verdict)
AnswersPlan m plan answer = ⊥

-- an answer to a path text behind a model
abbrev pub AnswersPaths : ModelParts → List ℕ → Answer → Type 0
AnswersPaths m paths (RefusedPaths text) =
    (fault : TextFault) × IsFirstPathFault paths fault × SpellsNoPlan paths × (text ≡ refused_paths_text fault)
AnswersPaths m paths answer = (plan : Plan) × SpellsPlan paths plan × AnswersPlan m plan answer

-- an answer to a certificate
abbrev pub AnswersClaim : ModelParts → Cert → Answer → Type 0
AnswersClaim m cert (Accepted text) = IsAccepted m cert × Holds m (claim_of cert) × (text ≡ accepted_text cert.goal)
AnswersClaim m cert (RefusedCertificate text) =
    (fault : CheckFault) × IsFirstFault m cert fault × (¬ (IsAccepted m cert)) × (text ≡ refused_certificate_text fault)
AnswersClaim m cert answer = ⊥

-- an answer to the text of a certificate behind a model
abbrev pub AnswersCertificate : ModelParts → List ℕ → Answer → Type 0
AnswersCertificate m certificate (NoCertificate text) =
    (fault : TextFault) × IsFirstCertFault m certificate fault × SpellsNoCert m certificate × (text ≡ no_certificate_text fault)
AnswersCertificate m certificate answer = (cert : Cert) × SpellsOnly m certificate cert × AnswersClaim m cert answer

-- an answer of a search at a limit
abbrev pub AnswersLabels : Limits → List ℕ → List ℕ → LabelWall → Type 0
AnswersLabels limits input text wall =
    (best : Option Best) × (bound : ℤ) × StopsAtLabels limits.labels wall best bound input
    × (text ≡ limit_text (codes "label") limits.labels bound best)

abbrev pub AnswersNodes : Limits → List ℕ → List ℕ → List Node → Option Best → Type 0
AnswersNodes limits input text nodes best =
    (bound : ℤ) × StopsAtNodes limits nodes best bound input × (text ≡ limit_text (codes "node") limits.nodes bound best)

-- an answer that a command has to an input that was read whole
abbrev pub AnswersInput : Command → List ℕ → Answer → Type 0
AnswersInput (Solve limits) input (Optimal text) = TellsLeast text input
AnswersInput (Solve limits) input (Infeasible text) = TellsNone text input
AnswersInput (Solve limits) input (LabelLimit text wall) = AnswersLabels limits input text wall
AnswersInput (Solve limits) input (NodeLimit text nodes best) = AnswersNodes limits input text nodes best
AnswersInput (Solve limits) input (RefusedModel text) = RefusesModel (Solve limits) input text
AnswersInput (Solve limits) input answer = ⊥
AnswersInput Print input (Printed text) = TellsModel text input
AnswersInput Print input (RefusedModel text) = RefusesModel Print input text
AnswersInput Print input answer = ⊥
AnswersInput Eval input (RefusedModel text) = RefusesModel Eval input text
AnswersInput Eval input answer =
    (m : ModelParts) × Spells (model_part Eval input) m × AnswersPaths m (second_part input) answer
AnswersInput Check input (RefusedModel text) = RefusesModel Check input text
AnswersInput Check input answer =
    (m : ModelParts) × Spells (model_part Check input) m × AnswersCertificate m (second_part input) answer

-- the limits of a command, if it has some, are within their ranges
abbrev pub LimitsFitIn : Command → Type 0
LimitsFitIn (Solve limits) = LimitsFit limits
LimitsFitIn command = Unit {0}
