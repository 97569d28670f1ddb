-- How a run of the program ends, and what each ending says.
use Rattle.std.specs.Prelude.{◌≡◌, Bool, ℕ, ◌+◌, ◌≤◌, ◌⊎◌, ℤ, List, length, codes, Option, IfSome}
use Rattle.std.specs.Io.KnownBytes.{IsAtEnd, Appends}
use Rattle.vrp_io.specs.Counts.{Rose, Kept}
use Rattle.vrp_io.specs.Bytes.{TookAtMost, TookExactly, AppendedPrefix}
use Rattle.route_model.specs.declared.plan.Plan.{Plan}
use Rattle.route_model.specs.declared.plan.Verdict.{Verdict}
use Rattle.route_model.specs.Parts.{ModelParts}
use Rattle.route_model.specs.Quantities.{cost_of}
use Rattle.route_model.specs.Solution.{IsSolution}
use Rattle.route_model.specs.Verdicts.{IsVerdict}
use Rattle.line_text.specs.declared.fault.TextFault.{TextFault}
use Rattle.model_text.specs.ModelText.{model_text}
use Rattle.model_text.specs.Spelling.{Spells}
use Rattle.model_text.specs.Refusal.{IsRefusedFor}
use Rattle.model_text.specs.PathText.{SpellsPlan, SpellsNoPlan}
use Rattle.model_text.specs.PathFault.{IsFirstPathFault}
use Rattle.proof_rules.specs.Validity.{Holds}
use Rattle.certificate.specs.declared.cert.Cert.{Cert}
use Rattle.certificate.specs.declared.cert.Goal.{Goal}
use Rattle.certificate.specs.declared.cert.Node.{Node}
use Rattle.certificate.specs.Spelling.{SpellsNoCert}
use Rattle.certificate.specs.Reading.{IsFirstCertFault}
use Rattle.cert_rules.specs.Meaning.{claim_of}
use Rattle.cert_check.specs.declared.fault.CheckFault.{CheckFault}
use Rattle.cert_check.specs.Verdicts.{IsAccepted, IsFirstFault}
use Rattle.place_nodes.specs.declared.wall.LabelWall.{LabelWall}
use Rattle.solve_run.specs.declared.outcome.Best.{Best}
use Rattle.solve_run.specs.declared.outcome.Limits.{Limits}
use Rattle.command_words.specs.declared.command.Command.{Command}
use Rattle.command_words.specs.declared.command.Command.TheVariants.{Solve, Print, Eval, Check}
use Rattle.command_words.specs.Commands.{Takes, AreTaken}
use Rattle.vrp_cli.specs.declared.limits.TheConstants.{MAX_INPUT}
use Rattle.vrp_cli.specs.declared.status.Kept.TheVariants.{Nothing, Label, Nodes}
use Rattle.vrp_cli.specs.declared.status.Status.{Status}
use Rattle.vrp_cli.specs.Commands.{model_part, second_part}
use Rattle.vrp_cli.specs.Texts.{fine_text, limit_text, refused_model_text}
use Rattle.vrp_cli.specs.Texts.{refused_paths_text, refused_plan_text}
use Rattle.vrp_cli.specs.Texts.{accepted_text, no_certificate_text, refused_certificate_text}
use Rattle.vrp_cli.specs.Solved.{SpellsOnly, StopsAtLabels, StopsAtNodes, TellsLeast, TellsNone}

-- the input spells a model, and the text is the printed text of that model
pub record TellsModel (text input : List ℕ) : Type 0 where
  pub model : ModelParts
  pub spelled : Spells input model
  pub told : text ≡ model_text model

-- the input of `eval` spells a model, and behind it a plan that is a solution of this cost
pub record SpellsSolution (cost : ℤ) (input : List ℕ) : Type 0 where
  pub model : ModelParts
  pub spelled : Spells (model_part Eval input) model
  pub plan : Plan
  pub planned : SpellsPlan (second_part input) plan
  pub solves : IsSolution model plan
  pub costs : cost ≡ cost_of model plan

-- the input of `eval` spells a model, and behind it no plan: this is the first fault there
pub record ArePathsRefusedFor (fault : TextFault) (input : List ℕ) : Type 0 where
  pub model : ModelParts
  pub spelled : Spells (model_part Eval input) model
  pub first : IsFirstPathFault (second_part input) fault
  pub none : SpellsNoPlan (second_part input)

-- the input of `eval` spells a model, and behind it a plan that is no solution: this is its first fault
pub record IsPlanRefusedFor (verdict : Verdict) (input : List ℕ) : Type 0 where
  pub model : ModelParts
  pub spelled : Spells (model_part Eval input) model
  pub plan : Plan
  pub planned : SpellsPlan (second_part input) plan
  pub unsolved : ¬ (IsSolution model plan)
  pub first : IsVerdict model plan verdict

-- the input of `check` spells a model, and behind it a certificate with this claim that is accepted; and what it claims holds
pub record SpellsProved (claim : Goal) (input : List ℕ) : Type 0 where
  pub model : ModelParts
  pub spelled : Spells (model_part Check input) model
  pub cert : Cert
  pub certified : SpellsOnly model (second_part input) cert
  pub accepted : IsAccepted model cert
  pub claimed : cert.goal ≡ claim
  pub holds : Holds model (claim_of cert)

-- the input of `check` spells a model, and behind it no certificate: this is the first fault there
pub record IsNoCertificate (fault : TextFault) (input : List ℕ) : Type 0 where
  pub model : ModelParts
  pub spelled : Spells (model_part Check input) model
  pub first : IsFirstCertFault model (second_part input) fault
  pub none : SpellsNoCert model (second_part input)

-- the input of `check` spells a model, and behind it a certificate that is not accepted: this is its first fault
pub record IsCertificateRefusedFor (fault : CheckFault) (input : List ℕ) : Type 0 where
  pub model : ModelParts
  pub spelled : Spells (model_part Check input) model
  pub cert : Cert
  pub certified : SpellsOnly model (second_part input) cert
  pub unproved : ¬ (IsAccepted model cert)
  pub first : IsFirstFault model cert fault

-- a stream at a moment: the bytes that it has left, or holds, where it tells them; its count of faults;
-- whether it answers each fault that it counts
pub record Stream : Type 0 where
  pub bytes : Option (List ℕ)
  pub faults : ℕ
  pub answers_each : Bool

abbrev pub stream : Option (List ℕ) → ℕ → Bool → Stream
stream bytes faults answers_each = record { bytes = bytes; faults = faults; answers_each = answers_each }

-- no fault came, of a stream that answers each
abbrev pub NoneCame : Stream → Stream → Type 0
NoneCame before after = Kept before.answers_each before.faults after.faults

-- the input was read to its end without a fault; where the source tells it, it is no longer than one may be,
-- and P holds of it
pub record ReadWhole (before after : Stream) (P : List ℕ → Type 0) : Type 0 where
  pub end : IsAtEnd after.bytes
  pub kept : NoneCame before after
  pub input : IfSome before.bytes (λ input. (length input ≤ MAX_INPUT) × P input)

-- a status that keeps nothing
abbrev pub status_alone : ℕ → Status
status_alone number = record { number = number; kept = Nothing }

-- an answer, as a status and a text, to words and to what was read of a source: one rule for each ending
pub data Answers (words : List (List ℕ)) (before after : Stream) : Status → List ℕ → Type 0 where
  optimal : (limits : Limits) (text : List ℕ) → Takes words (Solve limits) → ReadWhole before after (TellsLeast text)
      → Answers words before after (status_alone 0) text
  infeasible : (limits : Limits) (text : List ℕ) → Takes words (Solve limits) → ReadWhole before after (TellsNone text)
      → Answers words before after (status_alone 1) text
  label_limit : (limits : Limits) (wall : LabelWall) (best : Option Best) (bound : ℤ) → Takes words (Solve limits)
      → ReadWhole before after (StopsAtLabels limits.labels wall best bound)
      → Answers words before after (record { number = 5; kept = Label wall }) (limit_text (codes "label") limits.labels bound best)
  node_limit : (limits : Limits) (nodes : List Node) (best : Option Best) (bound : ℤ) → Takes words (Solve limits)
      → ReadWhole before after (StopsAtNodes limits nodes best bound)
      → Answers words before after (record { number = 6; kept = Nodes nodes best }) (limit_text (codes "node") limits.nodes bound best)
  printed : (text : List ℕ) → Takes words Print → ReadWhole before after (TellsModel text)
      → Answers words before after (status_alone 0) text
  fine : (cost : ℤ) → Takes words Eval → ReadWhole before after (SpellsSolution cost)
      → Answers words before after (status_alone 0) (fine_text cost)
  words_refused : (AreTaken words → ⊥)
      → Answers words before after (status_alone 2) (codes "refused words\n")
  model_refused : (command : Command) (fault : TextFault) → Takes words command
      → ReadWhole before after (λ input. IsRefusedFor fault (model_part command input))
      → Answers words before after (status_alone 3) (refused_model_text fault)
  paths_refused : (fault : TextFault) → Takes words Eval → ReadWhole before after (ArePathsRefusedFor fault)
      → Answers words before after (status_alone 4) (refused_paths_text fault)
  plan_refused : (verdict : Verdict) → Takes words Eval → ReadWhole before after (IsPlanRefusedFor verdict)
      → Answers words before after (status_alone 4) (refused_plan_text verdict)
  accepted : (claim : Goal) → Takes words Check → ReadWhole before after (SpellsProved claim)
      → Answers words before after (status_alone 0) (accepted_text claim)
  no_certificate : (fault : TextFault) → Takes words Check → ReadWhole before after (IsNoCertificate fault)
      → Answers words before after (status_alone 4) (no_certificate_text fault)
  certificate_refused : (fault : CheckFault) → Takes words Check → ReadWhole before after (IsCertificateRefusedFor fault)
      → Answers words before after (status_alone 4) (refused_certificate_text fault)
  read_failed : AreTaken words → Rose before.faults after.faults
      → Answers words before after (status_alone 7) (codes "fault read\n")
  no_memory : AreTaken words → TookAtMost before.bytes after.bytes MAX_INPUT → NoneCame before after
      → Answers words before after (status_alone 9) (codes "fault memory\n")
  too_long : AreTaken words → TookExactly before.bytes after.bytes (MAX_INPUT + 1) → NoneCame before after
      → Answers words before after (status_alone 10) (codes "refused input too long\n")

-- the whole text was written without a fault, and the run ended with its status; or a write failed after
-- a prefix of it
abbrev pub Tells : Stream → Stream → Status → List ℕ → Status → Type 0
Tells before after answered text end =
    ((end ≡ answered) × Appends before.bytes after.bytes text × NoneCame before after)
    ⊎ ((end ≡ status_alone 8) × Rose before.faults after.faults × AppendedPrefix before.bytes after.bytes text)

-- a run: an answer to the words and the source, and how it was told to the sink
pub record Runs (words : List (List ℕ)) (source source_new sink sink_new : Stream) (end : Status) : Type 0 where
  pub answered : Status
  pub text : List ℕ
  pub answers : Answers words source source_new answered text
  pub tells : Tells sink sink_new answered text end
