-- Lemmas on the endings of a run.
use Rattle.std.proofs.Common.{◌≡◌, ℕ, Option, None, Some, ◌-◌, ◌≤◌, List, length, take, drop, Result, Ok, Err, sym, ◌∙◌, ap, subst, refl, arith}
use Rattle.std.specs.Prelude.{IfOk}
use Rattle.std.proofs.lemmas.List.{length-drop, take_all}
use Rattle.std.proofs.KnownBytes.{Consumes-whole}
use Rattle.vrp_io.specs.Bytes.{TookAll}
use Rattle.route_model.specs.Parts.{ModelParts}
use Rattle.route_model.specs.Quantities.{cost_of}
use Rattle.line_text.specs.declared.fault.TextFault.{TextFault}
use Rattle.model_text.specs.ModelEnd.{model_end}
use Rattle.model_text.specs.Spelling.{Spells}
use Rattle.model_text.specs.Refusal.{IsRefusedFor}
use Rattle.command_words.specs.declared.command.Command.{Command}
use Rattle.command_words.specs.declared.command.Command.TheVariants.{Solve, Print, Eval, Check}
use Rattle.command_words.specs.Commands.{AreTaken, Takes}
use Rattle.command_words.proofs.CommandLemmas.{takes_fit}
use Rattle.vrp_cli.specs.declared.limits.TheConstants.{MAX_INPUT}
use Rattle.vrp_cli.specs.declared.answer.Answer.{Answer}
use Rattle.vrp_cli.specs.declared.answer.Answer.TheVariants.{Optimal, Infeasible, LabelLimit, NodeLimit, Printed, Fine, Accepted, RefusedModel, RefusedPaths, RefusedPlan, NoCertificate, RefusedCertificate}
use Rattle.vrp_cli.specs.declared.status.Kept.TheVariants.{Label, Nodes}
use Rattle.vrp_cli.specs.declared.status.Status.{Status}
use Rattle.vrp_cli.specs.Commands.{model_part, second_part}
use Rattle.vrp_cli.specs.Texts.{refused_model_text}
use Rattle.vrp_cli.specs.Solved.{StopsAtLabels, StopsAtNodes, TellsLeast, TellsNone}
use Rattle.vrp_cli.specs.Headline.{Stream, TellsModel, SpellsSolution, ArePathsRefusedFor, IsPlanRefusedFor, NoneCame, ReadWhole, Answers, optimal, infeasible, label_limit, node_limit, printed, fine, model_refused, paths_refused, plan_refused, status_alone}
use Rattle.vrp_cli.specs.Headline.{SpellsProved, IsNoCertificate, IsCertificateRefusedFor, accepted, no_certificate, certificate_refused}
use Rattle.vrp_cli.specs.Answer.{status_of, text_of, RefusesModel, AnswersPaths, AnswersCertificate, AnswersInput, LimitsFitIn}

-- `eval` refuses the text up to the end of its model text
pub refused_there : (input : List ℕ) (end : ℕ) (fault : TextFault) (text : List ℕ) → end ≡ model_end input → IsRefusedFor fault (take end input) → text ≡ refused_model_text fault → RefusesModel Eval input text
refused_there input end fault text is refused told =
    (fault, subst (λ (n : ℕ). IsRefusedFor fault (take n input)) is refused, told)

-- what `eval` answers to the path text behind a model, it answers to the input
pub behind_model : {E : Type 0} (input : List ℕ) (end : ℕ) (m : ModelParts) (r : Result Answer E) → end ≡ model_end input → Spells (take end input) m → IfOk r (AnswersPaths m (take (length input - end) (drop end input))) → IfOk r (AnswersInput Eval input)
behind_model {E} input end m r is spelled answers =
    let rest : take (length input - end) (drop end input) ≡ drop (model_end input) input =
    take_all (length input - end) (drop end input) (omega (arith, length-drop end input)) ∙ ap (λ (n : ℕ). drop n input) is in
    let model = subst (λ (n : ℕ). Spells (take n input) m) is spelled in
    by_result r model (subst (λ (paths : List ℕ). IfOk r (AnswersPaths m paths)) rest answers)
  where
    of_answer : (answer : Answer) → Spells (model_part Eval input) m → AnswersPaths m (second_part input) answer → AnswersInput Eval input answer
    of_answer (RefusedModel text) spelled p = absurd p.2
    of_answer (RefusedPaths text) spelled p = (m, spelled, p)
    of_answer _ spelled p = (m, spelled, p)

    by_result : (r : Result Answer E) → Spells (model_part Eval input) m → IfOk r (AnswersPaths m (second_part input)) → IfOk r (AnswersInput Eval input)
    by_result (Ok answer) spelled p = of_answer answer spelled p
    by_result (Err e) spelled p = p

-- `check` refuses the text up to the end of its model text
pub check_refused_there : (input : List ℕ) (end : ℕ) (fault : TextFault) (text : List ℕ) → end ≡ model_end input → IsRefusedFor fault (take end input) → text ≡ refused_model_text fault → RefusesModel Check input text
check_refused_there input end fault text is refused told =
    (fault, subst (λ (n : ℕ). IsRefusedFor fault (take n input)) is refused, told)

-- what `check` answers to the text of a certificate behind a model, it answers to the input
pub check_behind_model : {E : Type 0} (input : List ℕ) (end : ℕ) (m : ModelParts) (r : Result Answer E) → end ≡ model_end input → Spells (take end input) m → IfOk r (AnswersCertificate m (take (length input - end) (drop end input))) → IfOk r (AnswersInput Check input)
check_behind_model {E} input end m r is spelled answers =
    let rest : take (length input - end) (drop end input) ≡ drop (model_end input) input =
    take_all (length input - end) (drop end input) (omega (arith, length-drop end input)) ∙ ap (λ (n : ℕ). drop n input) is in
    let model = subst (λ (n : ℕ). Spells (take n input) m) is spelled in
    by_result r model (subst (λ (text : List ℕ). IfOk r (AnswersCertificate m text)) rest answers)
  where
    of_answer : (answer : Answer) → Spells (model_part Check input) m → AnswersCertificate m (second_part input) answer → AnswersInput Check input answer
    of_answer (RefusedModel text) spelled p = absurd p.2
    of_answer (NoCertificate text) spelled p = (m, spelled, p)
    of_answer _ spelled p = (m, spelled, p)

    by_result : (r : Result Answer E) → Spells (model_part Check input) m → IfOk r (AnswersCertificate m (second_part input)) → IfOk r (AnswersInput Check input)
    by_result (Ok answer) spelled p = of_answer answer spelled p
    by_result (Err e) spelled p = p

-- words are not taken where no command is answered
pub none_taken : (words : List (List ℕ)) → ((other : Command) → Takes words other → ◌≡◌ {A = Option Command} None (Some other)) → AreTaken words → ⊥
none_taken words only taken = none_some (only taken.0 taken.1)
  where
    none_some : {X : Type 0} {x : X} → ◌≡◌ {A = Option X} None (Some x) → ⊥
    none_some e = cc

-- the words say limits within their ranges
pub fit_in : (words : List (List ℕ)) (command : Command) → Takes words command → LimitsFitIn command
fit_in words (Solve limits) takes = takes_fit words limits takes
fit_in words Print takes = tt
fit_in words Eval takes = tt
fit_in words Check takes = tt

-- what is answered to an input that was read whole
pub answers_input : (words : List (List ℕ)) (old new : Stream) (command : Command) (input : List ℕ) (answer : Answer) → Takes words command → TookAll old.bytes new.bytes input → NoneCame old new → length input ≤ MAX_INPUT → AnswersInput command input answer → Answers words old new (status_of answer) (text_of answer)
answers_input words old new command input answer taken took kept few holds = of_command command answer taken holds
  where
    whole : (P : List ℕ → Type 0) → P input → ReadWhole old new P
    whole P holds = record {
      end = took.end;
      kept = kept;
      input = Consumes-whole old.bytes new.bytes input (λ bytes. (length bytes ≤ MAX_INPUT) × P bytes) took.taken took.end (few, holds);
    }

    -- a text by an equation
    told : (answered : Status) (is text : List ℕ) → text ≡ is → Answers words old new answered is → Answers words old new answered text
    told answered is text e answers = subst (λ (t : List ℕ). Answers words old new answered t) (sym e) answers

    refuses : (command : Command) (text : List ℕ) → Takes words command → RefusesModel command input text → Answers words old new (status_alone 3) text
    refuses command text taken p = told (status_alone 3) _ text p.2 (model_refused command p.0 taken (whole (λ bytes. IsRefusedFor p.0 (model_part command bytes)) p.1))

    of_paths : (m : ModelParts) (answer : Answer) → Takes words Eval → Spells (model_part Eval input) m → AnswersPaths m (second_part input) answer → Answers words old new (status_of answer) (text_of answer)
    of_paths m (RefusedPaths text) taken spelled p = told (status_alone 4) _ text p.3 (paths_refused p.0 taken (whole (ArePathsRefusedFor p.0) (record { model = m; spelled = spelled; first = p.1; none = p.2 })))
    of_paths m (Fine text) taken spelled p = told (status_alone 0) _ text p.2.1 (fine (cost_of m p.0) taken (whole (SpellsSolution (cost_of m p.0)) (record { model = m; spelled = spelled; plan = p.0; planned = p.1; solves = p.2.0; costs = refl })))
    of_paths m (RefusedPlan text) taken spelled p = told (status_alone 4) _ text p.2.3 (plan_refused p.2.0 taken (whole (IsPlanRefusedFor p.2.0) (record { model = m; spelled = spelled; plan = p.0; planned = p.1; unsolved = p.2.2; first = p.2.1 })))
    of_paths m _ taken spelled p = absurd p.2

    of_certificate : (m : ModelParts) (answer : Answer) → Takes words Check → Spells (model_part Check input) m → AnswersCertificate m (second_part input) answer → Answers words old new (status_of answer) (text_of answer)
    of_certificate m (NoCertificate text) taken spelled p = told (status_alone 4) _ text p.3 (no_certificate p.0 taken (whole (IsNoCertificate p.0) (record { model = m; spelled = spelled; first = p.1; none = p.2 })))
    of_certificate m (Accepted text) taken spelled p = told (status_alone 0) _ text p.2.2 (accepted p.0.goal taken (whole (SpellsProved p.0.goal) (record { model = m; spelled = spelled; cert = p.0; certified = p.1; accepted = p.2.0; claimed = refl; holds = p.2.1 })))
    of_certificate m (RefusedCertificate text) taken spelled p = told (status_alone 4) _ text p.2.3 (certificate_refused p.2.0 taken (whole (IsCertificateRefusedFor p.2.0) (record { model = m; spelled = spelled; cert = p.0; certified = p.1; unproved = p.2.2; first = p.2.1 })))
    of_certificate m _ taken spelled p = absurd p.2

    of_command : (command : Command) (answer : Answer) → Takes words command → AnswersInput command input answer → Answers words old new (status_of answer) (text_of answer)
    of_command (Solve limits) (Optimal text) taken p = optimal limits text taken (whole (TellsLeast text) p)
    of_command (Solve limits) (Infeasible text) taken p = infeasible limits text taken (whole (TellsNone text) p)
    of_command (Solve limits) (LabelLimit text wall) taken p =
        told (record { number = 5; kept = Label wall }) _ text p.3 (label_limit limits wall p.0 p.1 taken (whole (StopsAtLabels limits.labels wall p.0 p.1) p.2))
    of_command (Solve limits) (NodeLimit text nodes best) taken p =
        told (record { number = 6; kept = Nodes nodes best }) _ text p.2 (node_limit limits nodes best p.0 taken (whole (StopsAtNodes limits nodes best p.0) p.1))
    of_command (Solve limits) (RefusedModel text) taken p = refuses (Solve limits) text taken p
    of_command (Solve limits) _ taken p = absurd p
    of_command Print (Printed text) taken p = printed text taken (whole (TellsModel text) p)
    of_command Print (RefusedModel text) taken p = refuses Print text taken p
    of_command Print _ taken p = absurd p
    of_command Eval (RefusedModel text) taken p = refuses Eval text taken p
    of_command Eval answer taken p = of_paths p.0 answer taken p.1 p.2
    of_command Check (RefusedModel text) taken p = refuses Check text taken p
    of_command Check answer taken p = of_certificate p.0 answer taken p.1 p.2
