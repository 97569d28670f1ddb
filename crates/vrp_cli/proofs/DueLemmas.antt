-- From a whole run to the status that is due.
use Rattle.std.proofs.Common.{◌≡◌, ℕ, ℤ, ◌+◌, ◌≤◌, ◌<◌, ◌⊎◌, inl, inr, List, length, length-append, Option, Some, None, IfSome, arith, ap, subst, sym}
use Rattle.vrp_io.specs.Counts.{Rose}
use Rattle.vrp_io.specs.Bytes.{TookExactly}
use Rattle.route_model.specs.declared.plan.Plan.{Plan}
use Rattle.route_model.specs.declared.plan.Verdict.{Verdict}
use Rattle.route_model.specs.Parts.{ModelParts}
use Rattle.route_model.specs.Solution.{IsSolution}
use Rattle.line_text.specs.declared.fault.TextFault.{TextFault}
use Rattle.model_text.specs.Spelling.{Spells}
use Rattle.model_text.specs.Refusal.{IsRefusedFor}
use Rattle.model_text.proofs.SpellsLawLemmas.{spells_one}
use Rattle.model_text.proofs.PlanLaws.{spells_one_plan}
use Rattle.certificate.specs.declared.cert.Cert.{Cert}
use Rattle.certificate.specs.declared.cert.Goal.{Goal}
use Rattle.cert_check.specs.declared.fault.CheckFault.{CheckFault}
use Rattle.cert_check.specs.Verdicts.{IsAccepted}
use Rattle.certificate.specs.declared.cert.Node.{Node}
use Rattle.place_nodes.specs.declared.wall.LabelWall.{LabelWall}
use Rattle.solve_run.specs.declared.outcome.Best.{Best}
use Rattle.solve_run.specs.declared.outcome.Limits.{Limits}
use Rattle.command_words.specs.declared.command.Command.{Command}
use Rattle.command_words.specs.declared.command.Command.TheVariants.{Solve, Print, Eval, Check}
use Rattle.command_words.specs.Commands.{Takes}
use Rattle.command_words.proofs.CommandLemmas.{one_command}
use Rattle.vrp_cli.specs.declared.limits.TheConstants.{MAX_INPUT}
use Rattle.vrp_cli.specs.declared.status.Status.{Status}
use Rattle.vrp_cli.specs.Commands.{model_part, second_part}
use Rattle.vrp_cli.specs.Solved.{StopsAtLabels, StopsAtNodes, TellsLeast, TellsNone}
use Rattle.vrp_cli.specs.Headline.{TellsModel, SpellsSolution, ArePathsRefusedFor, IsPlanRefusedFor, SpellsProved, IsNoCertificate, IsCertificateRefusedFor, Answers, optimal, infeasible, label_limit, node_limit, printed, fine, words_refused, model_refused, paths_refused, plan_refused, accepted, no_certificate, certificate_refused, read_failed, no_memory, too_long, Runs, Stream}
use Rattle.vrp_cli.specs.Endings.{IsDueOn, IsDue}
use Rattle.vrp_cli.proofs.RunLemmas.{on_input, of_run}

long_input : (command : Command) (a b : Option (List ℕ)) (end : ℕ) → TookExactly a b (MAX_INPUT + 1) → end ≡ 10 → IfSome a (IsDue command end)
long_input command None b end took is = tt
long_input command (Some input) None end took is = absurd took.taken
long_input command (Some input) (Some rest) end took is =
    let more : MAX_INPUT < length input = omega (arith, ap (λ (xs : List ℕ). length xs) took.taken, length-append took.bytes rest, took.count_is) in (
      λ long. is,
      λ short none. absurd (omega (arith, more, short)),
      λ m short spelled. absurd (omega (arith, more, short)),
    )

-- the model text spells a model, on which the status is due
spelled_due : (command : Command) (end : ℕ) (input : List ℕ) (m : ModelParts) → length input ≤ MAX_INPUT → Spells (model_part command input) m → IsDueOn command m (second_part input) end → IsDue command end input
spelled_due command end input m few spelled due = (
  λ long. absurd (omega (arith, long, few)),
  λ short none. absurd (none m spelled),
  λ n short other. subst (λ (x : ModelParts). IsDueOn command x (second_part input) end) (spells_one (model_part command input) m n spelled other) due,
)

optimal_due : (limits : Limits) (end : ℕ) (text input : List ℕ) → end ≡ 0 → length input ≤ MAX_INPUT → TellsLeast text input → IsDue (Solve limits) end input
optimal_due limits end text input is few p =
    spelled_due (Solve limits) end input p.model few p.spelled (λ none. absurd (none p.plan p.least.solution), λ plan solves. inl is)

infeasible_due : (limits : Limits) (end : ℕ) (text input : List ℕ) → end ≡ 1 → length input ≤ MAX_INPUT → TellsNone text input → IsDue (Solve limits) end input
infeasible_due limits end text input is few p =
    spelled_due (Solve limits) end input p.model few p.spelled (λ none. inl is, λ plan solves. absurd (p.none plan solves))

labels_due : (limits : Limits) (wall : LabelWall) (best : Option Best) (bound : ℤ) (end : ℕ) (input : List ℕ) → end ≡ 5 → length input ≤ MAX_INPUT → StopsAtLabels limits.labels wall best bound input → IsDue (Solve limits) end input
labels_due limits wall best bound end input is few p =
    spelled_due (Solve limits) end input p.model few p.spelled (λ none. inr (inl (is, p.passes)), λ plan solves. inr (inl (is, p.passes)))

nodes_due : (limits : Limits) (nodes : List Node) (best : Option Best) (bound : ℤ) (end : ℕ) (input : List ℕ) → end ≡ 6 → length input ≤ MAX_INPUT → StopsAtNodes limits nodes best bound input → IsDue (Solve limits) end input
nodes_due limits nodes best bound end input is few p =
    spelled_due (Solve limits) end input p.model few p.spelled (λ none. inr (inr (is, p.passes)), λ plan solves. inr (inr (is, p.passes)))

printed_due : (end : ℕ) (text input : List ℕ) → end ≡ 0 → length input ≤ MAX_INPUT → TellsModel text input → IsDue Print end input
printed_due end text input is few p = spelled_due Print end input p.model few p.spelled is

fine_due : (end : ℕ) (cost : ℤ) (input : List ℕ) → end ≡ 0 → length input ≤ MAX_INPUT → SpellsSolution cost input → IsDue Eval end input
fine_due end cost input is few p =
    spelled_due Eval end input p.model few p.spelled (
      λ none. absurd (none p.plan p.planned),
      λ plan planned unsolved. absurd (unsolved (subst (λ (x : Plan). IsSolution p.model x) (spells_one_plan (second_part input) p.plan plan p.planned planned) p.solves)),
      λ plan planned solves. is,
    )

paths_due : (end : ℕ) (fault : TextFault) (input : List ℕ) → end ≡ 4 → length input ≤ MAX_INPUT → ArePathsRefusedFor fault input → IsDue Eval end input
paths_due end fault input is few p =
    spelled_due Eval end input p.model few p.spelled (
      λ none. is,
      λ plan planned unsolved. absurd (p.none plan planned),
      λ plan planned solves. absurd (p.none plan planned),
    )

plan_due : (end : ℕ) (verdict : Verdict) (input : List ℕ) → end ≡ 4 → length input ≤ MAX_INPUT → IsPlanRefusedFor verdict input → IsDue Eval end input
plan_due end verdict input is few p =
    spelled_due Eval end input p.model few p.spelled (
      λ none. is,
      λ plan planned unsolved. is,
      λ plan planned solves. absurd (p.unsolved (subst (λ (x : Plan). IsSolution p.model x) (spells_one_plan (second_part input) plan p.plan planned p.planned) solves)),
    )

accepted_due : (end : ℕ) (claim : Goal) (input : List ℕ) → end ≡ 0 → length input ≤ MAX_INPUT → SpellsProved claim input → IsDue Check end input
accepted_due end claim input is few p =
    spelled_due Check end input p.model few p.spelled (
      λ none. absurd (none p.cert p.certified.spelled),
      λ cert spelled unproved. absurd (unproved (subst (λ (x : Cert). IsAccepted p.model x) (sym (p.certified.only cert spelled)) p.accepted)),
      λ cert spelled proved. is,
    )

no_certificate_due : (end : ℕ) (fault : TextFault) (input : List ℕ) → end ≡ 4 → length input ≤ MAX_INPUT → IsNoCertificate fault input → IsDue Check end input
no_certificate_due end fault input is few p =
    spelled_due Check end input p.model few p.spelled (
      λ none. is,
      λ cert spelled unproved. absurd (p.none cert spelled),
      λ cert spelled proved. absurd (p.none cert spelled),
    )

certificate_due : (end : ℕ) (fault : CheckFault) (input : List ℕ) → end ≡ 4 → length input ≤ MAX_INPUT → IsCertificateRefusedFor fault input → IsDue Check end input
certificate_due end fault input is few p =
    spelled_due Check end input p.model few p.spelled (
      λ none. is,
      λ cert spelled unproved. is,
      λ cert spelled proved. absurd (p.unproved (subst (λ (x : Cert). IsAccepted p.model x) (p.certified.only cert spelled) proved)),
    )

refused_due : (command : Command) (end : ℕ) (fault : TextFault) (input : List ℕ) → end ≡ 3 → length input ≤ MAX_INPUT → IsRefusedFor fault (model_part command input) → IsDue command end input
refused_due command end fault input is few p = (
  λ long. absurd (omega (arith, long, few)),
  λ short none. is,
  λ m short spelled. absurd (p.1 m spelled),
)

pub due_of : {words : List (List ℕ)} {a b w v : Stream} {end : Status} → Runs words a b w v end → (command : Command) → Takes words command → (Rose a.faults b.faults → ⊥) → (Rose w.faults v.faults → ⊥)
    → (end.number ≡ 9) ⊎ IfSome a.bytes (IsDue command end.number)
due_of {words} {a} {b} {w} {v} {end} run command taken no_read no_write =
    of_run ((end.number ≡ 9) ⊎ IfSome a.bytes (IsDue command end.number)) run (λ answered text answers is wrote. from answered text answers (ap (λ (s : Status). s.number) is)) (λ is rose. absurd (no_write rose))
  where
    -- what is due for the command that the answer names
    of_command : (named : Command) → Takes words named → IfSome a.bytes (IsDue named end.number) → (end.number ≡ 9) ⊎ IfSome a.bytes (IsDue command end.number)
    of_command named known due = inr (subst (λ (c : Command). IfSome a.bytes (IsDue c end.number)) (one_command words named command known taken) due)

    from : (answered : Status) (text : List ℕ) → Answers words a b answered text → end.number ≡ answered.number → (end.number ≡ 9) ⊎ IfSome a.bytes (IsDue command end.number)
    from answered text (optimal limits told known whole) is =
        of_command (Solve limits) known (on_input (IsDue (Solve limits) end.number) whole (λ input few p. optimal_due limits end.number told input is few p))
    from answered text (infeasible limits told known whole) is =
        of_command (Solve limits) known (on_input (IsDue (Solve limits) end.number) whole (λ input few p. infeasible_due limits end.number told input is few p))
    from answered text (label_limit limits wall best bound known whole) is =
        of_command (Solve limits) known (on_input (IsDue (Solve limits) end.number) whole (λ input few p. labels_due limits wall best bound end.number input is few p))
    from answered text (node_limit limits nodes best bound known whole) is =
        of_command (Solve limits) known (on_input (IsDue (Solve limits) end.number) whole (λ input few p. nodes_due limits nodes best bound end.number input is few p))
    from answered text (printed told known whole) is = of_command Print known (on_input (IsDue Print end.number) whole (λ input few p. printed_due end.number told input is few p))
    from answered text (fine cost known whole) is = of_command Eval known (on_input (IsDue Eval end.number) whole (λ input few p. fine_due end.number cost input is few p))
    from answered text (words_refused untaken) is = absurd (untaken (command, taken))
    from answered text (model_refused named fault known whole) is = of_command named known (on_input (IsDue named end.number) whole (λ input few p. refused_due named end.number fault input is few p))
    from answered text (paths_refused fault known whole) is = of_command Eval known (on_input (IsDue Eval end.number) whole (λ input few p. paths_due end.number fault input is few p))
    from answered text (plan_refused verdict known whole) is = of_command Eval known (on_input (IsDue Eval end.number) whole (λ input few p. plan_due end.number verdict input is few p))
    from answered text (accepted claim known whole) is = of_command Check known (on_input (IsDue Check end.number) whole (λ input few p. accepted_due end.number claim input is few p))
    from answered text (no_certificate fault known whole) is = of_command Check known (on_input (IsDue Check end.number) whole (λ input few p. no_certificate_due end.number fault input is few p))
    from answered text (certificate_refused fault known whole) is = of_command Check known (on_input (IsDue Check end.number) whole (λ input few p. certificate_due end.number fault input is few p))
    from answered text (read_failed known rose) is = absurd (no_read rose)
    from answered text (no_memory known took kept) is = inl is
    from answered text (too_long known took kept) is = inr (long_input command a.bytes b.bytes end.number took is)
