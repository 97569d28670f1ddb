-- From a whole run to what each status says.
use Rattle.std.proofs.Common.{◌≡◌, ℕ, ◌+◌, ◌⊎◌, inl, inr, List, IfSome, arith, sym, ap, ◌∙◌}
use Rattle.std.specs.Io.KnownBytes.{Appends}
use Rattle.vrp_io.specs.Counts.{Rose}
use Rattle.vrp_io.specs.Bytes.{TookExactly}
use Rattle.solve_run.specs.declared.outcome.Limits.{Limits}
use Rattle.command_words.specs.declared.command.Command.{Command}
use Rattle.command_words.specs.declared.command.Command.TheVariants.{Solve, Print, Eval, Check}
use Rattle.command_words.specs.Commands.{Takes, AreTaken}
use Rattle.command_words.proofs.CommandLemmas.{one_command}
use Rattle.vrp_cli.specs.declared.limits.TheConstants.{MAX_INPUT}
use Rattle.vrp_cli.specs.declared.status.Kept.{Kept}
use Rattle.vrp_cli.specs.declared.status.Status.{Status}
use Rattle.vrp_cli.specs.Commands.{model_part}
use Rattle.vrp_cli.specs.Headline.{Answers, optimal, infeasible, label_limit, node_limit, printed, fine, words_refused, model_refused, paths_refused, plan_refused, accepted, no_certificate, certificate_refused, read_failed, no_memory, too_long, Runs, Stream}
use Rattle.vrp_cli.specs.Endings.{WroteLeast, WroteNone, WroteLabelLimit, WroteNodeLimit, WroteModel, WroteCost, WroteClaim, WroteFault, WrotePlanFault, WroteCertificateFault, IsKeptBy}
use Rattle.vrp_cli.proofs.RunLemmas.{on_input, of_run, of_status}

apart : {Q : Type 0} (words : List (List ℕ)) (c d : Command) → Takes words c → Takes words d → (c ≡ d → ⊥) → Q
apart words c d p q other = absurd (other (one_command words c d p q))

kept_as : {x y : Status} → x ≡ y → x.kept ≡ y.kept
kept_as e = ap (λ (s : Status). s.kept) e

pub optimal_of : {words : List (List ℕ)} {a b w v : Stream} {end : Status} → Runs words a b w v end → (limits : Limits) → Takes words (Solve limits) → end.number ≡ 0 → IfSome a.bytes (WroteLeast w.bytes v.bytes)
optimal_of {words} {a} {b} {w} {v} {end} run limits command e = of_status (IfSome a.bytes (WroteLeast w.bytes v.bytes)) 0 (omega arith) run e from
  where
    from : (answered : Status) (text : List ℕ) → Answers words a b answered text → end ≡ answered → answered.number ≡ 0 → Appends w.bytes v.bytes text → IfSome a.bytes (WroteLeast w.bytes v.bytes)
    from answered text (optimal other told taken whole) end_is is wrote = on_input (WroteLeast w.bytes v.bytes) whole (λ input few p. (told, p, wrote))
    from answered text (printed told taken whole) end_is is wrote = apart words (Solve limits) Print command taken (λ same. cc)
    from answered text (fine cost taken whole) end_is is wrote = apart words (Solve limits) Eval command taken (λ same. cc)
    from answered text (accepted claim taken whole) end_is is wrote = apart words (Solve limits) Check command taken (λ same. cc)
    from _ _ _ end_is is wrote = absurd (omega (arith, is))

pub print_of : {words : List (List ℕ)} {a b w v : Stream} {end : Status} → Runs words a b w v end → Takes words Print → end.number ≡ 0 → IfSome a.bytes (WroteModel w.bytes v.bytes)
print_of {words} {a} {b} {w} {v} {end} run command e = of_status (IfSome a.bytes (WroteModel w.bytes v.bytes)) 0 (omega arith) run e from
  where
    from : (answered : Status) (text : List ℕ) → Answers words a b answered text → end ≡ answered → answered.number ≡ 0 → Appends w.bytes v.bytes text → IfSome a.bytes (WroteModel w.bytes v.bytes)
    from answered text (optimal limits told taken whole) end_is is wrote = apart words Print (Solve limits) command taken (λ same. cc)
    from answered text (printed told taken whole) end_is is wrote = on_input (WroteModel w.bytes v.bytes) whole (λ input few p. (told, p, wrote))
    from answered text (fine cost taken whole) end_is is wrote = apart words Print Eval command taken (λ same. cc)
    from answered text (accepted claim taken whole) end_is is wrote = apart words Print Check command taken (λ same. cc)
    from _ _ _ end_is is wrote = absurd (omega (arith, is))

pub fine_of : {words : List (List ℕ)} {a b w v : Stream} {end : Status} → Runs words a b w v end → Takes words Eval → end.number ≡ 0 → IfSome a.bytes (WroteCost w.bytes v.bytes)
fine_of {words} {a} {b} {w} {v} {end} run command e = of_status (IfSome a.bytes (WroteCost w.bytes v.bytes)) 0 (omega arith) run e from
  where
    from : (answered : Status) (text : List ℕ) → Answers words a b answered text → end ≡ answered → answered.number ≡ 0 → Appends w.bytes v.bytes text → IfSome a.bytes (WroteCost w.bytes v.bytes)
    from answered text (optimal limits told taken whole) end_is is wrote = apart words Eval (Solve limits) command taken (λ same. cc)
    from answered text (printed told taken whole) end_is is wrote = apart words Eval Print command taken (λ same. cc)
    from answered text (fine cost taken whole) end_is is wrote = on_input (WroteCost w.bytes v.bytes) whole (λ input few p. (cost, p, wrote))
    from answered text (accepted claim taken whole) end_is is wrote = apart words Eval Check command taken (λ same. cc)
    from _ _ _ end_is is wrote = absurd (omega (arith, is))

pub accepted_of : {words : List (List ℕ)} {a b w v : Stream} {end : Status} → Runs words a b w v end → Takes words Check → end.number ≡ 0 → IfSome a.bytes (WroteClaim w.bytes v.bytes)
accepted_of {words} {a} {b} {w} {v} {end} run command e = of_status (IfSome a.bytes (WroteClaim w.bytes v.bytes)) 0 (omega arith) run e from
  where
    from : (answered : Status) (text : List ℕ) → Answers words a b answered text → end ≡ answered → answered.number ≡ 0 → Appends w.bytes v.bytes text → IfSome a.bytes (WroteClaim w.bytes v.bytes)
    from answered text (optimal limits told taken whole) end_is is wrote = apart words Check (Solve limits) command taken (λ same. cc)
    from answered text (printed told taken whole) end_is is wrote = apart words Check Print command taken (λ same. cc)
    from answered text (fine cost taken whole) end_is is wrote = apart words Check Eval command taken (λ same. cc)
    from answered text (accepted claim taken whole) end_is is wrote = on_input (WroteClaim w.bytes v.bytes) whole (λ input few p. (claim, p, wrote))
    from _ _ _ end_is is wrote = absurd (omega (arith, is))

pub infeasible_of : {words : List (List ℕ)} {a b w v : Stream} {end : Status} → Runs words a b w v end → end.number ≡ 1 → (limits : Limits) × Takes words (Solve limits) × IfSome a.bytes (WroteNone w.bytes v.bytes)
infeasible_of {words} {a} {b} {w} {v} {end} run e = of_status ((limits : Limits) × Takes words (Solve limits) × IfSome a.bytes (WroteNone w.bytes v.bytes)) 1 (omega arith) run e from
  where
    from : (answered : Status) (text : List ℕ) → Answers words a b answered text → end ≡ answered → answered.number ≡ 1 → Appends w.bytes v.bytes text
        → (limits : Limits) × Takes words (Solve limits) × IfSome a.bytes (WroteNone w.bytes v.bytes)
    from answered text (infeasible limits told taken whole) end_is is wrote = (limits, taken, on_input (WroteNone w.bytes v.bytes) whole (λ input few p. (told, p, wrote)))
    from _ _ _ end_is is wrote = absurd (omega (arith, is))

-- the search met a limit
abbrev MetLabels : List (List ℕ) → Kept → Stream → Stream → Stream → Type 0
MetLabels words kept a w v = (limits : Limits) × Takes words (Solve limits) × IfSome a.bytes (WroteLabelLimit limits kept w.bytes v.bytes)

abbrev MetNodes : List (List ℕ) → Kept → Stream → Stream → Stream → Type 0
MetNodes words kept a w v = (limits : Limits) × Takes words (Solve limits) × IfSome a.bytes (WroteNodeLimit limits kept w.bytes v.bytes)

pub labels_of : {words : List (List ℕ)} {a b w v : Stream} {end : Status} → Runs words a b w v end → end.number ≡ 5 → (limits : Limits) × Takes words (Solve limits) × IfSome a.bytes (WroteLabelLimit limits end.kept w.bytes v.bytes)
labels_of {words} {a} {b} {w} {v} {end} run e = of_status (MetLabels words end.kept a w v) 5 (omega arith) run e from
  where
    from : (answered : Status) (text : List ℕ) → Answers words a b answered text → end ≡ answered → answered.number ≡ 5 → Appends w.bytes v.bytes text → MetLabels words end.kept a w v
    from answered text (label_limit limits wall best bound taken whole) end_is is wrote =
        (limits, taken, on_input (WroteLabelLimit limits end.kept w.bytes v.bytes) whole (λ input few p. (wall, best, bound, kept_as end_is, p, wrote)))
    from _ _ _ end_is is wrote = absurd (omega (arith, is))

pub nodes_of : {words : List (List ℕ)} {a b w v : Stream} {end : Status} → Runs words a b w v end → end.number ≡ 6 → (limits : Limits) × Takes words (Solve limits) × IfSome a.bytes (WroteNodeLimit limits end.kept w.bytes v.bytes)
nodes_of {words} {a} {b} {w} {v} {end} run e = of_status (MetNodes words end.kept a w v) 6 (omega arith) run e from
  where
    from : (answered : Status) (text : List ℕ) → Answers words a b answered text → end ≡ answered → answered.number ≡ 6 → Appends w.bytes v.bytes text → MetNodes words end.kept a w v
    from answered text (node_limit limits nodes best bound taken whole) end_is is wrote =
        (limits, taken, on_input (WroteNodeLimit limits end.kept w.bytes v.bytes) whole (λ input few p. (nodes, best, bound, kept_as end_is, p, wrote)))
    from _ _ _ end_is is wrote = absurd (omega (arith, is))

pub kept_of : {words : List (List ℕ)} {a b w v : Stream} {end : Status} → Runs words a b w v end → IsKeptBy end.number end.kept
kept_of {words} {a} {b} {w} {v} {end} run =
    of_run (IsKeptBy end.number end.kept) run (λ answered text answers is wrote. from answered text answers is) (λ is rose. inl (kept_as is))
  where
    from : (answered : Status) (text : List ℕ) → Answers words a b answered text → end ≡ answered → IsKeptBy end.number end.kept
    from answered text (label_limit limits wall best bound taken whole) is = inr (inl (ap (λ (s : Status). s.number) is))
    from answered text (node_limit limits nodes best bound taken whole) is = inr (inr (ap (λ (s : Status). s.number) is))
    from answered text (optimal limits told taken whole) is = inl (kept_as is)
    from answered text (infeasible limits told taken whole) is = inl (kept_as is)
    from answered text (printed told taken whole) is = inl (kept_as is)
    from answered text (fine cost taken whole) is = inl (kept_as is)
    from answered text (words_refused untaken) is = inl (kept_as is)
    from answered text (model_refused command fault taken whole) is = inl (kept_as is)
    from answered text (paths_refused fault taken whole) is = inl (kept_as is)
    from answered text (plan_refused verdict taken whole) is = inl (kept_as is)
    from answered text (accepted claim taken whole) is = inl (kept_as is)
    from answered text (no_certificate fault taken whole) is = inl (kept_as is)
    from answered text (certificate_refused fault taken whole) is = inl (kept_as is)
    from answered text (read_failed taken rose) is = inl (kept_as is)
    from answered text (no_memory taken took kept) is = inl (kept_as is)
    from answered text (too_long taken took kept) is = inl (kept_as is)

pub words_of : {words : List (List ℕ)} {a b w v : Stream} {end : Status} → Runs words a b w v end → end.number ≡ 2 → AreTaken words → ⊥
words_of {words} {a} {b} {w} {v} {end} run e taken = of_status ⊥ 2 (omega arith) run e from
  where
    from : (answered : Status) (text : List ℕ) → Answers words a b answered text → end ≡ answered → answered.number ≡ 2 → Appends w.bytes v.bytes text → ⊥
    from answered text (words_refused untaken) end_is is wrote = untaken taken
    from _ _ _ end_is is wrote = omega (arith, is)

pub model_of : {words : List (List ℕ)} {a b w v : Stream} {end : Status} → Runs words a b w v end → end.number ≡ 3 → (command : Command) × Takes words command × IfSome a.bytes (λ input. WroteFault w.bytes v.bytes (model_part command input))
model_of {words} {a} {b} {w} {v} {end} run e = of_status ((command : Command) × Takes words command × IfSome a.bytes (λ input. WroteFault w.bytes v.bytes (model_part command input))) 3 (omega arith) run e from
  where
    from : (answered : Status) (text : List ℕ) → Answers words a b answered text → end ≡ answered → answered.number ≡ 3 → Appends w.bytes v.bytes text
        → (command : Command) × Takes words command × IfSome a.bytes (λ input. WroteFault w.bytes v.bytes (model_part command input))
    from answered text (model_refused command fault taken whole) end_is is wrote = (command, taken, on_input (λ input. WroteFault w.bytes v.bytes (model_part command input)) whole (λ input few p. (fault, p, wrote)))
    from _ _ _ end_is is wrote = absurd (omega (arith, is))

-- the second part is refused: that of `eval`, or that of `check`
abbrev IsRefused : List (List ℕ) → Stream → Stream → Stream → Type 0
IsRefused words a w v =
    (Takes words Eval × IfSome a.bytes (WrotePlanFault w.bytes v.bytes))
    ⊎ (Takes words Check × IfSome a.bytes (WroteCertificateFault w.bytes v.bytes))

pub refused_of : {words : List (List ℕ)} {a b w v : Stream} {end : Status} → Runs words a b w v end → end.number ≡ 4
    → (Takes words Eval × IfSome a.bytes (WrotePlanFault w.bytes v.bytes)) ⊎ (Takes words Check × IfSome a.bytes (WroteCertificateFault w.bytes v.bytes))
refused_of {words} {a} {b} {w} {v} {end} run e = of_status (IsRefused words a w v) 4 (omega arith) run e from
  where
    from : (answered : Status) (text : List ℕ) → Answers words a b answered text → end ≡ answered → answered.number ≡ 4 → Appends w.bytes v.bytes text → IsRefused words a w v
    from answered text (paths_refused fault taken whole) end_is is wrote = inl (taken, on_input (WrotePlanFault w.bytes v.bytes) whole (λ input few p. inl (fault, p, wrote)))
    from answered text (plan_refused verdict taken whole) end_is is wrote = inl (taken, on_input (WrotePlanFault w.bytes v.bytes) whole (λ input few p. inr (verdict, p, wrote)))
    from answered text (no_certificate fault taken whole) end_is is wrote = inr (taken, on_input (WroteCertificateFault w.bytes v.bytes) whole (λ input few p. inl (fault, p, wrote)))
    from answered text (certificate_refused fault taken whole) end_is is wrote = inr (taken, on_input (WroteCertificateFault w.bytes v.bytes) whole (λ input few p. inr (fault, p, wrote)))
    from _ _ _ end_is is wrote = absurd (omega (arith, is))

pub read_of : {words : List (List ℕ)} {a b w v : Stream} {end : Status} → Runs words a b w v end → end.number ≡ 7 → Rose a.faults b.faults
read_of {words} {a} {b} {w} {v} {end} run e = of_status (Rose a.faults b.faults) 7 (omega arith) run e from
  where
    from : (answered : Status) (text : List ℕ) → Answers words a b answered text → end ≡ answered → answered.number ≡ 7 → Appends w.bytes v.bytes text → Rose a.faults b.faults
    from answered text (read_failed taken rose) end_is is wrote = rose
    from _ _ _ end_is is wrote = absurd (omega (arith, is))

number_as : {x y : Status} (n : ℕ) → x ≡ y → x.number ≡ n → y.number ≡ n
number_as n e is = sym (ap (λ (s : Status). s.number) e) ∙ is

pub write_of : {words : List (List ℕ)} {a b w v : Stream} {end : Status} → Runs words a b w v end → end.number ≡ 8 → Rose w.faults v.faults
write_of {words} {a} {b} {w} {v} {end} run e = of_run (Rose w.faults v.faults) run (λ answered text answers is wrote. from answered text answers (number_as 8 is e)) (λ is rose. rose)
  where
    from : (answered : Status) (text : List ℕ) → Answers words a b answered text → answered.number ≡ 8 → Rose w.faults v.faults
    from answered text (words_refused untaken) is = absurd (omega (arith, is))
    from _ _ _ is = absurd (omega (arith, is))

pub long_of : {words : List (List ℕ)} {a b w v : Stream} {end : Status} → Runs words a b w v end → end.number ≡ 10 → TookExactly a.bytes b.bytes (MAX_INPUT + 1)
long_of {words} {a} {b} {w} {v} {end} run e =
    of_run (TookExactly a.bytes b.bytes (MAX_INPUT + 1)) run (λ answered text answers is wrote. from answered text answers (number_as 10 is e)) (λ is rose. absurd (omega (arith, number_as 10 is e)))
  where
    from : (answered : Status) (text : List ℕ) → Answers words a b answered text → answered.number ≡ 10 → TookExactly a.bytes b.bytes (MAX_INPUT + 1)
    from answered text (too_long taken took kept) is = took
    from _ _ _ is = absurd (omega (arith, is))

pub unread_of : {words : List (List ℕ)} {a b w v : Stream} {end : Status} → Runs words a b w v end → (AreTaken words → ⊥) → (end.number ≡ 2) ⊎ (end.number ≡ 8)
unread_of {words} {a} {b} {w} {v} {end} run not_taken =
    of_run ((end.number ≡ 2) ⊎ (end.number ≡ 8)) run (λ answered text answers is wrote. from answered text answers is) (λ is rose. inr (ap (λ (s : Status). s.number) is))
  where
    of_command : (command : Command) → Takes words command → (end.number ≡ 2) ⊎ (end.number ≡ 8)
    of_command command taken = absurd (not_taken (command, taken))

    from : (answered : Status) (text : List ℕ) → Answers words a b answered text → end ≡ answered → (end.number ≡ 2) ⊎ (end.number ≡ 8)
    from answered text (optimal limits told taken whole) is = of_command (Solve limits) taken
    from answered text (infeasible limits told taken whole) is = of_command (Solve limits) taken
    from answered text (label_limit limits wall best bound taken whole) is = of_command (Solve limits) taken
    from answered text (node_limit limits nodes best bound taken whole) is = of_command (Solve limits) taken
    from answered text (printed told taken whole) is = of_command Print taken
    from answered text (fine cost taken whole) is = of_command Eval taken
    from answered text (words_refused untaken) is = inl (ap (λ (s : Status). s.number) is)
    from answered text (model_refused command fault taken whole) is = of_command command taken
    from answered text (paths_refused fault taken whole) is = of_command Eval taken
    from answered text (plan_refused verdict taken whole) is = of_command Eval taken
    from answered text (accepted claim taken whole) is = of_command Check taken
    from answered text (no_certificate fault taken whole) is = of_command Check taken
    from answered text (certificate_refused fault taken whole) is = of_command Check taken
    from answered text (read_failed taken rose) is = absurd (not_taken taken)
    from answered text (no_memory taken took kept) is = absurd (not_taken taken)
    from answered text (too_long taken took kept) is = absurd (not_taken taken)
