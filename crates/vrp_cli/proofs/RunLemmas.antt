-- What holds of a whole run, by its answer and how it was told.
use Rattle.std.proofs.Common.{◌≡◌, ℕ, ◌≤◌, ◌<◌, inl, inr, List, length, Option, Some, None, IfSome, arith, sym, ◌∙◌, ap}
use Rattle.std.specs.Io.KnownBytes.{Appends}
use Rattle.vrp_io.specs.Counts.{Rose}
use Rattle.vrp_cli.specs.declared.limits.TheConstants.{MAX_INPUT}
use Rattle.vrp_cli.specs.declared.status.Status.{Status}
use Rattle.vrp_cli.specs.Headline.{ReadWhole, Answers, Runs, Stream, status_alone}

if_some : {X : Type 0} (a : Option X) (P Q : X → Type 0) → ((x : X) → P x → Q x) → IfSome a P → IfSome a Q
if_some None P Q f h = h
if_some (Some x) P Q f h = f x h

-- what follows of an input that was read whole
pub on_input : {old new : Stream} {P : List ℕ → Type 0} (Q : List ℕ → Type 0) → ReadWhole old new P → ((input : List ℕ) → length input ≤ MAX_INPUT → P input → Q input) → IfSome old.bytes Q
on_input {old} {new} {P} Q whole next =
    if_some old.bytes (λ input. (length input ≤ MAX_INPUT) × P input) Q (λ input p. next input p.0 p.1) whole.input

-- what holds of an answer that was written, and of one that was not
pub of_run : {words : List (List ℕ)} {a b w v : Stream} {end : Status} (Q : Type 0) → Runs words a b w v end
    → ((answered : Status) (text : List ℕ) → Answers words a b answered text → end ≡ answered → Appends w.bytes v.bytes text → Q)
    → (end ≡ status_alone 8 → Rose w.faults v.faults → Q) → Q
of_run Q run told cut =
    elim run.tells [
      | inl t ↦ told run.answered run.text run.answers t.0 t.1
      | inr t ↦ cut t.0 t.1
    ]

-- the same where the run ended with a number that no fault of writing has
pub of_status : {words : List (List ℕ)} {a b w v : Stream} {end : Status} (Q : Type 0) (number : ℕ) → number < 8 → Runs words a b w v end → end.number ≡ number
    → ((answered : Status) (text : List ℕ) → Answers words a b answered text → end ≡ answered → answered.number ≡ number → Appends w.bytes v.bytes text → Q) → Q
of_status Q number low run e told =
    of_run Q run (λ answered text answers is wrote. told answered text answers is (sym (number_of is) ∙ e) wrote) (λ is rose. absurd (omega (arith, number_of is, e, low)))
  where
    number_of : {x y : Status} → x ≡ y → x.number ≡ y.number
    number_of e = ap (λ (s : Status). s.number) e
