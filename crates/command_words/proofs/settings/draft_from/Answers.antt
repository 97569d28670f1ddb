use Rattle.std.proofs.Common.{◌<◌, ◌≤◌, ℕ, List, length, map, drop, string_bytes, None, subst, sym, arith}
use Rattle.std.proofs.lemmas.List.{length-map, drop-drop}
use Rattle.command_words.specs.Settings.{IsReadUpTo, MatchSettings}
use Rattle.command_words.proofs.ReadLemmas.{begin_draft, past_end, read_start, read_end, read_next, named_words, none_named, none_twice, some_left}
use Rattle.command_words.proofs.settings.draft_from.Goals as goal

pub loop-at-init : goal.loop-at-init
loop-at-init c = read_start (drop c.args.first (map string_bytes c.args.words.now)) (record { workers = None; labels = None; nodes = None }) begin_draft

pub returns-in_err-named : goal.returns-in_err-named
returns-in_err-named c =
    let words = map string_bytes c.args.words.now in
    let within : c.loop-at.at < length (map string_bytes c.args.words.now) = omega (arith, c.loop-at-test.true, length-map c.args.words.now string_bytes) in
    subst (MatchSettings (drop c.args.first words)) (sym c.from_residual.ensures)
    (none_named (drop c.args.first words) (drop c.loop-at.at words) c.loop-at.draft c.loop-at.invariant (some_left words c.loop-at.at within) c.in_err-named.ensures)

pub returns-in_err-draft : goal.returns-in_err-draft
returns-in_err-draft c =
    let words = map string_bytes c.args.words.now in
    subst (MatchSettings (drop c.args.first words)) (sym c.from_residual-in_err-draft.ensures)
    (none_twice (drop c.args.first words) (drop c.loop-at.at words) c.loop-at.draft c.in_ok-named.named c.loop-at.invariant c.in_ok-named.ensures c.in_err-draft.ensures)

pub loop-at-smaller : goal.loop-at-smaller
loop-at-smaller c =
    let some = named_words (drop c.loop-at.at (map string_bytes c.args.words.now)) c.in_ok-named.named c.in_ok-named.ensures in
    omega (arith, some.0, c.loop-at-test.true)

pub loop-at-preserved : goal.loop-at-preserved
loop-at-preserved c =
    let words = map string_bytes c.args.words.now in
    subst (λ (l : List (List ℕ)). IsReadUpTo (drop c.args.first words) l c.in_ok-draft.draft) (drop-drop c.in_ok-named.named.words c.loop-at.at words)
    (read_next (drop c.args.first words) (drop c.loop-at.at words) c.loop-at.draft c.in_ok-draft.draft c.in_ok-named.named c.loop-at.invariant c.in_ok-named.ensures c.in_ok-draft.ensures)

pub returns : goal.returns
returns c =
    let words = map string_bytes c.args.words.now in
    let past : length (map string_bytes c.args.words.now) ≤ c.loop-at.at = omega (arith, c.loop-at-test.false, length-map c.args.words.now string_bytes) in
    read_end (drop c.args.first words) c.loop-at.draft (subst (λ (l : List (List ℕ)). IsReadUpTo (drop c.args.first words) l c.loop-at.draft) (past_end words c.loop-at.at past) c.loop-at.invariant)
