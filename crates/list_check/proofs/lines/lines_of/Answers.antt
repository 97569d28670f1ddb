use Rattle.std.proofs.Common.{◌≡◌, ℕ, ◌<◌, ◌==◌, ◌&&◌, ◌||◌, true, false, List, length, take, drop, map, suc, sym, subst, arith}
use Rattle.cert_rules.specs.Meaning.{step_of}
use Rattle.proof_rules.specs.PrefixTrees.{Step, step_at}
use Rattle.list_check.specs.Lines.{AreDifferent, AreLines, has_line}
use Rattle.list_check.proofs.LineLemmas.{lines_more, lines_same, was_new, was_there}
use Rattle.list_check.proofs.StepLemmas.{step_is, step_next, step_split, steps_count}
use Rattle.list_check.proofs.lines.lines_of.Goals as goal

pub returns-then-not-branch : goal.returns-then-not-branch
returns-then-not-branch c =
    let steps = c.args.steps.now in
    let i = c.loop-step.step-index in
    let lines = c.loop-step.lines in
    let xs : List Step = map step_of steps in
    let l : i < length xs = omega (arith, steps_count steps, c.loop-step-test.true) in
    let at = step_is steps i (record { parent = 0; arc = 0 }) c.loop-step-test.true in
    let there : has_line lines (step_at xs i).parent (step_at xs i).arc ≡ true =
    subst (λ (s : Step). has_line lines s.parent s.arc ≡ true) (sym at) (was_there _ _ c.in_ok-put_line.ensures.new c.if-not-branch.true) in
    λ different. lines_same (take i xs) (drop (suc i) xs) (step_at xs i) lines c.loop-step.invariant there (subst AreDifferent (sym (step_split xs i l)) different)

pub loop-step-preserved : goal.loop-step-preserved
loop-step-preserved c =
    let steps = c.args.steps.now in
    let i = c.loop-step.step-index in
    let lines = c.loop-step.lines in
    let more = c.put_line.new.lines in
    let xs : List Step = map step_of steps in
    let l : i < length xs = omega (arith, steps_count steps, c.loop-step-test.true) in
    let at = step_is steps i (record { parent = 0; arc = 0 }) c.loop-step-test.true in
    let none : has_line lines (step_at xs i).parent (step_at xs i).arc ≡ false =
    subst (λ (s : Step). has_line lines s.parent s.arc ≡ false) (sym at) (was_new _ _ c.in_ok-put_line.ensures.new c.if-not-branch.false) in
    let has : (p a : ℕ) → has_line more p a ≡ (((p == (step_at xs i).parent) && (a == (step_at xs i).arc)) || has_line lines p a) =
    subst (λ (s : Step). (p a : ℕ) → has_line more p a ≡ (((p == s.parent) && (a == s.arc)) || has_line lines p a)) (sym at) c.in_ok-put_line.ensures.has in
    subst (λ (ys : List Step). AreLines ys more) (sym (step_next xs i l)) (lines_more (take i xs) (step_at xs i) lines more c.loop-step.invariant none has)
