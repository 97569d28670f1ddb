use Rattle.std.proofs.Common.{◌≡◌, ◌-◌, ◌<◌, ◌++◌, ◌∷◌, [], ℕ, List, length, get_or, map, reverse, suc, ap, subst, arith}
use Rattle.cert_rules.specs.Meaning.{step_of}
use Rattle.proof_rules.specs.PrefixTrees.{Step, prefix_of as prefix_in}
use Rattle.list_check.proofs.StepLemmas.{prefix_back, step_is, steps_count}
use Rattle.list_check.proofs.walks.prefix_of.Goals as goal

pub loop-at-smaller : goal.loop-at-smaller
loop-at-smaller c =
    let steps = c.args.steps.now in
    let n : ℕ = c.loop-at.at - 1 in
    let l : n < length steps = omega (arith, c.loop-at.invariant.0, c.loop-at-test.true) in
    let low = c.requires.parents n l in
    let at = ap (λ (s : Step). s.parent) (step_is steps n (record { parent = 0; arc = 0 }) l) in
    omega (arith, low, at, c.loop-at-test.true)

pub loop-at-preserved : goal.loop-at-preserved
loop-at-preserved c =
    let steps = c.args.steps.now in
    let n : ℕ = c.loop-at.at - 1 in
    let xs : List Step = map step_of steps in
    let l : n < length steps = omega (arith, c.loop-at.invariant.0, c.loop-at-test.true) in
    let low = c.requires.parents n l in
    let is = step_is steps n (record { parent = 0; arc = 0 }) l in
    let at = ap (λ (s : Step). s.parent) is in
    let here : c.loop-at.at ≡ suc n = omega (arith, c.loop-at-test.true) in
    let whole = prefix_back xs (prefix_in xs c.args.node) c.loop-at.arcs.items n (λ k m. c.requires.parents k (omega (arith, m, steps_count steps))) (omega (arith, l, steps_count steps))
    (subst (λ (k : ℕ). prefix_in xs c.args.node ≡ prefix_in xs k ++ reverse c.loop-at.arcs.items) here c.loop-at.invariant.1) in
    let arcs = c.in_ok-push.ensures.items in
    let told : prefix_in xs c.args.node ≡ prefix_in xs (step_of (get_or steps n (record { parent = 0; arc = 0 }))).parent ++ reverse (c.loop-at.arcs.items ++ (step_of (get_or steps n (record { parent = 0; arc = 0 }))).arc ∷ []) =
    subst (λ (s : Step). prefix_in xs c.args.node ≡ prefix_in xs s.parent ++ reverse (c.loop-at.arcs.items ++ s.arc ∷ [])) is whole in
    (omega (arith, low, at, l), rw arcs told)
