use Rattle.std.proofs.Common.{◌≡◌, suc, ◌+◌, ◌<◌, List, [], ◌∷◌, ◌++◌, length, take, drop, map, true, sym, subst, arith}
use Rattle.std.specs.Prelude.{All}
use Rattle.std.proofs.lemmas.List.{take_all}
use Rattle.label_rules.specs.Labels.{Forward, Setting}
use Rattle.label_rules.specs.Spaces.{is_label}
use Rattle.cert_rules.specs.Meaning.{step_of}
use Rattle.proof_rules.specs.PrefixTrees.{IsTree, Step, step_at}
use Rattle.route_labels.specs.Meaning.{setting_of}
use Rattle.list_check.specs.declared.nodes.Node.{Node}
use Rattle.list_check.specs.Nodes.{IsNextNode, IsTreeOf, StepGoes}
use Rattle.list_check.proofs.LineLemmas.{not_before}
use Rattle.list_check.proofs.StepLemmas.{step_is, step_next, step_split, steps_count}
use Rattle.list_check.proofs.TreeLemmas.{first_tree, tree_goes, tree_more}
use Rattle.list_check.proofs.nodes.tree_nodes.Goals as goal

pub next_node-requires-clause-labels : goal.next_node-requires-clause-labels
next_node-requires-clause-labels c =
    let S : Setting = setting_of c.args.field.now in
    let all : All (λ (node : Node). is_label Forward S node.label ≡ true) c.loop-step.nodes.items = λ k d l. (c.loop-step.invariant.are.each k d l).is.fits in
    subst (λ (nodes : List Node). All (λ (node : Node). is_label Forward S node.label ≡ true) nodes) (sym c.as_slice.ensures.value) all

pub loop-step-init : goal.loop-step-init
loop-step-init c =
    let S : Setting = setting_of c.args.field.now in
    subst (IsTreeOf S []) (sym c.in_ok-nodes.ensures.items) (first_tree S c.first_node.result c.first_node.ensures.node)

pub loop-step-preserved : goal.loop-step-preserved
loop-step-preserved c =
    let S : Setting = setting_of c.args.field.now in
    let steps = c.args.steps.now in
    let xs : List Step = map step_of steps in
    let i = c.loop-step.step-index in
    let nodes : List Node = c.loop-step.nodes.items in
    let l : i < length xs = omega (arith, steps_count steps, c.loop-step-test.true) in
    let at = step_is steps i (record { parent = 0; arc = 0 }) c.loop-step-test.true in
    let read : IsNextNode S c.as_slice.result.now (step_at xs i) c.in-Some.node = subst (λ (s : Step). IsNextNode S c.as_slice.result.now s c.in-Some.node) (sym at) c.in-Some.ensures in
    let next : IsNextNode S nodes (step_at xs i) c.in-Some.node = subst (λ (ns : List Node). IsNextNode S ns (step_at xs i) c.in-Some.node) c.as_slice.ensures.value read in
    let agree = c.first_node.ensures.agree in
    let more = tree_more S (take i xs) nodes (step_at xs i) c.in-Some.node agree.setting agree.costs c.loop-step.invariant (not_before xs i c.requires.different l) next in
    subst (IsTreeOf S (take (i + 1) xs)) (sym c.in_ok-push-in-Some.ensures.items)
    (subst (λ (ys : List Step). IsTreeOf S ys (nodes ++ c.in-Some.node ∷ [])) (sym (step_next xs i l)) more)

pub returns-in-None : goal.returns-in-None
returns-in-None c tree =
    let S : Setting = setting_of c.args.field.now in
    let steps = c.args.steps.now in
    let xs : List Step = map step_of steps in
    let i = c.loop-step.step-index in
    let l : i < length xs = omega (arith, steps_count steps, c.loop-step-test.true) in
    let at = step_is steps i (record { parent = 0; arc = 0 }) c.loop-step-test.true in
    let goes = tree_goes S (take i xs) (drop (suc i) xs) c.loop-step.nodes.items (step_at xs i) c.first_node.ensures.agree.setting c.loop-step.invariant (subst (IsTree S) (sym (step_split xs i l)) tree) in
    let read : StepGoes S c.as_slice.result.now (step_at xs i) = subst (λ (ns : List Node). StepGoes S ns (step_at xs i)) (sym c.as_slice.ensures.value) goes in
    c.in-None.ensures (subst (StepGoes S c.as_slice.result.now) at read)

pub returns : goal.returns
returns c =
    let S : Setting = setting_of c.args.field.now in
    let steps = c.args.steps.now in
    let xs : List Step = map step_of steps in
    subst (λ (ys : List Step). IsTreeOf S ys c.loop-step.nodes.items) (take_all c.loop-step.step-index xs (omega (arith, steps_count steps, c.loop-step-test.false))) c.loop-step.invariant
