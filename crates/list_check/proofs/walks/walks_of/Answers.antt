use Rattle.std.proofs.Common.{◌≡◌, ℕ, suc, ◌+◌, ◌<◌, ◌≤◌, List, [], ◌∷◌, ◌++◌, length, get_or, map, sym, ◌∙◌, ap, subst, arith}
use Rattle.path_graph.specs.declared.parts.Ends.{Ends}
use Rattle.path_graph.specs.declared.parts.GraphArc.{GraphArc}
use Rattle.path_graph.specs.Walk.{GraphParts, arc_at}
use Rattle.label_rules.specs.Labels.{Setting}
use Rattle.certificate.specs.declared.cert.Step.{Step as TextStep}
use Rattle.cert_rules.specs.Meaning.{step_of, steps_of}
use Rattle.proof_rules.specs.PrefixTrees.{Step, node_vertex, prefix_of as prefix_in, step_at}
use Rattle.route_labels.specs.Meaning.{setting_of}
use Rattle.list_check.proofs.StepLemmas.{arc_there, seen_all, seen_none, seen_other, seen_walk, step_is, steps_count}
use Rattle.list_check.proofs.walks.walks_of.Goals as goal
use Rattle.list_check.proofs.walks.walks_of.Goals.{then-arc-sink+in_ok-walk+in_ok-push, else-arc-sink}

-- a step of the trie as it is read
read_is : (all steps : List TextStep) (n : ℕ) (d : TextStep) → steps ≡ all → n < length steps → step_at (map step_of all) n ≡ step_of (get_or steps n d)
read_is all steps n d is l = step_is all n d (subst (λ (ss : List TextStep). n < length ss) is l) ∙ ap (λ (ss : List TextStep). step_of (get_or ss n d)) (sym is)

-- the vertex of its node
vertex_is : (S : Setting) (g : GraphParts) (all steps : List TextStep) (n : ℕ) (d : TextStep) (arc : GraphArc) → steps ≡ all → n < length steps → g ≡ S.graph → arc ≡ arc_at g.arcs (get_or steps n d).arc
    → node_vertex S (map step_of all) (suc n) ≡ arc.head
vertex_is S g all steps n d arc is l same read =
    ap (λ (s : Step). (arc_at S.graph.arcs s.arc).head) (read_is all steps n d is l)
    ∙ sym (ap (λ (x : GraphArc). x.head) read ∙ ap (λ (h : GraphParts). (arc_at h.arcs (get_or steps n d).arc).head) same)

next : (n : ℕ) → n + 1 ≡ suc n
next n = omega arith

pub arc-requires : goal.arc-requires
arc-requires c =
    let S : Setting = setting_of c.args.field.now in
    let n = c.loop-n.n in
    let all = c.args.trie.now.steps in
    let steps = c.as_slice-steps.result.now in
    let d : TextStep = record { parent = 0; arc = 0 } in
    let is : steps ≡ all = c.as_slice-steps.ensures in
    let l : n < length (map step_of all) = omega (arith, c.loop-n-test.true, ap length is, steps_count all) in
    let there = subst (λ (s : Step). s.arc < length S.graph.arcs) (read_is all steps n d is c.loop-n-test.true) (arc_there S (map step_of all) n c.requires.tree l) in
    subst (λ (g : GraphParts). (get_or steps n d).arc < length g.arcs) (sym c.path_graph-graph.ensures.graph) there

pub loop-n-init : goal.loop-n-init
loop-n-init c =
    let S : Setting = setting_of c.args.field.now in
    c.new-walks.ensures ∙ seen_none S (steps_of c.args.trie.now) c.path_graph-graph.ensures.agree.setting.graph.fits.ends_fit.different

pub prefix_of-requires-clause-parents : goal.prefix_of-requires-clause-parents
prefix_of-requires-clause-parents c n l =
    let all = c.args.trie.now.steps in
    let is : c.as_slice-steps.result.now ≡ all = c.as_slice-steps.ensures in
    subst (λ (ss : List TextStep). (step_at (map step_of ss) n).parent ≤ n) (sym is) (c.requires.tree.parents n (omega (arith, l, ap length is, steps_count all)))

pub loop-n-preserved : goal.loop-n-preserved
loop-n-preserved c =
    let S : Setting = setting_of c.args.field.now in
    let n = c.loop-n.n in
    let all = c.args.trie.now.steps in
    let xs : List Step = map step_of all in
    let steps = c.as_slice-steps.result.now in
    let is : steps ≡ all = c.as_slice-steps.ensures in
    let same = c.path_graph-graph.ensures.graph in
    let vertex : node_vertex S xs (suc n) ≡ c.arc.result.head = vertex_is S c.path_graph-graph.result.now all steps n (record { parent = 0; arc = 0 }) c.arc.result is c.loop-n-test.true same c.arc.ensures.arc in
    let sink : c.ends-sink.result.sink ≡ S.graph.ends.sink = ap (λ (e : Ends). e.sink) (c.ends-sink.ensures.ends ∙ ap (λ (g : GraphParts). g.ends) same) in
    let told : (walk : List ℕ) → walk ≡ prefix_in (map step_of steps) (n + 1) → walk ≡ prefix_in xs (suc n) = λ walk e. e ∙ (ap (λ (ss : List TextStep). prefix_in (map step_of ss) (n + 1)) is ∙ ap (prefix_in xs) (next n)) in
    elim c.if-arc-sink.branch [
      | then-arc-sink+in_ok-walk+in_ok-push w ↦
          w.walks-is ∙ (w.in_ok-push.ensures.ok ∙ ((λ i. c.loop-n.invariant i ++ told w.in_ok-walk.walk w.in_ok-walk.ensures i ∷ []) ∙ sym (seen_walk S xs n (vertex ∙ (w.if-arc-sink.true ∙ sink)))))
      | else-arc-sink w ↦
          w.walks-is ∙ (c.loop-n.invariant ∙ sym (seen_other S xs n (λ e. w.if-arc-sink.false (sym vertex ∙ (e ∙ sym sink)))))
    ]

pub returns : goal.returns
returns c =
    let S : Setting = setting_of c.args.field.now in
    let all = c.args.trie.now.steps in
    let is : c.as_slice-steps.result.now ≡ all = c.as_slice-steps.ensures in
    c.loop-n.invariant ∙ seen_all S (map step_of all) c.loop-n.n (omega (arith, c.loop-n-test.false, c.loop-n.auto.n-end, ap length is, steps_count all))
