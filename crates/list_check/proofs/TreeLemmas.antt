-- A tree grows by its steps one after the other, and is none where one of them does not go on.
use Rattle.std.proofs.Common.{◌≡◌, ◌≢◌, ℕ, suc, ◌<◌, ◌≤◌, ℤ, pos, None, Some, List, [], ◌∷◌, ◌++◌, length, get_or, inl, inr, refl, sym, ◌∙◌, subst, arith, length-append}
use Rattle.std.specs.Prelude.{Contains, IsTrue}
use Rattle.std.specs.BTreeSet.{BTreeSet}
use Rattle.std.proofs.lemmas.Bool.{cases_lt}
use Rattle.std.proofs.lemmas.List.{get_or_append_left, get_or_default, get_or_push, length_push}
use Rattle.std.proofs.Math.Seq.{get_or-append_seam}
use Rattle.label_rules.specs.declared.label.Label.{Label}
use Rattle.label_rules.specs.Labels.{Setting, SettingFits}
use Rattle.label_rules.specs.Spaces.{CostsFit}
use Rattle.proof_rules.specs.PrefixTrees.{IsComplete, IsDemanded, IsPrefix, IsStep, IsTree, LeadsDown, Step, node_vertex, step_at}
use Rattle.proof_rules.proofs.CompleteLemmas.{prefix_ends}
use Rattle.proof_rules.proofs.GrowthLemmas.{elementary_step, empty_tree, tree_grows}
use Rattle.proof_rules.proofs.PrefixTreeLemmas.{down_join, down_within, one_prefix}
use Rattle.list_check.specs.declared.nodes.Node.{Node}
use Rattle.list_check.specs.Lines.{AreLines, has_line}
use Rattle.list_check.specs.Nodes.{AreNodes, GoesFrom, IsNextNode, IsNode, IsTreeOf, IsWantedAt, StepGoes}
use Rattle.list_check.proofs.PrefixLemmas.{demanded_from, goes_on_from, goes_over_from, last_goes_on, next_label, wanted_from}

-- arcs lead down also where there are more steps
step_lifts : (steps more : List Step) (k a n : ℕ) → IsStep steps k a n → IsStep (steps ++ more) k a n
step_lifts steps more k a n h =
    let long = length-append steps more in
    record { within = omega (arith, h.within, long); is = get_or_append_left steps more _ n h.within ∙ h.is }

pub down_lifts : (steps more : List Step) (j : ℕ) (arcs : List ℕ) (k : ℕ) → LeadsDown steps j arcs k → LeadsDown (steps ++ more) j arcs k
down_lifts steps more j [] k h = h
down_lifts steps more j (a ∷ rest) k h = (h.0, step_lifts steps more j a h.0 h.1, down_lifts steps more (suc h.0) rest k h.2)

pub node_lifts : (S : Setting) (steps more : List Step) (k : ℕ) (node : Node) → IsNode S steps k node → IsNode S (steps ++ more) k node
node_lifts S steps more k node is = record { arcs = is.arcs; prefix = down_lifts steps more 0 is.arcs k is.prefix; is = is.is }

-- the prefix of the node of the last step
pub new_prefix : (steps : List Step) (step : Step) (arcs : List ℕ) → IsPrefix steps step.parent arcs → IsPrefix (steps ++ step ∷ []) (suc (length steps)) (arcs ++ step.arc ∷ [])
new_prefix steps step arcs prefix =
    let last : IsStep (steps ++ step ∷ []) step.parent step.arc (length steps) = record { within = omega (arith, length_push steps step); is = get_or_push steps step _ (length steps) refl } in
    down_join (steps ++ step ∷ []) 0 arcs step.parent (step.arc ∷ []) (suc (length steps)) (down_lifts steps (step ∷ []) 0 arcs step.parent prefix) (length steps, last, refl)

-- a tree with its nodes, and one step more
more_nodes : (S : Setting) (steps : List Step) (nodes : List Node) (step : Step) (next : Node) → AreNodes S steps nodes → IsNode S (steps ++ step ∷ []) (suc (length steps)) next → AreNodes S (steps ++ step ∷ []) (nodes ++ next ∷ [])
more_nodes S steps nodes step next are is = record {
  count = omega (arith, length_push nodes next, length_push steps step, are.count);
  each = λ k other l. elim (cases_lt k (length nodes)) [
    | inl old ↦ subst (IsNode S (steps ++ step ∷ []) k) (sym (get_or_append_left nodes (next ∷ []) other k old)) (node_lifts S steps (step ∷ []) k (get_or nodes k other) (are.each k other old))
    | inr past ↦
        let here : k ≡ length nodes = omega (arith, past, l, length_push nodes next) in
        let at : k ≡ suc (length steps) = omega (arith, here, are.count) in
        subst (λ (n : ℕ). IsNode S (steps ++ step ∷ []) n (get_or (nodes ++ next ∷ []) k other)) (sym at)
        (subst (IsNode S (steps ++ step ∷ []) (suc (length steps))) (sym (get_or_push nodes next other k (sym here))) is)
  ];
}

pub tree_more : (S : Setting) (steps : List Step) (nodes : List Node) (step : Step) (next : Node) → SettingFits S → CostsFit S → IsTreeOf S steps nodes → ¬ (Contains steps step)
    → IsNextNode S nodes step next → IsTreeOf S (steps ++ step ∷ []) (nodes ++ next ∷ [])
tree_more S steps nodes step next fits costs tree new is =
    let node : Node = get_or nodes step.parent next in
    let from = tree.are.each step.parent next is.parent in
    let over = is.is next in
    let label = next_label S from.arcs node.label next.label node.visited next.visited step.arc fits costs from.is over in
    let goes = goes_on_from S from.arcs node.label node.visited step.arc from.is over.goes in
    record {
      tree = tree_grows S steps step tree.tree (record {
        from = omega (arith, is.parent, tree.are.count);
        new = new;
        arcs = from.arcs;
        prefix = from.prefix;
        elementary = elementary_step S from.arcs node.label.vertex step.arc from.is.elementary goes;
      });
      are = more_nodes S steps nodes step next tree.are (record { arcs = from.arcs ++ step.arc ∷ []; prefix = new_prefix steps step from.arcs from.prefix; is = label });
    }

-- in a tree each step goes on from the nodes before it
pub tree_goes : (S : Setting) (steps rest : List Step) (nodes : List Node) (step : Step) → SettingFits S → IsTreeOf S steps nodes → IsTree S (steps ++ step ∷ rest) → StepGoes S nodes step
tree_goes S steps rest nodes step fits known tree =
    let all : List Step = steps ++ step ∷ rest in
    let here : step_at all (length steps) ≡ step = get_or-append_seam steps step rest _ in
    let within : length steps < length all = omega (arith, length-append steps (step ∷ rest)) in
    let before : step.parent ≤ length steps = subst (λ (s : Step). s.parent ≤ length steps) here (tree.parents (length steps) within) in
    let parent : step.parent < length nodes = omega (arith, before, known.are.count) in
    record { parent = parent; goes = λ other. from other parent here within }
  where
    from : (other : Node) → step.parent < length nodes → step_at (steps ++ step ∷ rest) (length steps) ≡ step → length steps < length (steps ++ step ∷ rest) → GoesFrom S (get_or nodes step.parent other) step.arc
    from other parent here within =
        let all : List Step = steps ++ step ∷ rest in
        let node : Node = get_or nodes step.parent other in
        let is = known.are.each step.parent other parent in
        let prefix = down_lifts steps (step ∷ rest) 0 is.arcs step.parent is.prefix in
        let last : IsStep all step.parent step.arc (length steps) = record { within = within; is = here } in
        let next = down_join all 0 is.arcs step.parent (step.arc ∷ []) (suc (length steps)) prefix (length steps, last, refl) in
        let whole = tree.each (suc (length steps)) (is.arcs ++ step.arc ∷ []) next in
        goes_over_from S is.arcs node.label node.visited step.arc fits is.is
        (last_goes_on S is.arcs step.arc node.label.vertex _ is.is.elementary whole)

-- a step of a list by its number
pub contained_step : (steps : List Step) (k a : ℕ) → Contains steps (record { parent = k; arc = a }) → (n : ℕ) × IsStep steps k a n
contained_step steps k a h = (h.0, record { within = h.1; is = get_or_default steps h.0 _ (record { parent = k; arc = a }) h.1 ∙ h.2 })

pub step_contained : (steps : List Step) (k a n : ℕ) → IsStep steps k a n → Contains steps (record { parent = k; arc = a })
step_contained steps k a n h = (n, h.within, get_or_default steps n (record { parent = k; arc = a }) _ h.within ∙ h.is)

-- a node of which nothing is known
abbrev blank : Node
blank = record { label = record { vertex = 0; values = record { at = [] }; memory = record { bits = [] }; states = []; cost = pos 0 }; visited = record { bits = [] } }

-- where each wanted arc has its line, the tree is complete
abbrev HaveLines : Setting → List Label → ℤ → List Node → BTreeSet (ℕ × ℕ) → Type 0
HaveLines S back limit nodes lines = (k a : ℕ) (other : Node) → k < length nodes → IsWantedAt S back limit (get_or nodes k other) a → IsTrue (has_line lines k a)

pub complete_from : (S : Setting) (back : List Label) (limit : ℤ) (steps : List Step) (nodes : List Node) (lines : BTreeSet (ℕ × ℕ)) → SettingFits S → IsTreeOf S steps nodes → AreLines steps lines
    → HaveLines S back limit nodes lines → IsComplete S back (Some limit) steps
complete_from S back limit steps nodes lines fits known are have = record {
  tree = known.tree;
  has_steps = λ k arcs a prefix inside demanded.
      let l : k < length nodes = omega (arith, down_within steps 0 arcs k (omega arith) prefix, known.are.count) in
      let node : Node = get_or nodes k blank in
      let is = known.are.each k blank l in
      let same = one_prefix S steps k arcs is.arcs known.tree prefix is.prefix in
      let wanted = wanted_from S back limit is.arcs node.label node.visited a fits is.is (subst (λ (xs : List ℕ). IsDemanded S back (Some limit) xs a) same demanded) in
      contained_step steps k a ((are.each k a).0 (have k a blank l wanted));
}

pub complete_to : (S : Setting) (back : List Label) (limit : ℤ) (steps : List Step) (nodes : List Node) (lines : BTreeSet (ℕ × ℕ)) → SettingFits S → IsTreeOf S steps nodes → AreLines steps lines
    → IsComplete S back (Some limit) steps → HaveLines S back limit nodes lines
complete_to S back limit steps nodes lines fits known are complete k a other l wanted =
    let node : Node = get_or nodes k other in
    let is = known.are.each k other l in
    let demanded = demanded_from S back limit is.arcs node.label node.visited a fits is.is wanted in
    let ends = prefix_ends S steps k is.arcs node.label.vertex known.tree is.prefix is.is.elementary.leads in
    let inside : node_vertex S steps k ≢ S.graph.ends.sink = λ e. (fits.graph.fits.each_arc a _ wanted.goes.there).not_out (wanted.goes.leaves ∙ (sym ends ∙ e)) in
    let step = complete.has_steps k is.arcs a is.prefix inside demanded in
    (are.each k a).1 (step_contained steps k a step.0 step.1)

-- without a limit nothing is demanded
pub complete_without : (S : Setting) (back : List Label) (steps : List Step) → IsTree S steps → IsComplete S back None steps
complete_without S back steps tree = record { tree = tree; has_steps = λ k arcs a prefix inside demanded. absurd demanded.within }

-- the tree without steps
pub first_tree : (S : Setting) (node : Node) → IsNode S [] 0 node → IsTreeOf S [] (node ∷ [])
first_tree S node is = record {
  tree = empty_tree S;
  are = record { count = refl; each = λ k other l. subst (λ (n : ℕ). IsNode S [] n (get_or (node ∷ []) n other)) (omega (arith, l)) is };
}
