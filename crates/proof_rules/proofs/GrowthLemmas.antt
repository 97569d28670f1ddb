-- A tree grows by its steps.
use Rattle.std.proofs.Common.{◌≡◌, ◌≢◌, ℕ, zero, suc, ◌<◌, ◌≤◌, true, Option, None, Some, List, [], ◌∷◌, ◌++◌, length, inl, inr, refl, sym, ◌∙◌, ap, subst, arith, length-append}
use Rattle.std.specs.Prelude.{Contains}
use Rattle.std.proofs.lemmas.Bool.{false≢true, cases_Bool, cases_lt, eqb-true, cond-true, cond-false}
use Rattle.std.proofs.lemmas.List.{get_or_append_left, get_or_push, get_or_default}
use Rattle.path_graph.specs.declared.parts.Values.{Values}
use Rattle.path_graph.specs.Visits.{is_visit, visit_count, visit_over, visits_along}
use Rattle.path_graph.specs.Walk.{Takes, root_of}
use Rattle.path_graph.proofs.VisitLemmas.{visits_along-append, visit_count-cons, visit_count-append}
use Rattle.path_graph.proofs.WalkLemmas.{leads_join, passes_join}
use Rattle.label_rules.specs.Admitted.{IsElementary}
use Rattle.label_rules.specs.Labels.{Forward, Setting, root}
use Rattle.proof_rules.specs.PrefixLaws.{DemandedStepLaw, ElementaryStepLaw, EmptyTreeLaw, IsNewStep, TreeGrowsLaw, head_of}
use Rattle.proof_rules.specs.PrefixTrees.{IsPrefix, IsTree, Step, node_count, node_vertex, step_at}
use Rattle.label_rules.proofs.LabelLemmas.{forward_values, forward_vertex, open_append}
use Rattle.proof_rules.proofs.PrefixTreeLemmas.{down_join, down_within, one_prefix, last_of, same_split}
use Rattle.proof_rules.proofs.WalkListLemmas.{contains_more}

visit_is : (s : ℕ) (v : Option ℕ) → is_visit s v ≡ true → v ≡ Some s
visit_is s None h = absurd (false≢true h)
visit_is s (Some t) h = ap Some (eqb-true t s h)

-- a set that is not entered is entered no time
not_entered : (s : ℕ) (visits : List (Option ℕ)) → ¬ (Contains visits (Some s)) → visit_count s visits ≡ 0
not_entered s [] not = refl
not_entered s (v ∷ rest) not =
    let more = not_entered s rest (λ h. not (contains_more v rest (Some s) h)) in
    let next = visit_count-cons s v rest in
    elim (cases_Bool (is_visit s v)) [
      | inl e ↦ absurd (not (0, omega arith, visit_is s v e))
      | inr e ↦ let none = cond-false {A = ℕ} (is_visit s v) 1 0 e in omega (arith, more, next, none)
    ]

-- one set more, which was not entered
entered_once : (s : ℕ) (visits : List (Option ℕ)) (v : Option ℕ) → visit_count s visits ≤ 1 → ((t : ℕ) → v ≡ Some t → ¬ (Contains visits (Some t))) → visit_count s (visits ++ v ∷ []) ≤ 1
entered_once s visits v most new =
    let both = visit_count-append s visits (v ∷ []) in
    let next = visit_count-cons s v [] in
    elim (cases_Bool (is_visit s v)) [
      | inl e ↦
          let none = not_entered s visits (new s (visit_is s v e)) in
          let one = cond-true {A = ℕ} (is_visit s v) 1 0 e in
          omega (arith, both, next, none, one)
      | inr e ↦ let none = cond-false {A = ℕ} (is_visit s v) 1 0 e in omega (arith, both, next, none, most)
    ]

pub elementary_step : ElementaryStepLaw
elementary_step S arcs v a is next =
    let g = S.graph in
    record {
      leads = leads_join g g.ends.source arcs v (a ∷ []) (head_of S a) is.leads (next.there, next.leaves, refl);
      passes = passes_join g (root_of g) arcs (a ∷ []) is.passes (subst (λ (x : Values). Takes g x a) (forward_values S (root Forward S) arcs) next.takes, tt);
      open_arcs = open_append S arcs (a ∷ []) is.open_arcs (next.open_arc, tt);
      once = λ s. subst (λ (visits : List (Option ℕ)). visit_count s visits ≤ 1) (sym (visits_along-append g arcs (a ∷ [])))
          (entered_once s (visits_along g arcs) (visit_over g a) (is.once s) next.new);
    }

pub demanded_step : DemandedStepLaw
demanded_step S back limit arcs v a is wanted = record {
  there = wanted.joins.there;
  leaves = wanted.joins.leaves ∙ forward_vertex S (root Forward S) arcs v is.leads;
  open_arc = wanted.joins.open_arc;
  takes = wanted.takes;
  new = wanted.new;
}

pub empty_tree : EmptyTreeLaw
empty_tree S = record {
  parents = λ n l. omega (arith, l);
  once = λ m n less l same. omega (arith, l);
  each = λ k arcs h. root_only k arcs h;
}
  where
    root_only : (k : ℕ) (arcs : List ℕ) → IsPrefix [] k arcs → IsElementary S arcs (node_vertex S [] k)
    root_only k [] h = subst (λ (n : ℕ). IsElementary S [] (node_vertex S [] n)) h (record { leads = refl; passes = tt; open_arcs = tt; once = λ s. omega arith })
    root_only k (a ∷ rest) h = absurd (omega (arith, h.1.within))

-- the steps before a new one
module _ (S : Setting) (steps : List Step) (step : Step) (tree : IsTree S steps) (is_new : IsNewStep S steps step) where
  abbrev more : List Step
  more = steps ++ step ∷ []

  size : length more ≡ suc (length steps)
  size = omega (arith, length-append steps (step ∷ []))

  old_step : (n : ℕ) → n < length steps → step_at more n ≡ step_at steps n
  old_step n l = get_or_append_left steps (step ∷ []) _ n l

  last_step : step_at more (length steps) ≡ step
  last_step = get_or_push steps step _ (length steps) refl

  parents : (n : ℕ) → n < length more → (step_at more n).parent ≤ n
  parents n l = elim (cases_lt n (length steps)) [
    | inl old ↦ subst (λ (s : Step). s.parent ≤ n) (sym (old_step n old)) (tree.parents n old)
    | inr past ↦
        let here : length steps ≡ n = omega (arith, size, l, past) in
        let last : step_at more n ≡ step = ap (step_at more) (sym here) ∙ last_step in
        subst (λ (s : Step). s.parent ≤ n) (sym last) (omega (arith, here, is_new.from))
  ]

  once : (m n : ℕ) → m < n → n < length more → step_at more m ≢ step_at more n
  once m n less l same =
      let before : m < length steps = omega (arith, size, less, l) in
      elim (cases_lt n (length steps)) [
        | inl old ↦ tree.once m n less old (sym (old_step m before) ∙ (same ∙ old_step n old))
        | inr past ↦
            let here : length steps ≡ n = omega (arith, size, l, past) in
            let last : step_at more n ≡ step = ap (step_at more) (sym here) ∙ last_step in
            is_new.new (m, before, get_or_default steps m step _ before ∙ (sym (old_step m before) ∙ (same ∙ last)))
      ]

  -- a prefix of an earlier node is as before
  old_prefix : (bound k : ℕ) (arcs : List ℕ) → k < bound → k < node_count steps → IsPrefix more k arcs → IsPrefix steps k arcs
  old_prefix zero k arcs l within h = absurd (omega (arith, l))
  old_prefix (suc bound) k [] l within h = h
  old_prefix (suc bound) k (a ∷ rest) l within h =
      let last = last_of more 0 a rest k h in
      let old : last.node < length steps = omega (arith, within, last.at) in
      let is : step_at steps last.node ≡ record { parent = last.parent; arc = last.last } = sym (old_step last.node old) ∙ last.step.is in
      let before : last.parent ≤ last.node = subst (λ (s : Step). s.parent ≤ last.node) is (tree.parents last.node old) in
      let front = old_prefix bound last.parent last.front (omega (arith, before, l, last.at)) (omega (arith, before, old)) last.leads in
      subst (λ (xs : List ℕ). IsPrefix steps k xs) (sym last.split)
      (down_join steps 0 last.front last.parent (last.last ∷ []) k front (last.node, record { within = old; is = is }, sym last.at))

  old_vertex : (k : ℕ) → k < node_count steps → node_vertex S more k ≡ node_vertex S steps k
  old_vertex zero l = refl
  old_vertex (suc n) l = ap (λ (s : Step). head_of S s.arc) (old_step n (omega (arith, l)))

  -- the prefix of the new node is its parent's, and the arc
  new_prefix : (arcs : List ℕ) → IsPrefix more (suc (length steps)) arcs → arcs ≡ is_new.arcs ++ step.arc ∷ []
  new_prefix [] h = absurd (omega (arith, h))
  new_prefix (a ∷ rest) h =
      let last = last_of more 0 a rest (suc (length steps)) h in
      let here : last.node ≡ length steps = omega (arith, last.at) in
      let is : ◌≡◌ {A = Step} (record { parent = last.parent; arc = last.last }) step = sym last.step.is ∙ (ap (step_at more) here ∙ last_step) in
      let parent : last.parent ≡ step.parent = ap (λ (s : Step). s.parent) is in
      let arc : last.last ≡ step.arc = ap (λ (s : Step). s.arc) is in
      let front = old_prefix (suc last.parent) last.parent last.front (omega arith) (omega (arith, parent, is_new.from)) last.leads in
      let same = one_prefix S steps step.parent last.front is_new.arcs tree (subst (λ (n : ℕ). IsPrefix steps n last.front) parent front) is_new.prefix in
      last.split ∙ same_split last.front is_new.arcs last.last step.arc same arc

  each : (k : ℕ) (arcs : List ℕ) → IsPrefix more k arcs → IsElementary S arcs (node_vertex S more k)
  each k arcs h = elim (cases_lt k (node_count steps)) [
    | inl old ↦ subst (IsElementary S arcs) (sym (old_vertex k old)) (tree.each k arcs (old_prefix (suc k) k arcs (omega arith) old h))
    | inr past ↦
        let within = down_within more 0 arcs k (omega arith) h in
        let here : k ≡ suc (length steps) = omega (arith, size, within, past) in
        let prefix = new_prefix arcs (subst (λ (n : ℕ). IsPrefix more n arcs) here h) in
        let vertex : node_vertex S more k ≡ head_of S step.arc = ap (node_vertex S more) here ∙ ap (λ (s : Step). head_of S s.arc) last_step in
        subst (IsElementary S arcs) (sym vertex) (subst (λ (xs : List ℕ). IsElementary S xs (head_of S step.arc)) (sym prefix) is_new.elementary)
  ]

  grown : IsTree S more
  grown = record { parents = parents; once = once; each = each }

pub tree_grows : TreeGrowsLaw
tree_grows S steps step tree is_new = grown S steps step tree is_new
