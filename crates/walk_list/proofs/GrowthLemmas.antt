-- A tree while it grows: where it begins, what one more step makes of it, and what it is at its end.
use Rattle.std.proofs.Common.{◌≡◌, ℕ, suc, ◌+◌, ◌<◌, ◌≤◌, ℤ, Option, None, Some, List, [], ◌∷◌, ◌++◌, length, inl, inr, refl, sym, ◌∙◌, ap, subst, arith}
use Rattle.std.specs.Prelude.{Contains}
use Rattle.std.proofs.lemmas.Bool.{cases_lt}
use Rattle.std.proofs.lemmas.List.{get_or_append_left, get_or_push, length_push}
use Rattle.std.proofs.lemmas.List.Elements.{Contains-append_left, Contains-push, Contains-push_cases}
use Rattle.path_graph.specs.Parts.{arcs_from}
use Rattle.label_rules.specs.declared.label.Label.{Label}
use Rattle.label_rules.specs.Labels.{Setting, SettingFits}
use Rattle.label_rules.specs.Spaces.{CostsFit}
use Rattle.proof_rules.specs.ListWalls.{IsDemandedTree}
use Rattle.proof_rules.specs.PrefixTrees.{IsDemanded, IsPrefix, IsTree, Step, node_count, step_at}
use Rattle.proof_rules.proofs.CompleteLemmas.{prefix_ends}
use Rattle.proof_rules.proofs.GrowthLemmas.{elementary_step, empty_tree, tree_grows}
use Rattle.proof_rules.proofs.PrefixTreeLemmas.{down_within, one_prefix}
use Rattle.list_check.specs.Prefixes.{IsPrefixLabel}
use Rattle.list_check.proofs.ArcLemmas.{arc_among, arcs_differ}
use Rattle.list_check.proofs.PrefixLemmas.{demanded_from, goes_on_from, next_label, wanted_from}
use Rattle.list_check.proofs.TreeLemmas.{contained_step, down_lifts, new_prefix, step_contained}
use Rattle.walk_list.specs.declared.prefixes.Prefix.{Prefix}
use Rattle.walk_list.specs.Growing.{IsDoneBelow, IsFull, IsGrowingAt, IsGrown, IsNode, IsWhole}
use Rattle.walk_list.specs.Prefixes.{IsWantedNext, IsWantedOf, arc_after, prefix_at}

-- the arcs of a demanded step, whichever prefix its parent has
demanded_at : (S : Setting) (back : List Label) (limit : ℤ) (steps : List Step) (prefixes : List Prefix) (k a : ℕ) (arcs : List ℕ) → SettingFits S → IsGrown S back limit steps prefixes
    → IsPrefix steps k arcs → IsWantedOf S back limit (prefix_at prefixes k) a → IsDemanded S back (Some limit) arcs a
demanded_at S back limit steps prefixes k a arcs fits grown prefix wanted =
    let l : k < length prefixes = omega (arith, down_within steps 0 arcs k (omega arith) prefix, grown.count) in
    let node : Prefix = prefix_at prefixes k in
    let is = grown.each k l in
    let same = one_prefix S steps k is.arcs arcs grown.tree is.prefix prefix in
    subst (λ (xs : List ℕ). IsDemanded S back (Some limit) xs a) same (demanded_from S back limit is.arcs node.label node.visited a fits is.is wanted)

wanted_at : (S : Setting) (back : List Label) (limit : ℤ) (steps : List Step) (prefixes : List Prefix) (k a : ℕ) (arcs : List ℕ) → SettingFits S → IsGrown S back limit steps prefixes
    → IsPrefix steps k arcs → IsDemanded S back (Some limit) arcs a → IsWantedOf S back limit (prefix_at prefixes k) a
wanted_at S back limit steps prefixes k a arcs fits grown prefix demanded =
    let l : k < length prefixes = omega (arith, down_within steps 0 arcs k (omega arith) prefix, grown.count) in
    let node : Prefix = prefix_at prefixes k in
    let is = grown.each k l in
    let same = one_prefix S steps k arcs is.arcs grown.tree prefix is.prefix in
    wanted_from S back limit is.arcs node.label node.visited a fits is.is (subst (λ (xs : List ℕ). IsDemanded S back (Some limit) xs a) same demanded)

pub grown_demanded : (S : Setting) (back : List Label) (limit : ℤ) (steps : List Step) (prefixes : List Prefix) → SettingFits S → IsGrown S back limit steps prefixes → IsDemandedTree S back (Some limit) steps
grown_demanded S back limit steps prefixes fits grown = record {
  tree = grown.tree;
  demanded = λ n arcs l prefix. demanded_at S back limit steps prefixes (step_at steps n).parent (step_at steps n).arc arcs fits grown prefix (grown.wanted n l);
}

-- without steps
pub empty_grown : (S : Setting) (back : List Label) (limit : ℤ) (first : Prefix) → IsPrefixLabel S [] first.label first.visited → IsDoneBelow S back limit [] (first ∷ []) 0
empty_grown S back limit first is = record {
  grown = record {
    tree = empty_tree S;
    count = refl;
    each = λ k l. subst (λ (n : ℕ). IsNode S [] n (prefix_at (first ∷ []) n)) (omega (arith, l)) (record { arcs = []; prefix = refl; is = is });
    wanted = λ n l. absurd (omega (arith, l));
  };
  done = λ k a l. absurd (omega (arith, l));
  earlier = λ n l. absurd (omega (arith, l));
}

-- a node begins, and ends
pub node_begins : (S : Setting) (back : List Label) (limit : ℤ) (steps : List Step) (prefixes : List Prefix) (number : ℕ) (node : Prefix) → IsDoneBelow S back limit steps prefixes number
    → number < length prefixes → prefix_at prefixes number ≡ node → IsGrowingAt S back limit steps prefixes number node 0
node_begins S back limit steps prefixes number node below there is = record {
  grown = below.grown;
  there = there;
  node_is = is;
  done = λ k a l wanted. below.done k a l (omega (arith, l, there)) wanted;
  here = λ i l. absurd (omega (arith, l));
  earlier = λ n l. omega (arith, below.earlier n l);
  own = λ a h. let step = contained_step steps number a h in
      let low = below.earlier step.0 step.1.within in
      let same = ap (λ (s : Step). s.parent) step.1.is in
      absurd (omega (arith, low, same));
}

pub node_ends : (S : Setting) (back : List Label) (limit : ℤ) (steps : List Step) (prefixes : List Prefix) (number : ℕ) (node : Prefix) (place : ℕ) → SettingFits S
    → IsGrowingAt S back limit steps prefixes number node place → place ≡ length (arcs_from S.graph.arcs node.label.vertex) → IsDoneBelow S back limit steps prefixes (number + 1)
node_ends S back limit steps prefixes number node place fits at all = record {
  grown = at.grown;
  done = λ k a l within wanted. elim (cases_lt k number) [
    | inl old ↦ at.done k a old wanted
    | inr past ↦
        let here : k ≡ number = omega (arith, past, l) in
        let mine : IsWantedOf S back limit node a = subst (λ (p : Prefix). IsWantedOf S back limit p a) (ap (prefix_at prefixes) here ∙ at.node_is) wanted in
        let place_of = arc_among S.graph.arcs node.label.vertex a mine.goes.there mine.goes.leaves in
        let found = at.here place_of.0 (omega (arith, place_of.1, all)) (subst (IsWantedOf S back limit node) (sym place_of.2) mine) in
        subst (λ (n : ℕ). Contains steps (record { parent = n; arc = a })) (sym here)
        (subst (λ (b : ℕ). Contains steps (record { parent = number; arc = b })) place_of.2 found)
  ];
  earlier = λ n l. omega (arith, at.earlier n l);
}

-- an arc that is not wanted is passed over
pub grow_past : (S : Setting) (back : List Label) (limit : ℤ) (steps : List Step) (prefixes : List Prefix) (number : ℕ) (node : Prefix) (place : ℕ) → IsGrowingAt S back limit steps prefixes number node place
    → ¬ (IsWantedOf S back limit node (arc_after S node place)) → IsGrowingAt S back limit steps prefixes number node (place + 1)
grow_past S back limit steps prefixes number node place at not = record {
  grown = at.grown;
  there = at.there;
  node_is = at.node_is;
  done = at.done;
  here = λ i l wanted. elim (cases_lt i place) [
    | inl old ↦ at.here i old wanted
    | inr past ↦ let same : i ≡ place = omega (arith, past, l) in absurd (not (subst (λ (k : ℕ). IsWantedOf S back limit node (arc_after S node k)) same wanted))
  ];
  earlier = at.earlier;
  own = λ a h. let old = at.own a h in (old.0, omega (arith, old.1), old.2);
}

-- no step was made over the arc that is looked at
not_made : (S : Setting) (back : List Label) (limit : ℤ) (steps : List Step) (prefixes : List Prefix) (number : ℕ) (node : Prefix) (place : ℕ) → IsGrowingAt S back limit steps prefixes number node place
    → place < length (arcs_from S.graph.arcs node.label.vertex) → ¬ (Contains steps (record { parent = number; arc = arc_after S node place }))
not_made S back limit steps prefixes number node place at l h =
    let old = at.own (arc_after S node place) h in
    arcs_differ S.graph.arcs node.label.vertex old.0 place old.1 l (sym old.2)

-- a node of a tree with one step more
old_node : (S : Setting) (steps : List Step) (step : Step) (k : ℕ) (node : Prefix) → IsNode S steps k node → IsNode S (steps ++ step ∷ []) k node
old_node S steps step k node is = record { arcs = is.arcs; prefix = down_lifts steps (step ∷ []) 0 is.arcs k is.prefix; is = is.is }

more_nodes : (S : Setting) (steps : List Step) (prefixes : List Prefix) (step : Step) (next : Prefix) → length prefixes ≡ node_count steps
    → ((k : ℕ) → k < length prefixes → IsNode S steps k (prefix_at prefixes k)) → IsNode S (steps ++ step ∷ []) (suc (length steps)) next
    → (k : ℕ) → k < length (prefixes ++ next ∷ []) → IsNode S (steps ++ step ∷ []) k (prefix_at (prefixes ++ next ∷ []) k)
more_nodes S steps prefixes step next count each is k l = elim (cases_lt k (length prefixes)) [
  | inl old ↦ subst (IsNode S (steps ++ step ∷ []) k) (sym (get_or_append_left prefixes (next ∷ []) _ k old)) (old_node S steps step k (prefix_at prefixes k) (each k old))
  | inr past ↦
      let here : length prefixes ≡ k = omega (arith, past, l, length_push prefixes next) in
      let at : suc (length steps) ≡ k = omega (arith, here, count) in
      subst (λ (n : ℕ). IsNode S (steps ++ step ∷ []) n (prefix_at (prefixes ++ next ∷ []) k)) at
      (subst (IsNode S (steps ++ step ∷ []) (suc (length steps))) (sym (get_or_push prefixes next _ k here)) is)
]

-- one step more, over a wanted arc
module _ (S : Setting) (back : List Label) (limit : ℤ) (steps : List Step) (prefixes : List Prefix) (number : ℕ) (node : Prefix) (place : ℕ) (next : Prefix) (fits : SettingFits S) (costs : CostsFit S)
    (at : IsGrowingAt S back limit steps prefixes number node place) (there : place < length (arcs_from S.graph.arcs node.label.vertex)) (is : IsWantedNext S back limit node (arc_after S node place) next) where
  abbrev arc : ℕ
  arc = arc_after S node place

  abbrev step : Step
  step = record { parent = number; arc = arc }

  abbrev more : List Step
  more = steps ++ step ∷ []

  abbrev more_prefixes : List Prefix
  more_prefixes = prefixes ++ next ∷ []

  from : IsNode S steps number node
  from = subst (IsNode S steps number) at.node_is (at.grown.each number at.there)

  old_prefix : (k : ℕ) → k < length prefixes → prefix_at more_prefixes k ≡ prefix_at prefixes k
  old_prefix k l = get_or_append_left prefixes (next ∷ []) _ k l

  tree : IsTree S more
  tree = tree_grows S steps step at.grown.tree (record {
    from = omega (arith, at.there, at.grown.count);
    new = not_made S back limit steps prefixes number node place at there;
    arcs = from.arcs;
    prefix = from.prefix;
    elementary = elementary_step S from.arcs node.label.vertex arc from.is.elementary (goes_on_from S from.arcs node.label node.visited arc from.is is.over.goes);
  })

  new_node : IsNode S more (suc (length steps)) next
  new_node = record {
    arcs = from.arcs ++ arc ∷ [];
    prefix = new_prefix steps step from.arcs from.prefix;
    is = next_label S from.arcs node.label next.label node.visited next.visited arc fits costs from.is is.over;
  }

  wanted : (n : ℕ) → n < length more → IsWantedOf S back limit (prefix_at more_prefixes (step_at more n).parent) (step_at more n).arc
  wanted n l = elim (cases_lt n (length steps)) [
    | inl old ↦
        let low = at.earlier n old in
        let same : step_at more n ≡ step_at steps n = get_or_append_left steps (step ∷ []) _ n old in
        subst (λ (s : Step). IsWantedOf S back limit (prefix_at more_prefixes s.parent) s.arc) (sym same)
        (subst (λ (p : Prefix). IsWantedOf S back limit p (step_at steps n).arc) (sym (old_prefix (step_at steps n).parent (omega (arith, low, at.there)))) (at.grown.wanted n old))
    | inr past ↦
        let here : length steps ≡ n = omega (arith, past, l, length_push steps step) in
        let same : step_at more n ≡ step = get_or_push steps step _ n here in
        subst (λ (s : Step). IsWantedOf S back limit (prefix_at more_prefixes s.parent) s.arc) (sym same)
        (subst (λ (p : Prefix). IsWantedOf S back limit p arc) (sym (old_prefix number at.there ∙ at.node_is)) is.wanted)
  ]

  pub grow_more : IsGrowingAt S back limit (steps ++ record { parent = number; arc = arc_after S node place } ∷ []) (prefixes ++ next ∷ []) number node (place + 1)
  grow_more = record {
    grown = record {
      tree = tree;
      count = omega (arith, length_push prefixes next, length_push steps step, at.grown.count);
      each = more_nodes S steps prefixes step next at.grown.count at.grown.each new_node;
      wanted = wanted;
    };
    there = omega (arith, length_push prefixes next, at.there);
    node_is = old_prefix number at.there ∙ at.node_is;
    done = λ k a l w. Contains-append_left steps (step ∷ []) _ (at.done k a l (subst (λ (p : Prefix). IsWantedOf S back limit p a) (old_prefix k (omega (arith, l, at.there))) w));
    here = λ i l w. elim (cases_lt i place) [
      | inl old ↦ Contains-append_left steps (step ∷ []) _ (at.here i old w)
      | inr past ↦
          let same : place ≡ i = omega (arith, past, l) in
          subst (λ (k : ℕ). Contains more (record { parent = number; arc = arc_after S node k })) same (Contains-push steps step)
    ];
    earlier = λ n l. elim (cases_lt n (length steps)) [
      | inl old ↦ subst (λ (s : Step). s.parent ≤ number) (sym (get_or_append_left steps (step ∷ []) _ n old)) (at.earlier n old)
      | inr past ↦
          let here : length steps ≡ n = omega (arith, past, l, length_push steps step) in
          subst (λ (s : Step). s.parent ≤ number) (sym (get_or_push steps step _ n here)) (omega arith)
    ];
    own = λ a h. elim (Contains-push_cases steps step (record { parent = number; arc = a }) h) [
      | inl old ↦ let before = at.own a old in (before.0, omega (arith, before.1), before.2)
      | inr same ↦ (place, omega arith, sym (ap (λ (s : Step). s.arc) same))
    ];
  }

-- where there is no room for it
pub grow_full : (S : Setting) (back : List Label) (limit : ℤ) (steps : List Step) (prefixes : List Prefix) (number : ℕ) (node : Prefix) (place room : ℕ) → SettingFits S
    → IsGrowingAt S back limit steps prefixes number node place → place < length (arcs_from S.graph.arcs node.label.vertex) → IsWantedOf S back limit node (arc_after S node place) → length steps ≡ room
    → IsFull S back (Some limit) room steps
grow_full S back limit steps prefixes number node place room fits at there wanted lines =
    let is = subst (IsNode S steps number) at.node_is (at.grown.each number at.there) in
    let ends = prefix_ends S steps number is.arcs node.label.vertex at.grown.tree is.prefix is.is.elementary.leads in
    record {
      demanded = grown_demanded S back limit steps prefixes fits at.grown;
      unfinished = record {
        node = number;
        arcs = is.arcs;
        prefix = is.prefix;
        inside = λ e. (fits.graph.fits.each_arc (arc_after S node place) _ wanted.goes.there).not_out (wanted.goes.leaves ∙ (sym ends ∙ e));
        arc = arc_after S node place;
        demanded = demanded_from S back limit is.arcs node.label node.visited (arc_after S node place) fits is.is wanted;
        none = λ n step. not_made S back limit steps prefixes number node place at there (step_contained steps number (arc_after S node place) n step);
      };
      lines = lines;
    }

-- at the end
pub grow_whole : (S : Setting) (back : List Label) (limit : ℤ) (steps : List Step) (prefixes : List Prefix) (number : ℕ) → SettingFits S → IsDoneBelow S back limit steps prefixes number
    → length prefixes ≤ number → IsWhole S back (Some limit) steps
grow_whole S back limit steps prefixes number fits below all = record {
  complete = record {
    tree = below.grown.tree;
    has_steps = λ k arcs a prefix inside demanded.
        let l : k < length prefixes = omega (arith, down_within steps 0 arcs k (omega arith) prefix, below.grown.count) in
        contained_step steps k a (below.done k a (omega (arith, l, all)) l (wanted_at S back limit steps prefixes k a arcs fits below.grown prefix demanded));
  };
  demanded = grown_demanded S back limit steps prefixes fits below.grown;
}

-- without a limit nothing is demanded; and a tree without steps has none over an arc that is not
pub empty_demanded : (S : Setting) (back : List Label) (limit : Option ℤ) → IsDemandedTree S back limit []
empty_demanded S back limit = record { tree = empty_tree S; demanded = λ n arcs l. absurd (omega (arith, l)) }

pub empty_whole : (S : Setting) (back : List Label) → IsWhole S back None []
empty_whole S back = record {
  complete = record { tree = empty_tree S; has_steps = λ k arcs a prefix inside demanded. absurd demanded.within };
  demanded = empty_demanded S back None;
}
