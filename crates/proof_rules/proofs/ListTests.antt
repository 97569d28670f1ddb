-- Tests by which worked trees of prefixes are seen to be trees, and complete.
use Rattle.std.proofs.Common.{◌≡◌, ◌==◌, ℕ, zero, suc, ◌<◌, ◌≤◌, nat_lt, not, ◌&&◌, Bool, true, false, ℤ, Option, None, Some, List, length, ◌⊎◌, inl, inr, refl, sym, ◌∙◌, ap, subst, arith, Decides}
use Rattle.std.specs.Prelude.{Contains}
use Rattle.std.specs.List.{list_any}
use lib.Signed.{le_z}
use Rattle.std.proofs.lemmas.Bool.{false≢true, and_parts, and_from, eqb-true, eq-eqb, cases_lt}
use Rattle.std.proofs.lemmas.Bool.Decides.{Decides-eqb, Decides-ltb, Decides-not}
use Rattle.std.proofs.lemmas.List.{get_or_default}
use Rattle.path_graph.specs.declared.parts.Values.{Values}
use Rattle.path_graph.specs.Bounds.{IsAtMost}
use Rattle.path_graph.specs.Visits.{is_visit, visit_over, visits_along}
use Rattle.path_graph.specs.Walk.{arc_at}
use Rattle.route_model.proofs.ShutLemmas.{found_any}
use Rattle.label_rules.specs.Joins.{Joins, join_cost}
use Rattle.label_rules.specs.Labels.{Forward, Setting, WindowsTake, forward_label}
use Rattle.label_rules.specs.Spaces.{window_takes}
use Rattle.label_rules.specs.declared.label.Label.{Label}
use Rattle.proof_rules.specs.PrefixLaws.{GoesOn}
use Rattle.proof_rules.specs.PrefixTrees.{IsComplete, IsDemanded, IsStep, IsTree, Step, node_count, node_vertex, prefix_of, step_at}
use Rattle.label_rules.proofs.ClosedTests.{also, also_decides, below_all, below_all_decides, join_test, join_test_decides, some_decides, some_of, unless}
use Rattle.label_rules.proofs.TestLemmas.{shut_decides, le_decides}
use Rattle.proof_rules.proofs.PrefixTreeLemmas.{down_within, one_prefix, prefix_of_law}

-- an arc enters no set that was visited
abbrev pub is_fresh : Option ℕ → List (Option ℕ) → Bool
is_fresh None visits = true
is_fresh (Some s) visits = not (list_any (is_visit s) visits)

fresh_by : (v : Option ℕ) (visits : List (Option ℕ)) → is_fresh v visits ≡ true → (s : ℕ) → v ≡ Some s → ¬ (Contains visits (Some s))
fresh_by None visits h s e c = cc
fresh_by (Some t) visits h s e c =
    let same : t ≡ s = cc in
    let found = found_any (is_visit t) visits (Some s) c (eq-eqb s t (sym same)) in
    no_more (list_any (is_visit t) visits) h found
  where
    no_more : (b : Bool) → not b ≡ true → b ≡ true → ⊥
    no_more true p q = false≢true p
    no_more false p q = false≢true q

window_all_decides : (S : Setting) (value : Values) (a : ℕ) → Decides (below_all (window_takes Forward S value a) 6) (WindowsTake Forward S value a)
window_all_decides S value a = below_all_decides (window_takes Forward S value a) _ 6 (λ k. le_decides _ _)

-- an arc goes on from a prefix
abbrev pub goes_on : Setting → List ℕ → ℕ → ℕ → Bool
goes_on S arcs v a =
    also (nat_lt a (length S.graph.arcs)) (λ u. also ((arc_at S.graph.arcs a).tail == v) (λ u. also (not (S.is_shut a))
    (λ u. also (below_all (window_takes Forward S (forward_label S arcs).values a) 6) (λ u. is_fresh (visit_over S.graph a) (visits_along S.graph arcs)))))

both : (b : Bool) (next : Unit {0} → Bool) → also b next ≡ true → (b ≡ true) × (next tt ≡ true)
both true next h = (refl, h)
both false next h = absurd (false≢true h)

pub goes_by : (S : Setting) (arcs : List ℕ) (v a : ℕ) → goes_on S arcs v a ≡ true → GoesOn S arcs v a
goes_by S arcs v a h =
    let first = both _ (λ u. also ((arc_at S.graph.arcs a).tail == v) (λ u. also (not (S.is_shut a)) (λ u. also (below_all (window_takes Forward S (forward_label S arcs).values a) 6) (λ u. is_fresh (visit_over S.graph a) (visits_along S.graph arcs))))) h in
    let second = both _ (λ u. also (not (S.is_shut a)) (λ u. also (below_all (window_takes Forward S (forward_label S arcs).values a) 6) (λ u. is_fresh (visit_over S.graph a) (visits_along S.graph arcs)))) first.1 in
    let third = both _ (λ u. also (below_all (window_takes Forward S (forward_label S arcs).values a) 6) (λ u. is_fresh (visit_over S.graph a) (visits_along S.graph arcs))) second.1 in
    let fourth = both _ (λ u. is_fresh (visit_over S.graph a) (visits_along S.graph arcs)) third.1 in
    record {
      there = (Decides-ltb a (length S.graph.arcs)).0 first.0;
      leaves = eqb-true (arc_at S.graph.arcs a).tail v second.0;
      open_arc = (shut_decides (S.is_shut a)).0 third.0;
      takes = (window_all_decides S (forward_label S arcs).values a).0 fourth.0;
      new = fresh_by (visit_over S.graph a) (visits_along S.graph arcs) fourth.1;
    }

-- a step stands among others
abbrev pub is_step : List Step → ℕ → ℕ → ℕ → Bool
is_step steps k a n = ((step_at steps n).parent == k) && ((step_at steps n).arc == a)

abbrev pub step_below : List Step → ℕ → ℕ → ℕ → Bool
step_below steps k a zero = false
step_below steps k a (suc n) = elim (is_step steps k a n) [ true ↦ true | false ↦ step_below steps k a n ]

step_is : (s : Step) (k a : ℕ) → ((s.parent == k) && (s.arc == a)) ≡ true → s ≡ record { parent = k; arc = a }
step_is s k a h =
    let parts = and_parts (s.parent == k) (s.arc == a) h in
    let parent = eqb-true s.parent k parts.0 in
    let arc = eqb-true s.arc a parts.1 in
    λ i. record { parent = parent i; arc = arc i }

step_found : (steps : List Step) (k a n : ℕ) → n ≤ length steps → step_below steps k a n ≡ true → (j : ℕ) × IsStep steps k a j
step_found steps k a zero l h = absurd (false≢true h)
step_found steps k a (suc n) l h = at (is_step steps k a n) refl h (λ q. step_found steps k a n (omega (arith, l)) q)
  where
    at : (b : Bool) → is_step steps k a n ≡ b → (elim b [ true ↦ true | false ↦ step_below steps k a n ]) ≡ true → (step_below steps k a n ≡ true → (j : ℕ) × IsStep steps k a j) → (j : ℕ) × IsStep steps k a j
    at true e q more = (n, record { within = omega (arith, l); is = step_is (step_at steps n) k a e })
    at false e q more = more q

-- a step that stands is found
step_told : (steps : List Step) (k a j n : ℕ) → j < n → step_at steps j ≡ record { parent = k; arc = a } → step_below steps k a n ≡ true
step_told steps k a j zero l e = absurd (omega (arith, l))
step_told steps k a j (suc n) l e = at (is_step steps k a n) refl (cases_lt j n) (λ less. step_told steps k a j n less e)
  where
    same : (s : Step) → s ≡ record { parent = k; arc = a } → ((s.parent == k) && (s.arc == a)) ≡ true
    same s f = and_from (s.parent == k) (s.arc == a) (eq-eqb s.parent k (ap (λ (x : Step). x.parent) f)) (eq-eqb s.arc a (ap (λ (x : Step). x.arc) f))

    at : (b : Bool) → is_step steps k a n ≡ b → (j < n) ⊎ (n ≤ j) → (j < n → step_below steps k a n ≡ true) → (elim b [ true ↦ true | false ↦ step_below steps k a n ]) ≡ true
    at true f c more = refl
    at false f (inl less) more = more less
    at false f (inr past) more =
        let here : j ≡ n = omega (arith, l, past) in
        absurd (false≢true (sym f ∙ same (step_at steps n) (subst (λ (i : ℕ). step_at steps i ≡ record { parent = k; arc = a }) here e)))

pub step_known : (steps : List Step) (k a : ℕ) → Contains steps (record { parent = k; arc = a }) → step_below steps k a (length steps) ≡ true
step_known steps k a h = step_told steps k a h.0 (length steps) h.1 (get_or_default steps h.0 (record { parent = 0; arc = 0 }) (record { parent = k; arc = a }) h.1 ∙ h.2)

-- an arc may be demanded: the label of a prefix joins one of the list within the limit
abbrev pub is_at_most : Option ℤ → ℤ → Bool
is_at_most None x = false
is_at_most (Some limit) x = le_z x limit

at_most_decides : (limit : Option ℤ) (x : ℤ) → Decides (is_at_most limit x) (IsAtMost limit x)
at_most_decides None x = (λ h. absurd (false≢true h), λ h. absurd h)
at_most_decides (Some limit) x = le_decides x limit

abbrev pub joins_some : Setting → List Label → Option ℤ → Label → ℕ → Bool
joins_some S back limit l a = some_of (λ b. also (join_test S l a b) (λ u. is_at_most limit (join_cost S l a b))) back

demanded_joins : (S : Setting) (back : List Label) (limit : Option ℤ) (arcs : List ℕ) (a : ℕ) → IsDemanded S back limit arcs a → joins_some S back limit (forward_label S arcs) a ≡ true
demanded_joins S back limit arcs a is =
    let l : Label = forward_label S arcs in
    (some_decides (λ b. also (join_test S l a b) (λ u. is_at_most limit (join_cost S l a b))) (λ b. Joins S l a b × IsAtMost limit (join_cost S l a b)) back
    (λ b. also_decides (join_test S l a b) (λ u. is_at_most limit (join_cost S l a b)) (join_test_decides S l a b) (at_most_decides limit (join_cost S l a b)))).1
    (is.rest, is.in_back, (is.joins, is.within))

-- each arc that may be demanded of a node has its step
abbrev pub arc_done : Setting → List Label → Option ℤ → List Step → ℕ → Label → ℕ → Bool
arc_done S back limit steps k l a = unless (joins_some S back limit l a) (λ u. step_below steps k a (length steps))

abbrev pub node_done : Setting → List Label → Option ℤ → List Step → ℕ → Bool
node_done S back limit steps k =
    unless (not (node_vertex S steps k == S.graph.ends.sink)) (λ u. below_all (arc_done S back limit steps k (forward_label S (prefix_of steps k))) (length S.graph.arcs))

abbrev pub is_complete : Setting → List Label → Option ℤ → List Step → Bool
is_complete S back limit steps = below_all (node_done S back limit steps) (node_count steps)

-- a test that passes below each number passes at each
all_at : (test : ℕ → Bool) (n : ℕ) → below_all test n ≡ true → (k : ℕ) → k < n → test k ≡ true
all_at test n h = (below_all_decides test (λ k. test k ≡ true) n (λ k. (λ x. x, λ x. x))).0 h

if_so : (b : Bool) (next : Unit {0} → Bool) → unless b next ≡ true → b ≡ true → next tt ≡ true
if_so true next h e = h
if_so false next h e = absurd (false≢true e)

pub complete_by : (S : Setting) (back : List Label) (limit : Option ℤ) (steps : List Step) → IsTree S steps → is_complete S back limit steps ≡ true → IsComplete S back limit steps
complete_by S back limit steps tree done = record {
  tree = tree;
  has_steps = λ k arcs a prefix inside demanded.
      let within = down_within steps 0 arcs k (omega arith) prefix in
      let same = one_prefix S steps k arcs (prefix_of steps k) tree prefix (prefix_of_law S steps k tree within) in
      let at = subst (λ (xs : List ℕ). IsDemanded S back limit xs a) same demanded in
      let node = all_at (node_done S back limit steps) (node_count steps) done k within in
      let apart = (Decides-not (node_vertex S steps k == S.graph.ends.sink) (Decides-eqb (node_vertex S steps k) S.graph.ends.sink)).1 inside in
      let arcs_done = if_so (not (node_vertex S steps k == S.graph.ends.sink)) (λ u. below_all (arc_done S back limit steps k (forward_label S (prefix_of steps k))) (length S.graph.arcs)) node apart in
      let arc = all_at (arc_done S back limit steps k (forward_label S (prefix_of steps k))) (length S.graph.arcs) arcs_done a at.joins.there in
      let step = if_so (joins_some S back limit (forward_label S (prefix_of steps k)) a) (λ u. step_below steps k a (length steps)) arc (demanded_joins S back limit (prefix_of steps k) a at) in
      step_found steps k a (length steps) (omega arith) step;
}
