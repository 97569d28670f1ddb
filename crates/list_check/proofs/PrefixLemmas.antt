-- What is kept of a prefix, and what an arc makes of it.
use Rattle.std.proofs.Common.{◌≡◌, ℕ, ◌<◌, ◌≤◌, ◌||◌, Bool, true, false, cond, ℤ, ◌≤ℤ◌, Option, None, Some, List, [], ◌∷◌, ◌++◌, length, get_or, inl, inr, refl, sym, ◌∙◌, ap, subst, arith, ◌⊎◌}
use Rattle.std.specs.Prelude.{Contains, IsTrue, ◌↔◌}
use Rattle.std.proofs.lemmas.Bool.{false≢true, cond-true, eq-eqb, eqb-true}
use Rattle.std.proofs.lemmas.List.Sums.{get_or-le-sum_by}
use Rattle.std.proofs.lemmas.List.Elements.{Contains-append_left, Contains-push, Contains-push_cases}
use Rattle.path_graph.specs.declared.parts.Values.{Values}
use Rattle.path_graph.specs.declared.set_bits.SetBits.{SetBits}
use Rattle.path_graph.specs.SetBits.{HasNoMember, has_set}
use Rattle.path_graph.specs.Fit.{vertex_at}
use Rattle.path_graph.specs.Visits.{is_visit, visit_count, visit_over, visits_along}
use Rattle.path_graph.specs.Walk.{Takes, arc_at, root_of}
use Rattle.path_graph.proofs.VisitLemmas.{visits_along-append, visit_count-cons, visit_count-append}
use Rattle.path_graph.proofs.WalkLemmas.{leads_split, moved_is_within, passes_split}
use Rattle.ng_sets.specs.Memory.{is_visited}
use Rattle.label_rules.specs.Admitted.{AreOpen, IsElementary}
use Rattle.label_rules.specs.Joins.{Joins, join_cost}
use Rattle.label_rules.specs.declared.label.Label.{Label}
use Rattle.label_rules.specs.Labels.{CanExtend, ExtendsAlong, Forward, Setting, SettingFits, extended, label_from, root}
use Rattle.label_rules.specs.Spaces.{CostsFit, IsLabel, is_label}
use Rattle.label_rules.proofs.AdmittedLemmas.{elementary}
use Rattle.label_rules.proofs.LabelLemmas.{forward_values, forward_vertex}
use Rattle.label_rules.proofs.LevelLemmas.{extended_in_range, extended_unused}
use Rattle.label_rules.proofs.OrderLemmas.{extended_states}
use Rattle.label_rules.proofs.SpaceLemmas.{lawful}
use Rattle.label_rules.proofs.TestLemmas.{label_decides}
use Rattle.proof_rules.specs.PrefixLaws.{GoesOn, head_of}
use Rattle.proof_rules.specs.PrefixTrees.{IsDemanded}
use Rattle.proof_rules.proofs.GrowthLemmas.{demanded_step, elementary_step}
use Rattle.list_check.specs.Prefixes.{GoesOver, IsOver, IsPrefixLabel, IsWanted}

-- the label after one more arc
pub label_from-push : (S : Setting) (l : Label) (xs : List ℕ) (a : ℕ) → label_from S l (xs ++ a ∷ []) ≡ extended Forward S (label_from S l xs) a
label_from-push S l [] a = refl
label_from-push S l (x ∷ xs) a = label_from-push S (extended Forward S l x) xs a

extends_last : (S : Setting) (l : Label) (xs : List ℕ) (a : ℕ) → ExtendsAlong S l (xs ++ a ∷ []) → CanExtend Forward S (label_from S l xs) a
extends_last S l [] a h = h.0
extends_last S l (x ∷ xs) a h = extends_last S (extended Forward S l x) xs a h.1

-- what is visited, as a test
none_visited : (x : Bool) → ¬ (IsTrue x) → x ≡ false
none_visited true h = absurd (h refl)
none_visited false h = refl

or_cases : (x y : Bool) → (x || y) ≡ true → (x ≡ true) ⊎ (y ≡ true)
or_cases true y h = inl refl
or_cases false y h = inr h

or_left : (x y : Bool) → x ≡ true → (x || y) ≡ true
or_left x y h = ap (λ (b : Bool). b || y) h

or_right : (x y : Bool) → y ≡ true → (x || y) ≡ true
or_right true y h = refl
or_right false y h = h

visited_is : (v : Option ℕ) (s : ℕ) → is_visited v s ≡ true → v ≡ Some s
visited_is None s h = absurd (false≢true h)
visited_is (Some t) s h = ap Some (sym (eqb-true s t h))

is_visited_by : (v : Option ℕ) (s : ℕ) → v ≡ Some s → is_visited v s ≡ true
is_visited_by v s e = ap (λ (w : Option ℕ). is_visited w s) e ∙ eq-eqb s s refl

-- an open arc over which a prefix stays elementary is one over which its label goes on
pub goes_on_from : (S : Setting) (arcs : List ℕ) (label : Label) (visited : SetBits) (a : ℕ) → IsPrefixLabel S arcs label visited → GoesOver S label visited a → GoesOn S arcs label.vertex a
goes_on_from S arcs label visited a is goes = record {
  there = goes.there;
  leaves = goes.leaves;
  open_arc = goes.can.open_arc;
  takes = subst (λ (l : Label). Takes S.graph l.values a) is.is goes.can.values;
  new = λ s e met. false≢true (sym (goes.new s e) ∙ (is.visits s).1 met);
}

pub goes_over_from : (S : Setting) (arcs : List ℕ) (label : Label) (visited : SetBits) (a : ℕ) → SettingFits S → IsPrefixLabel S arcs label visited → GoesOn S arcs label.vertex a → GoesOver S label visited a
goes_over_from S arcs label visited a fits is goes =
    let next = elementary_step S arcs label.vertex a is.elementary goes in
    let has = elementary S (arcs ++ a ∷ []) (head_of S a) fits next in
    record {
      there = goes.there;
      leaves = goes.leaves;
      can = subst (λ (l : Label). CanExtend Forward S l a) (sym is.is) (extends_last S (root Forward S) arcs a has);
      new = λ s e. none_visited (has_set visited s) (λ met. goes.new s e ((is.visits s).0 met));
    }

-- the last arc of an elementary prefix goes on from those before it
open_split : (S : Setting) (xs : List ℕ) (a : ℕ) → AreOpen S (xs ++ a ∷ []) → S.is_shut a ≡ false
open_split S [] a h = h.0
open_split S (x ∷ xs) a h = open_split S xs a h.1

entry_is : (s : ℕ) (v : Option ℕ) → v ≡ Some s → (let n : ℕ = cond (is_visit s v) 1 0 in n) ≡ 1
entry_is s v e = ap (λ (w : Option ℕ). let n : ℕ = cond (is_visit s w) 1 0 in n) e ∙ cond-true (is_visit s (Some s)) 1 0 (eq-eqb s s refl)

entered_counts : (visits : List (Option ℕ)) (s : ℕ) → Contains visits (Some s) → 1 ≤ visit_count s visits
entered_counts visits s h =
    let here = entry_is s (get_or visits h.0 (Some s)) h.2 in
    let most = get_or-le-sum_by (λ (v : Option ℕ). cond (is_visit s v) 1 0) visits h.0 (Some s) h.1 in
    omega (arith, here, most)

enters_new : (S : Setting) (arcs : List ℕ) (a s : ℕ) → visit_count s (visits_along S.graph (arcs ++ a ∷ [])) ≤ 1 → visit_over S.graph a ≡ Some s → ¬ (Contains (visits_along S.graph arcs) (Some s))
enters_new S arcs a s once is h =
    let before = entered_counts (visits_along S.graph arcs) s h in
    let whole = ap (visit_count s) (visits_along-append S.graph arcs (a ∷ [])) ∙ visit_count-append s (visits_along S.graph arcs) (visit_over S.graph a ∷ []) in
    let next = visit_count-cons s (visit_over S.graph a) [] in
    let here = entry_is s (visit_over S.graph a) is in
    omega (arith, before, whole, next, here, once)

pub last_goes_on : (S : Setting) (arcs : List ℕ) (a v w : ℕ) → IsElementary S arcs v → IsElementary S (arcs ++ a ∷ []) w → GoesOn S arcs v a
last_goes_on S arcs a v w before whole =
    let g = S.graph in
    let leads = leads_split g g.ends.source arcs (a ∷ []) w whole.leads in
    let passes = passes_split g (root_of g) arcs (a ∷ []) whole.passes in
    let here : leads.0 ≡ v = sym (forward_vertex S (root Forward S) arcs leads.0 leads.1) ∙ forward_vertex S (root Forward S) arcs v before.leads in
    record {
      there = leads.2.0;
      leaves = leads.2.1 ∙ here;
      open_arc = open_split S arcs a whole.open_arcs;
      takes = subst (λ (x : Values). Takes g x a) (sym (forward_values S (root Forward S) arcs)) passes.1.0;
      new = λ s e. enters_new S arcs a s (whole.once s) e;
    }

-- the label of the prefix without arcs
pub first_label : (S : Setting) (visited : SetBits) → SettingFits S → CostsFit S → HasNoMember visited → IsPrefixLabel S [] (root Forward S) visited
first_label S visited fits costs none = record {
  elementary = record { leads = refl; passes = tt; open_arcs = tt; once = λ s. omega arith };
  is = refl;
  fits = (lawful Forward S None (length S.graph.vertices) (λ (v : ℕ) (x y : ℤ). v) fits costs (λ l lies. lies.vertex)).root_fits;
  visits = λ s. (λ met. absurd (false≢true (sym (none s) ∙ met)), λ met. absurd (omega (arith, met.1)));
}

-- an extension of a label is a label
extended_label : (S : Setting) (l : Label) (a : ℕ) → SettingFits S → CostsFit S → is_label Forward S l ≡ true → a < length S.graph.arcs → (arc_at S.graph.arcs a).tail ≡ l.vertex
    → CanExtend Forward S l a → is_label Forward S (extended Forward S l a) ≡ true
extended_label S l a fits costs fit there from can =
    let is = (label_decides Forward S l).0 fit in
    let g = S.graph in
    let next : IsLabel Forward S (extended Forward S l a) = record {
      windows = record {
        vertex = (fits.graph.fits.each_arc a _ there).head;
        values = moved_is_within l.values.at (arc_at g.arcs a).needs (vertex_at g.vertices (arc_at g.arcs a).head).windows can.values;
      };
      states = extended_states Forward S l a fits is.states;
      unused = λ i within past. extended_unused Forward S l a i past;
      cost = extended_in_range Forward S l a fits costs there from is.cost;
    } in
    (label_decides Forward S (extended Forward S l a)).1 next

-- what is kept after one more arc
more_visits : (S : Setting) (arcs : List ℕ) (visited more : SetBits) (a s : ℕ) → (IsTrue (has_set visited s) ↔ Contains (visits_along S.graph arcs) (Some s))
    → has_set more s ≡ (has_set visited s || is_visited (visit_over S.graph a) s) → IsTrue (has_set more s) ↔ Contains (visits_along S.graph (arcs ++ a ∷ [])) (Some s)
more_visits S arcs visited more a s before is =
    let visits : List (Option ℕ) = visits_along S.graph arcs in
    let v : Option ℕ = visit_over S.graph a in
    let whole : visits_along S.graph (arcs ++ a ∷ []) ≡ visits ++ v ∷ [] = visits_along-append S.graph arcs (a ∷ []) in (
      λ met. subst (λ (xs : List (Option ℕ)). Contains xs (Some s)) (sym whole) (elim (or_cases (has_set visited s) (is_visited v s) (sym is ∙ met)) [
        | inl old ↦ Contains-append_left visits (v ∷ []) (Some s) (before.0 old)
        | inr new ↦ subst (λ (x : Option ℕ). Contains (visits ++ v ∷ []) x) (visited_is v s new) (Contains-push visits v)
      ]),
      λ met. is ∙ elim (Contains-push_cases visits v (Some s) (subst (λ (xs : List (Option ℕ)). Contains xs (Some s)) whole met)) [
        | inl old ↦ or_left (has_set visited s) (is_visited v s) (before.1 old)
        | inr new ↦ or_right (has_set visited s) (is_visited v s) (is_visited_by v s new)
      ],
    )

pub next_label : (S : Setting) (arcs : List ℕ) (label next : Label) (visited more : SetBits) (a : ℕ) → SettingFits S → CostsFit S → IsPrefixLabel S arcs label visited
    → IsOver S label visited a next more → IsPrefixLabel S (arcs ++ a ∷ []) next more
next_label S arcs label next visited more a fits costs is over =
    let goes = goes_on_from S arcs label visited a is over.goes in
    let vertex : next.vertex ≡ head_of S a = ap (λ (l : Label). l.vertex) over.is in
    record {
      elementary = subst (IsElementary S (arcs ++ a ∷ [])) (sym vertex) (elementary_step S arcs label.vertex a is.elementary goes);
      is = over.is ∙ (ap (λ (l : Label). extended Forward S l a) is.is ∙ sym (label_from-push S (root Forward S) arcs a));
      fits = subst (λ (l : Label). is_label Forward S l ≡ true) (sym over.is) (extended_label S label a fits costs is.fits over.goes.there over.goes.leaves over.goes.can);
      visits = λ s. more_visits S arcs visited more a s (is.visits s) (over.visits s);
    }

-- the wanted arcs are those that are demanded
pub demanded_from : (S : Setting) (back : List Label) (limit : ℤ) (arcs : List ℕ) (label : Label) (visited : SetBits) (a : ℕ) → SettingFits S → IsPrefixLabel S arcs label visited
    → IsWanted S back limit label visited a → IsDemanded S back (Some limit) arcs a
demanded_from S back limit arcs label visited a fits is wanted =
    let goes = goes_on_from S arcs label visited a is wanted.goes in
    record {
      takes = goes.takes;
      new = goes.new;
      label = elementary S arcs label.vertex fits is.elementary;
      rest = wanted.joins.rest;
      in_back = wanted.joins.in_back;
      joins = subst (λ (l : Label). Joins S l a wanted.joins.rest) is.is wanted.joins.join.joins;
      within = subst (λ (l : Label). join_cost S l a wanted.joins.rest ≤ℤ limit) is.is wanted.joins.join.cost;
    }

pub wanted_from : (S : Setting) (back : List Label) (limit : ℤ) (arcs : List ℕ) (label : Label) (visited : SetBits) (a : ℕ) → SettingFits S → IsPrefixLabel S arcs label visited
    → IsDemanded S back (Some limit) arcs a → IsWanted S back limit label visited a
wanted_from S back limit arcs label visited a fits is demanded = record {
  goes = goes_over_from S arcs label visited a fits is (demanded_step S back (Some limit) arcs label.vertex a is.elementary demanded);
  joins = record {
    rest = demanded.rest;
    in_back = demanded.in_back;
    join = record {
      joins = subst (λ (l : Label). Joins S l a demanded.rest) (sym is.is) demanded.joins;
      cost = subst (λ (l : Label). join_cost S l a demanded.rest ≤ℤ limit) (sym is.is) demanded.within;
    };
  };
}
