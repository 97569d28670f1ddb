-- Complete trees list every elementary walk within the limit.
use Rattle.std.proofs.Common.{◌≡◌, ◌≢◌, ℕ, suc, ◌≤◌, ℤ, ◌≤ℤ◌, Option, None, Some, List, [], ◌∷◌, ◌++◌, get_or, cond, append_assoc, refl, sym, ◌∙◌, ap, subst, arith}
use Rattle.std.specs.Prelude.{Contains}
use Rattle.std.proofs.lemmas.Bool.{cond-true, eq-eqb}
use Rattle.std.proofs.lemmas.Int.{ints}
use Rattle.std.proofs.lemmas.List.Sums.{get_or-le-sum_by}
use Rattle.path_graph.specs.declared.parts.Values.{Values}
use Rattle.path_graph.specs.Bounds.{IsAtMost, IsNoGreater}
use Rattle.path_graph.specs.Visits.{is_visit, visit_count, visit_over, visits_along}
use Rattle.path_graph.specs.Walk.{arc_at, Leads, Takes, root_of}
use Rattle.path_graph.proofs.VisitLemmas.{visits_along-append, visit_count-cons, visit_count-append}
use Rattle.path_graph.proofs.WalkLemmas.{leads_split, passes_split}
use Rattle.label_rules.specs.Admitted.{IsElementary, VisitsOnce}
use Rattle.label_rules.specs.Joins.{join_cost}
use Rattle.label_rules.specs.Labels.{Backward, Forward, Setting, SettingFits, forward_label, root}
use Rattle.label_rules.specs.Tables.{IsCover}
use Rattle.label_rules.specs.declared.label.Label.{Label}
use Rattle.proof_rules.specs.PrefixLaws.{CompleteFallsLaw, ListedLaw, PrefixLabelLaw}
use Rattle.proof_rules.specs.PrefixTrees.{IsComplete, IsDemanded, IsPrefix, IsTree, LeadsDown, Step, node_vertex}
use Rattle.label_rules.proofs.AdmittedLemmas.{elementary}
use Rattle.label_rules.proofs.LabelLemmas.{forward_values, forward_vertex, cut_point}
use Rattle.label_rules.proofs.DominanceLemmas.{walk_met}
use Rattle.label_rules.proofs.OrderLemmas.{reflexive}
use Rattle.label_rules.proofs.TableLemmas.{backward_law}
use Rattle.proof_rules.proofs.PrefixTreeLemmas.{down_join}

-- the label of an elementary partial walk is defined
pub prefix_label : PrefixLabelLaw
prefix_label S steps k arcs fits tree prefix = elementary S arcs (node_vertex S steps k) fits (tree.each k arcs prefix)

-- a set that is entered counts
entry_is : (s : ℕ) (v : Option ℕ) → v ≡ Some s → (let n : ℕ = cond (is_visit s v) 1 0 in n) ≡ 1
entry_is s v e = ap (λ (w : Option ℕ). let n : ℕ = cond (is_visit s w) 1 0 in n) e ∙ cond-true (is_visit s (Some s)) 1 0 (eq-eqb s s refl)

entered_counts : (S : Setting) (arcs : List ℕ) (s : ℕ) → Contains (visits_along S.graph arcs) (Some s) → 1 ≤ visit_count s (visits_along S.graph arcs)
entered_counts S arcs s h =
    let here = entry_is s (get_or (visits_along S.graph arcs) h.0 (Some s)) h.2 in
    let most = get_or-le-sum_by (λ (v : Option ℕ). cond (is_visit s v) 1 0) (visits_along S.graph arcs) h.0 (Some s) h.1 in
    omega (arith, here, most)

-- a set that is entered once more was not entered before
enters_new : (S : Setting) (front : List ℕ) (a : ℕ) (rest : List ℕ) (s : ℕ) → VisitsOnce S (front ++ a ∷ rest) → visit_over S.graph a ≡ Some s
    → ¬ (Contains (visits_along S.graph front) (Some s))
enters_new S front a rest s once is h =
    let before = entered_counts S front s h in
    let whole = ap (visit_count s) (visits_along-append S.graph front (a ∷ rest)) ∙ visit_count-append s (visits_along S.graph front) (visits_along S.graph (a ∷ rest)) in
    let next = visit_count-cons s (visit_over S.graph a) (visits_along S.graph rest) in
    let here = entry_is s (visit_over S.graph a) is in
    let most = once s in
    omega (arith, before, whole, next, here, most)

within_less : (limit : Option ℤ) (x y : ℤ) → x ≤ℤ y → IsAtMost limit y → IsAtMost limit x
within_less None x y less h = h
within_less (Some l) x y less h = omega (arith, ints, less, h)

-- at each of its arcs a walk within the limit demands the arc of its prefix
demanded : (S : Setting) (back : List Label) (limit : Option ℤ) (front : List ℕ) (a : ℕ) (rest : List ℕ) → SettingFits S → IsCover Backward S None back
    → IsElementary S (front ++ a ∷ rest) S.graph.ends.sink → IsAtMost limit (forward_label S (front ++ a ∷ rest)).cost → IsDemanded S back limit front a
demanded S back limit front a rest fits closed is within =
    let g = S.graph in
    let has = elementary S (front ++ a ∷ rest) g.ends.sink fits is in
    let parts = (cut_point S front a rest fits is.leads).0 has in
    let leads = leads_split g g.ends.source front (a ∷ rest) g.ends.sink is.leads in
    let passes = passes_split g (root_of g) front (a ∷ rest) is.passes in
    let r = backward_law S back rest (arc_at g.arcs a).head fits closed leads.2.2 parts.1 in
    let met = walk_met S front a rest (forward_label S front) r.by fits is.leads has (reflexive Forward S (forward_label S front)) r.dominates in
    record {
      takes = subst (λ (x : Values). Takes g x a) (sym (forward_values S (root Forward S) front)) passes.1.0;
      new = λ s e. enters_new S front a rest s is.once e;
      label = parts.0;
      rest = r.by;
      in_back = r.listed;
      joins = met.joins;
      within = within_less limit (join_cost S (forward_label S front) a r.by) (forward_label S (front ++ a ∷ rest)).cost met.cost within;
    }

-- the vertex of a node is where its prefix ends
pub prefix_ends : (S : Setting) (steps : List Step) (k : ℕ) (arcs : List ℕ) (v : ℕ) → IsTree S steps → IsPrefix steps k arcs → Leads S.graph S.graph.ends.source arcs v → node_vertex S steps k ≡ v
prefix_ends S steps k arcs v tree prefix leads =
    sym (forward_vertex S (root Forward S) arcs (node_vertex S steps k) (tree.each k arcs prefix).leads) ∙ forward_vertex S (root Forward S) arcs v leads

-- from a node on
found : (S : Setting) (back : List Label) (limit : Option ℤ) (steps : List Step) (walk front rest : List ℕ) (k : ℕ) → SettingFits S → IsCover Backward S None back
    → IsComplete S back limit steps → IsElementary S walk S.graph.ends.sink → IsAtMost limit (forward_label S walk).cost → walk ≡ front ++ rest → IsPrefix steps k front
    → (m : ℕ) × LeadsDown steps k rest m
found S back limit steps walk front [] k fits closed complete is within split prefix = (k, refl)
found S back limit steps walk front (a ∷ rest) k fits closed complete is within split prefix =
    let g = S.graph in
    let here = subst (λ (arcs : List ℕ). IsElementary S arcs g.ends.sink) split is in
    let leads = leads_split g g.ends.source front (a ∷ rest) g.ends.sink here.leads in
    let inside : node_vertex S steps k ≢ g.ends.sink = λ e.
    (fits.graph.fits.each_arc a _ leads.2.0).not_out (leads.2.1 ∙ (sym (prefix_ends S steps k front leads.0 complete.tree prefix leads.1) ∙ e)) in
    let wanted = demanded S back limit front a rest fits closed here (subst (λ (arcs : List ℕ). IsAtMost limit (forward_label S arcs).cost) split within) in
    let step = complete.has_steps k front a prefix inside wanted in
    let next = down_join steps 0 front k (a ∷ []) (suc step.0) prefix (step.0, step.1, refl) in
    let more = found S back limit steps walk (front ++ a ∷ []) rest (suc step.0) fits closed complete is within (split ∙ sym (append_assoc front (a ∷ []) rest)) next in
    (more.0, (step.0, step.1, more.1))

pub listed : ListedLaw
listed S back limit steps walk fits closed complete is within =
    let at = found S back limit steps walk [] walk 0 fits closed complete is within refl refl in
    record {
      node = at.0;
      at_sink = prefix_ends S steps at.0 walk S.graph.ends.sink complete.tree at.1 is.leads;
      prefix = at.1;
    }

-- where the limit falls, less is demanded
within_greater : (less limit : Option ℤ) (x : ℤ) → IsNoGreater less limit → IsAtMost less x → IsAtMost limit x
within_greater None limit x falls h = absurd h
within_greater (Some l) None x falls h = absurd falls
within_greater (Some l) (Some m) x falls h = omega (arith, ints, falls, h)

pub complete_falls : CompleteFallsLaw
complete_falls S back less limit steps falls complete = record {
  tree = complete.tree;
  has_steps = λ k arcs a prefix inside is. complete.has_steps k arcs a prefix inside (record {
    takes = is.takes;
    new = is.new;
    rest = is.rest;
    label = is.label;
    in_back = is.in_back;
    joins = is.joins;
    within = within_greater less limit (join_cost S (forward_label S arcs) a is.rest) falls is.within;
  });
}
