-- A walk that visits no set twice is refused by no memory; admitted walks.
use Rattle.std.proofs.Common.{append-nil, ◌≡◌, ℕ, ◌+◌, ◌≤◌, ◌&&◌, Bool, true, Option, None, Some, List, [], ◌∷◌, ◌++◌, inl, inr, sym, ◌∙◌, ap, subst, arith}
use Rattle.std.specs.Prelude.{if◌then◌else◌}
use Rattle.std.proofs.lemmas.Bool.{false≢true, or_cases, and_parts, cond-true, eq-eqb, eqb-true}
use Rattle.path_graph.specs.Walk.{IsWalk}
use Rattle.path_graph.specs.Visits.{is_visit, visit_count, visit_over, visits_along}
use Rattle.path_graph.proofs.VisitLemmas.{visit_count-cons}
use Rattle.ng_sets.specs.Memory.{is_visited}
use Rattle.label_rules.specs.Admitted.{AdmittedLaw, ElementaryLaw, ElementaryPrefixLaw, IsAdmitted, IsElementary, VisitsOnce}
use Rattle.label_rules.specs.Labels.{ExtendsAlong, Forward, HasForwardLabel, Label, Setting, SettingFits, extended, root, visit_of}
use Rattle.label_rules.specs.Memories.{AreAccepted, AreAcceptedBackward, IsRefused, memory_backward, nothing}
use Rattle.label_rules.proofs.MemoryLemmas.{refused_set, backward_accepted}
use Rattle.label_rules.proofs.LabelLemmas.{visits, nothing_made, goes_parts, parts_goes}

-- how often arcs enter a set
abbrev count : Setting → List ℕ → ℕ → ℕ
count S arcs s = visit_count s (visits_along S.graph arcs)

visited_is_visit : (set : Option ℕ) (s : ℕ) → is_visited set s ≡ true → is_visit s set ≡ true
visited_is_visit None s v = v
visited_is_visit (Some t) s v = eq-eqb t s (sym (eqb-true s t v))

count-cons : (S : Setting) (a : ℕ) (rest : List ℕ) (s : ℕ) → count S (a ∷ rest) s ≡ (if is_visit s (visit_over S.graph a) then 1 else 0) + count S rest s
count-cons S a rest s = visit_count-cons s (visit_over S.graph a) (visits_along S.graph rest)

counted : (S : Setting) (a : ℕ) (rest : List ℕ) (s : ℕ) → is_visited (visit_of Forward S a).set s ≡ true → count S (a ∷ rest) s ≡ 1 + count S rest s
counted S a rest s v =
    let set = visit_over S.graph a in
    count-cons S a rest s ∙ ap (λ (n : ℕ). n + count S rest s) (cond-true (is_visit s set) 1 0 (visited_is_visit set s v))

-- what is remembered was visited
remembered_counts : (S : Setting) (arcs : List ℕ) (s : ℕ) → memory_backward (visits Forward S arcs) s ≡ true → 1 ≤ count S arcs s
remembered_counts S [] s h = absurd (false≢true h)
remembered_counts S (a ∷ rest) s h =
    let visit = visit_of Forward S a in
    elim (or_cases (memory_backward (visits Forward S rest) s && visit.near s) (is_visited visit.set s) h) [
      | inl old ↦
          let more = remembered_counts S rest s (and_parts (memory_backward (visits Forward S rest) s) (visit.near s) old).0 in
          omega (arith, more, count-cons S a rest s)
      | inr new ↦ omega (arith, counted S a rest s new)
    ]

pub once_accepted : (S : Setting) (arcs : List ℕ) → VisitsOnce S arcs → AreAcceptedBackward (visits Forward S arcs)
once_accepted S [] once = tt
once_accepted S (a ∷ rest) once =
    let set = (visit_of Forward S a).set in
    let free : ¬ (IsRefused (memory_backward (visits Forward S rest)) set) = λ r.
    let at = refused_set (memory_backward (visits Forward S rest)) set r in
    let most = once at.0 in
    omega (arith, most, counted S a rest at.0 at.1, remembered_counts S rest at.0 at.2) in
    (free, once_accepted S rest (λ s. let most = once s in omega (arith, most, count-cons S a rest s)))

-- the label of an elementary partial walk is defined
pub elementary : (S : Setting) (arcs : List ℕ) (v : ℕ) → SettingFits S → IsElementary S arcs v → HasForwardLabel S arcs
elementary S arcs v fits is =
    let accepted = backward_accepted nothing (visits Forward S arcs) (once_accepted S arcs is.once) (λ s m n. false≢true m) in
    parts_goes S (root Forward S) arcs fits.graph (record {
      open_arcs = is.open_arcs;
      passes = is.passes;
      accepted = subst (λ (f : ℕ → Bool). AreAccepted f (visits Forward S arcs)) (sym nothing_made) accepted;
    })

-- so is that of each prefix of arcs whose label is
pub prefix_extends : (S : Setting) (l : Label) (front rest : List ℕ) → ExtendsAlong S l (front ++ rest) → ExtendsAlong S l front
prefix_extends S l [] rest h = tt
prefix_extends S l (a ∷ front) rest h = (h.0, prefix_extends S (extended Forward S l a) front rest h.1)

pub elementary_prefix : ElementaryPrefixLaw
elementary_prefix S front rest v fits is = prefix_extends S (root Forward S) front rest (elementary S (front ++ rest) v fits is)

pub admitted : (S : Setting) (walk : List ℕ) → SettingFits S → IsWalk S.graph walk → HasForwardLabel S walk → IsAdmitted S walk
admitted S walk fits is has = record {
  feasible = record { walk = is; passes = (goes_parts S (root Forward S) walk fits.graph has).passes };
  labels = λ front rest e. prefix_extends S (root Forward S) front rest (subst (HasForwardLabel S) e has);
}

pub admitted_label : (S : Setting) (walk : List ℕ) → IsAdmitted S walk → HasForwardLabel S walk
admitted_label S walk is = is.labels walk [] (sym (append-nil walk))

pub admitted_law : AdmittedLaw
admitted_law S walk fits is = (admitted_label S walk, admitted S walk fits is)

pub elementary_law : ElementaryLaw
elementary_law S walk fits is = admitted S walk fits is.leads (elementary S walk S.graph.ends.sink fits is)
