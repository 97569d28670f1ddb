-- Labels from either end: their values and memories, up to the law that a walk may be cut at any arc.
use Rattle.std.proofs.Common.{◌≡◌, ◌↔◌, ℕ, ◌<◌, ◌&&◌, nat_lt, Bool, true, Option, None, Some, List, [], ◌∷◌, ◌++◌, length, map, append_assoc, inl, inr, refl, sym, ◌∙◌, ap, subst, arith}
use Rattle.std.specs.Prelude.{IfSome}
use Rattle.std.proofs.lemmas.Bool.{false≢true, cases_lt, or_cases, and_parts, and_from, lt-ltb, eqb-true}
use Rattle.std.proofs.lemmas.List.{map-append, get_or_past}
use Rattle.path_graph.specs.declared.set_bits.SetBits.{SetBits}
use Rattle.path_graph.specs.declared.parts.Values.{Values}
use Rattle.path_graph.specs.declared.parts.Vertex.{Vertex}
use Rattle.path_graph.specs.Fit.{vertex_at}
use Rattle.path_graph.specs.SetBits.{has_set, set_of}
use Rattle.path_graph.specs.Walk.{GraphParts, IsGraph, arc_at, Leads, IsWalk, Passes, over_of, root_of, values_at_end, IsFeasibleWalk}
use Rattle.path_graph.specs.Rest.{HasBackward, IsPartial, back_of, TakesBack, Join}
use Rattle.path_graph.specs.Within.{AreWithin}
use Rattle.path_graph.proofs.SetBitsLemmas.{same_tests, member-below}
use Rattle.path_graph.proofs.SetBitsMade.{has_set-set_of}
use Rattle.path_graph.proofs.WalkLemmas.{leads_split, passes_split, within_at_end, root_is_within, moved_is_within}
use Rattle.path_graph.proofs.RestLemmas.{join_law, rest_has, backward_within}
use Rattle.ng_sets.specs.Memory.{IsRemembered, is_visited}
use Rattle.label_rules.specs.Admitted.{AreOpen}
use Rattle.label_rules.specs.Joins.{CutPointLaw, Joins}
use Rattle.label_rules.specs.Labels.{Backward, Direction, ExtendsAlong, Forward, HasBackwardLabel, HasForwardLabel, Label, Setting, SettingFits, backward_label, extended, forward_label, label_from, memory_after, root, visit_at, visit_of}
use Rattle.label_rules.specs.Memories.{AreAccepted, AreAcceptedBackward, AreDisjoint, IsRefused, Visit, memory_backward, memory_forward, nothing, remembered}
use Rattle.label_rules.proofs.MemoryLemmas.{accepted_split, accepted_append, accepted_meet, meet_accepted}

-- the sets of a memory are those that are remembered
visited-below : (set : Option ℕ) (s : ℕ) → IfSome set (λ t. t < 512) → is_visited set s ≡ true → s < 512
visited-below None s small v = absurd (false≢true v)
visited-below (Some t) s small v = omega (arith, eqb-true s t v, small)

remembered-below : (memory : SetBits) (visit : Visit) (s : ℕ) → IfSome visit.set (λ t. t < 512) → remembered (has_set memory) visit s ≡ true → s < 512
remembered-below memory visit s small h = elim (or_cases (has_set memory s && visit.near s) (is_visited visit.set s) h) [
  | inl old ↦ member-below memory s (and_parts (has_set memory s) (visit.near s) old).0
  | inr new ↦ visited-below visit.set s small new
]

made_same : (test : ℕ → Bool) → ((s : ℕ) → test s ≡ true → s < 512) → has_set (set_of test) ≡ test
made_same test small = λ i s. each s i
  where
    each : (s : ℕ) → has_set (set_of test) s ≡ test s
    each s = has_set-set_of test s ∙ same_tests (nat_lt s 512 && test s) (test s)
        (λ h. (and_parts (nat_lt s 512) (test s) h).1)
        (λ h. and_from (nat_lt s 512) (test s) (lt-ltb s 512 (small s h)) h)

pub set_small : (g : GraphParts) (v : ℕ) → IsGraph g → IfSome (vertex_at g.vertices v).set (λ s. s < 512)
set_small g v graph = elim (cases_lt v (length g.vertices)) [
  | inl l ↦ (graph.fits.each_vertex v _ l).set
  | inr l ↦
      let past : vertex_at g.vertices v ≡ record { set = None; windows = [] } = get_or_past g.vertices v (record { set = None; windows = [] }) l in
      subst (λ (x : Vertex). IfSome x.set (λ s. s < 512)) (sym past) tt
]

pub memory_recalls : (S : Setting) (memory : SetBits) (v : ℕ) → IsGraph S.graph → has_set (memory_after memory (visit_at S v)) ≡ remembered (has_set memory) (visit_at S v)
memory_recalls S memory v graph =
    made_same (remembered (has_set memory) (visit_at S v)) (λ s h. remembered-below memory (visit_at S v) s (set_small S.graph v graph) h)

pub nothing_made : has_set (set_of nothing) ≡ nothing
nothing_made = made_same nothing (λ s h. absurd (false≢true h))

-- a visit is refused by a memory where it is by the sets that this has
remembered_refused : (memory : SetBits) (test : ℕ → Bool) (set : Option ℕ) → has_set memory ≡ test → IsRemembered memory set → IsRefused test set
remembered_refused memory test None e h = h
remembered_refused memory test (Some s) e h = subst (λ (f : ℕ → Bool). f s ≡ true) e h

refused_remembered : (memory : SetBits) (test : ℕ → Bool) (set : Option ℕ) → has_set memory ≡ test → IsRefused test set → IsRemembered memory set
refused_remembered memory test None e h = h
refused_remembered memory test (Some s) e h = subst (λ (f : ℕ → Bool). f s ≡ true) (sym e) h

-- the visits of a partial walk, and those of a rest
abbrev pub visits : Direction → Setting → List ℕ → List Visit
visits direction S arcs = map (visit_of direction S) arcs

-- the vertex that arcs begin at, and those that they lead to, are the vertices that they come from, and the last
pub visits_shift : (S : Setting) (v : ℕ) (arcs : List ℕ) (w : ℕ) → Leads S.graph v arcs w → visit_at S v ∷ visits Forward S arcs ≡ visits Backward S arcs ++ visit_at S w ∷ []
visits_shift S v [] w h = ap (λ (u : ℕ). visit_at S u ∷ []) h
visits_shift S v (a ∷ rest) w h =
    let more = visits_shift S (arc_at S.graph.arcs a).head rest w h.2 in
    ap (λ (u : ℕ). visit_at S u ∷ visits Forward S (a ∷ rest)) (sym h.1)
    ∙ ap (λ (xs : List Visit). visit_of Backward S a ∷ xs) more

-- the memories of labels
pub forward_memory : (S : Setting) (l : Label) (arcs : List ℕ) → IsGraph S.graph → has_set (label_from S l arcs).memory ≡ memory_forward (has_set l.memory) (visits Forward S arcs)
forward_memory S l [] graph = refl
forward_memory S l (a ∷ rest) graph =
    forward_memory S (extended Forward S l a) rest graph
    ∙ ap (λ (f : ℕ → Bool). memory_forward f (visits Forward S rest)) (memory_recalls S l.memory (arc_at S.graph.arcs a).head graph)

pub backward_memory : (S : Setting) (arcs : List ℕ) → IsGraph S.graph → has_set (backward_label S arcs).memory ≡ memory_backward (visits Backward S arcs)
backward_memory S [] graph = nothing_made
backward_memory S (a ∷ rest) graph =
    memory_recalls S (backward_label S rest).memory (arc_at S.graph.arcs a).tail graph
    ∙ ap (λ (f : ℕ → Bool). remembered f (visit_of Backward S a)) (backward_memory S rest graph)

-- the arcs of two lists
pub open_append : (S : Setting) (xs ys : List ℕ) → AreOpen S xs → AreOpen S ys → AreOpen S (xs ++ ys)
open_append S [] ys h k = k
open_append S (a ∷ rest) ys h k = (h.0, open_append S rest ys h.1 k)

open_split : (S : Setting) (xs ys : List ℕ) → AreOpen S (xs ++ ys) → AreOpen S xs × AreOpen S ys
open_split S [] ys h = (tt, h)
open_split S (a ∷ rest) ys h =
    let more = open_split S rest ys h.1 in
    ((h.0, more.0), more.1)

-- arcs from a label have labels where they are open, the windows take the values, and the visits are accepted
pub record Goes (S : Setting) (l : Label) (arcs : List ℕ) : Type 0 where
  pub open_arcs : AreOpen S arcs
  pub passes : Passes S.graph l.values arcs
  pub accepted : AreAccepted (has_set l.memory) (visits Forward S arcs)

pub goes_parts : (S : Setting) (l : Label) (arcs : List ℕ) → IsGraph S.graph → ExtendsAlong S l arcs → Goes S l arcs
goes_parts S l [] graph h = record { open_arcs = tt; passes = tt; accepted = tt }
goes_parts S l (a ∷ rest) graph h =
    let more = goes_parts S (extended Forward S l a) rest graph h.1 in
    record {
      open_arcs = (h.0.open_arc, more.open_arcs);
      passes = (h.0.values, more.passes);
      accepted = (
        λ r. h.0.memory (refused_remembered l.memory (has_set l.memory) (visit_of Forward S a).set refl r),
        subst (λ (f : ℕ → Bool). AreAccepted f (visits Forward S rest)) (memory_recalls S l.memory (arc_at S.graph.arcs a).head graph) more.accepted,
      );
    }

pub parts_goes : (S : Setting) (l : Label) (arcs : List ℕ) → IsGraph S.graph → Goes S l arcs → ExtendsAlong S l arcs
parts_goes S l [] graph h = tt
parts_goes S l (a ∷ rest) graph h = (
  record {
    open_arc = h.open_arcs.0;
    values = h.passes.0;
    memory = λ r. h.accepted.0 (remembered_refused l.memory (has_set l.memory) (visit_of Forward S a).set refl r);
  },
  parts_goes S (extended Forward S l a) rest graph (record {
    open_arcs = h.open_arcs.1;
    passes = h.passes.1;
    accepted = subst (λ (f : ℕ → Bool). AreAccepted f (visits Forward S rest)) (sym (memory_recalls S l.memory (arc_at S.graph.arcs a).head graph)) h.accepted.1;
  }),
)

pub forward_values : (S : Setting) (l : Label) (arcs : List ℕ) → (label_from S l arcs).values ≡ values_at_end S.graph l.values arcs
forward_values S l [] = refl
forward_values S l (a ∷ rest) = forward_values S (extended Forward S l a) rest

-- the same of a rest
pub record GoesBackward (S : Setting) (arcs : List ℕ) : Type 0 where
  pub open_arcs : AreOpen S arcs
  pub values : HasBackward S.graph arcs (backward_label S arcs).values
  pub accepted : AreAcceptedBackward (visits Backward S arcs)

pub backward_parts : (S : Setting) (arcs : List ℕ) → IsGraph S.graph → HasBackwardLabel S arcs → GoesBackward S arcs
backward_parts S [] graph h = record { open_arcs = tt; values = refl; accepted = tt }
backward_parts S (a ∷ rest) graph h =
    let more = backward_parts S rest graph h.1 in
    record {
      open_arcs = (h.0.open_arc, more.open_arcs);
      values = ((backward_label S rest).values, more.values, h.0.values, refl);
      accepted = (
        λ r. h.0.memory (refused_remembered (backward_label S rest).memory (memory_backward (visits Backward S rest)) (visit_of Backward S a).set (backward_memory S rest graph) r),
        more.accepted,
      );
    }

-- the backward values of a rest are those of its label
pub backward_is : (S : Setting) (arcs : List ℕ) (b : Values) → HasBackward S.graph arcs b → b ≡ (backward_label S arcs).values
backward_is S [] b h = h
backward_is S (a ∷ rest) b h = h.3 ∙ ap (λ (x : Values). back_of S.graph x a) (backward_is S rest h.0 h.1)

pub parts_backward : (S : Setting) (arcs : List ℕ) (b : Values) → IsGraph S.graph → AreOpen S arcs → HasBackward S.graph arcs b → AreAcceptedBackward (visits Backward S arcs) → HasBackwardLabel S arcs
parts_backward S [] b graph o h k = tt
parts_backward S (a ∷ rest) b graph o h k = (
  record {
    open_arc = o.0;
    values = subst (λ (x : Values). TakesBack S.graph x a) (backward_is S rest h.0 h.1) h.2;
    memory = λ r. k.0 (remembered_refused (backward_label S rest).memory (memory_backward (visits Backward S rest)) (visit_of Backward S a).set (backward_memory S rest graph) r);
  },
  parts_backward S rest h.0 graph o.1 h.1 k.1,
)

-- the vertex of a label is where its arcs end, or begin
pub forward_vertex : (S : Setting) (l : Label) (arcs : List ℕ) (v : ℕ) → Leads S.graph l.vertex arcs v → (label_from S l arcs).vertex ≡ v
forward_vertex S l [] v h = h
forward_vertex S l (a ∷ rest) v h = forward_vertex S (extended Forward S l a) rest v h.2

pub backward_vertex : (S : Setting) (arcs : List ℕ) (v : ℕ) → Leads S.graph v arcs S.graph.ends.sink → (backward_label S arcs).vertex ≡ v
backward_vertex S [] v h = sym h
backward_vertex S (a ∷ rest) v h = h.1

-- a visit of no set is never refused
visit_none : (memory : ℕ → Bool) (set : Option ℕ) → set ≡ None → ¬ (IsRefused memory set)
visit_none memory set e = subst (λ (o : Option ℕ). ¬ (IsRefused memory o)) (sym e) (λ h. h)

-- a walk that is cut at an arc
module _ (S : Setting) (front : List ℕ) (a : ℕ) (rest : List ℕ) (fits : SettingFits S) (walk : IsWalk S.graph (front ++ a ∷ rest)) where
  abbrev g : GraphParts
  g = S.graph

  abbrev both : List Visit
  both = visits Forward S front ++ visits Backward S rest

  abbrev last : Visit
  last = visit_at S g.ends.sink

  parts : (v : ℕ) × Leads g g.ends.source front v × Leads g v (a ∷ rest) g.ends.sink
  parts = leads_split g g.ends.source front (a ∷ rest) g.ends.sink walk

  leads : Leads g g.ends.source front (arc_at g.arcs a).tail
  leads = subst (λ (v : ℕ). Leads g g.ends.source front v) (sym parts.2.1) parts.1

  -- the visits of the walk are those from either end, and the sink's, which is of no set
  pub visits_whole : visits Forward S (front ++ a ∷ rest) ≡ both ++ last ∷ []
  visits_whole =
      map-append (visit_of Forward S) front (a ∷ rest)
      ∙ (ap (λ (xs : List Visit). visits Forward S front ++ xs) (visits_shift S (arc_at g.arcs a).head rest g.ends.sink parts.2.2)
      ∙ sym (append_assoc (visits Forward S front) (visits Backward S rest) (last ∷ [])))

  accepted_both : AreAccepted nothing (visits Forward S (front ++ a ∷ rest)) → AreAccepted nothing both
  accepted_both h = (accepted_split nothing both (last ∷ []) (subst (AreAccepted nothing) visits_whole h)).0

  both_accepted : AreAccepted nothing both → AreAccepted nothing (visits Forward S (front ++ a ∷ rest))
  both_accepted h =
      subst (AreAccepted nothing) (sym visits_whole)
      (accepted_append nothing both (last ∷ []) h (visit_none (memory_forward nothing both) last.set fits.graph.fits.sink_free, tt))

  -- the memories of the two labels
  front_memory : has_set (forward_label S front).memory ≡ memory_forward nothing (visits Forward S front)
  front_memory =
      forward_memory S (root Forward S) front fits.graph
      ∙ ap (λ (f : ℕ → Bool). memory_forward f (visits Forward S front)) nothing_made

  rest_memory : has_set (backward_label S rest).memory ≡ memory_backward (visits Backward S rest)
  rest_memory = backward_memory S rest fits.graph

  arc_there : a < length g.arcs
  arc_there = parts.2.0

  partial : Passes g (root_of g) front → IsPartial g front (arc_at g.arcs a).tail (forward_label S front).values
  partial p = record { leads = leads; passes = p; values = forward_values S (root Forward S) front }

  front_within : Passes g (root_of g) front → AreWithin (vertex_at g.vertices (arc_at g.arcs a).tail).windows (forward_label S front).values
  front_within p =
      subst (λ (x : Values). AreWithin (vertex_at g.vertices (arc_at g.arcs a).tail).windows x) (sym (forward_values S (root Forward S) front))
      (within_at_end g g.ends.source (root_of g) front (arc_at g.arcs a).tail leads p (root_is_within g fits.graph))

  -- values of the parts join exactly where the walk is feasible
  values_law : Passes g (root_of g) front → HasBackward g rest (backward_label S rest).values → Join g (forward_label S front).values a (backward_label S rest).values ↔ IsFeasibleWalk g (front ++ a ∷ rest)
  values_law p b =
      join_law g a (forward_label S front).values (backward_label S rest).values front rest fits.graph arc_there (front_within p)
      (backward_within g rest (arc_at g.arcs a).head (backward_label S rest).values fits.graph parts.2.2 b) (partial p) (record { leads = parts.2.2; values = b })

  disjoint_sets : AreDisjoint (memory_forward nothing (visits Forward S front)) (memory_backward (visits Backward S rest)) → AreDisjoint (has_set (forward_label S front).memory) (has_set (backward_label S rest).memory)
  disjoint_sets h =
      subst (λ (f : ℕ → Bool). AreDisjoint f (has_set (backward_label S rest).memory)) (sym front_memory)
      (subst (λ (f : ℕ → Bool). AreDisjoint (memory_forward nothing (visits Forward S front)) f) (sym rest_memory) h)

  sets_disjoint : AreDisjoint (has_set (forward_label S front).memory) (has_set (backward_label S rest).memory) → AreDisjoint (memory_forward nothing (visits Forward S front)) (memory_backward (visits Backward S rest))
  sets_disjoint h =
      subst (λ (f : ℕ → Bool). AreDisjoint f (memory_backward (visits Backward S rest))) front_memory
      (subst (λ (f : ℕ → Bool). AreDisjoint (has_set (forward_label S front).memory) f) rest_memory h)

  cut_apart : HasForwardLabel S (front ++ a ∷ rest) → HasForwardLabel S front × HasBackwardLabel S rest × Joins S (forward_label S front) a (backward_label S rest)
  cut_apart h =
      let whole = goes_parts S (root Forward S) (front ++ a ∷ rest) fits.graph h in
      let open_arcs = open_split S front (a ∷ rest) whole.open_arcs in
      let passes = passes_split g (root_of g) front (a ∷ rest) whole.passes in
      let accepted = subst (λ (f : ℕ → Bool). AreAccepted f (visits Forward S (front ++ a ∷ rest))) nothing_made whole.accepted in
      let meet = accepted_meet (visits Forward S front) (visits Backward S rest) (accepted_both accepted) in
      let over : Values = over_of g (values_at_end g (root_of g) front) a in
      let within = moved_is_within (values_at_end g (root_of g) front).at (arc_at g.arcs a).needs (vertex_at g.vertices (arc_at g.arcs a).head).windows passes.1.0 in
      let has = rest_has g rest (arc_at g.arcs a).head over fits.graph parts.2.2 within passes.1.1 in
      let values = subst (λ (x : Values). HasBackward g rest x) (backward_is S rest has.0 has.1) has.1 in (
        parts_goes S (root Forward S) front fits.graph (record {
          open_arcs = open_arcs.0;
          passes = passes.0;
          accepted = subst (λ (f : ℕ → Bool). AreAccepted f (visits Forward S front)) (sym nothing_made) meet.forward;
        }),
        parts_backward S rest has.0 fits.graph open_arcs.1.1 has.1 meet.backward,
        record {
          there = arc_there;
          leaves = sym (forward_vertex S (root Forward S) front (arc_at g.arcs a).tail leads);
          enters = sym (backward_vertex S rest (arc_at g.arcs a).head parts.2.2);
          open_arc = open_arcs.1.0;
          values = (values_law passes.0 values).1 (record { walk = walk; passes = whole.passes });
          memories = disjoint_sets meet.disjoint;
        },
      )

  put_together : HasForwardLabel S front × HasBackwardLabel S rest × Joins S (forward_label S front) a (backward_label S rest) → HasForwardLabel S (front ++ a ∷ rest)
  put_together h =
      let first = goes_parts S (root Forward S) front fits.graph h.0 in
      let second = backward_parts S rest fits.graph h.1 in
      let feasible = (values_law first.passes second.values).0 h.2.values in
      let meet = meet_accepted (visits Forward S front) (visits Backward S rest) (record {
        forward = subst (λ (f : ℕ → Bool). AreAccepted f (visits Forward S front)) nothing_made first.accepted;
        backward = second.accepted;
        disjoint = sets_disjoint h.2.memories;
      }) in
      parts_goes S (root Forward S) (front ++ a ∷ rest) fits.graph (record {
        open_arcs = open_append S front (a ∷ rest) first.open_arcs (h.2.open_arc, second.open_arcs);
        passes = feasible.passes;
        accepted = subst (λ (f : ℕ → Bool). AreAccepted f (visits Forward S (front ++ a ∷ rest))) (sym nothing_made) (both_accepted meet);
      })

-- a walk has a label exactly where, cut at any arc, its parts have labels that join
pub cut_point : CutPointLaw
cut_point S front a rest fits walk = (cut_apart S front a rest fits walk, put_together S front a rest fits walk)
