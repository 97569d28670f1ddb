-- A half pair represents each admitted walk: it is cut where its first main value passes the threshold.
use Rattle.std.proofs.Common.{◌≡◌, ◌≢◌, ℕ, ◌<◌, Bool, true, false, ℤ, pos, ◌≤ℤ◌, ◌+ℤ◌, Some, List, [], ◌∷◌, ◌++◌, length, inl, inr, ◌⊎◌, refl, sym, ◌∙◌, ap, subst, arith}
use lib.Signed.{◌<ℤ◌}
use Rattle.std.specs.Int.{int_max}
use Rattle.std.proofs.lemmas.Int.{ints, clamps, by_lt_z}
use Rattle.std.proofs.lemmas.List.Elements.{Contains-append_right}
use Rattle.path_graph.specs.declared.parts.Values.{Values}
use Rattle.path_graph.specs.Fit.{int_at, window_at, vertex_at, NeedFits}
use Rattle.path_graph.specs.Walk.{IsGraph, arc_at, Leads, IsWalk, Passes, root_of}
use Rattle.path_graph.specs.Within.{AreWithin}
use Rattle.path_graph.proofs.WalkLemmas.{leads_split, passes_split, moved_is_within}
use Rattle.path_graph.proofs.RestLemmas.{rest_has}
use Rattle.label_rules.specs.Joins.{HaveJoin}
use Rattle.label_rules.specs.Labels.{Forward, HasForwardLabel, Label, Setting, SettingFits, backward_label, extended, forward_label, label_from, root}
use Rattle.label_rules.specs.Tables.{AreCovers, HalfPairLaw, IsRepresented, first_value}
use Rattle.label_rules.proofs.LabelLemmas.{cut_point, goes_parts, forward_values, backward_is}
use Rattle.label_rules.proofs.AdmittedLemmas.{admitted_label}
use Rattle.label_rules.proofs.TableLemmas.{NeedForward, NeedBackward, root_states, covers_forward, covers_backward, lists_join}

-- arcs are cut where the first value first passes the threshold, or before the last
record Halves (S : Setting) (t : ℤ) (l : Label) (arcs : List ℕ) : Type 0 where
  front : List ℕ
  arc : ℕ
  rest : List ℕ
  split : arcs ≡ front ++ arc ∷ rest
  needs : NeedForward S (Some t) l front
  past : (rest ≡ []) ⊎ (t <ℤ first_value (extended Forward S (label_from S l front) arc))

halves : (S : Setting) (t : ℤ) (l : Label) (a : ℕ) (rest : List ℕ) → IsGraph S.graph → Leads S.graph l.vertex (a ∷ rest) S.graph.ends.sink → Halves S t l (a ∷ rest)
halves S t l a [] graph leads = record { front = []; arc = a; rest = []; split = refl; needs = tt; past = inl refl }
halves S t l a (b ∷ rest) graph leads =
    let next : Label = extended Forward S l a in
    let more = halves S t next b rest graph leads.2 in
    let inside : next.vertex ≢ S.graph.ends.sink = λ e. (graph.fits.each_arc b _ leads.2.0).not_out (leads.2.1 ∙ e) in
    by_lt_z {P = Halves S t l (a ∷ b ∷ rest)} t (first_value next)
    (λ above. record { front = []; arc = a; rest = b ∷ rest; split = refl; needs = tt; past = inr above })
    (λ below. record {
      front = a ∷ more.front;
      arc = more.arc;
      rest = more.rest;
      split = ap (λ (xs : List ℕ). a ∷ xs) more.split;
      needs = ((below, inside), more.needs);
      past = more.past;
    })

-- the first value never falls
need_main : (used : Bool) (q : ℤ) → NeedFits used true q → pos 0 ≤ℤ q
need_main true q h = h.0
need_main false q h = omega (arith, ints, h)

grown : (x q low : ℤ) → pos 0 ≤ℤ q → x ≤ℤ (int_max low (x +ℤ q))
grown x q low h = omega (arith, ints, clamps, h)

first_grows : (S : Setting) (l : Label) (a : ℕ) → IsGraph S.graph → a < length S.graph.arcs → first_value l ≤ℤ first_value (extended Forward S l a)
first_grows S l a graph there =
    let arc = arc_at S.graph.arcs a in
    let fits = graph.fits.each_arc a _ there in
    let need : pos 0 ≤ℤ (int_at arc.needs 0) = need_main _ (int_at arc.needs 0) (fits.needs 0 (omega (arith, fits.places))) in
    grown (first_value l) (int_at arc.needs 0) (window_at (vertex_at S.graph.vertices arc.head).windows 0).low need

-- once the first value is past the threshold, it is so of all labels of the rest
needs_rest : (S : Setting) (t : ℤ) (l : Label) (arcs : List ℕ) → IsGraph S.graph → t <ℤ first_value l → l.vertex ≢ S.graph.ends.source
    → AreWithin (vertex_at S.graph.vertices l.vertex).windows l.values → Leads S.graph l.vertex arcs S.graph.ends.sink → Passes S.graph l.values arcs → NeedBackward S (Some t) arcs
needs_rest S t l [] graph above inside within leads passes = tt
needs_rest S t l (b ∷ rest) graph above inside within leads passes =
    let arc = arc_at S.graph.arcs b in
    let has = rest_has S.graph (b ∷ rest) l.vertex l.values graph leads within passes in
    let same : int_at has.0.at 0 ≡ first_value (backward_label S (b ∷ rest)) = ap (λ (x : Values). int_at x.at 0) (backward_is S (b ∷ rest) has.0 has.1) in
    let most = has.2 0 (omega arith) in
    let grows = first_grows S l b graph leads.0 in (
      (omega (arith, ints, above, most, same), λ e. inside (sym leads.1 ∙ e)),
      needs_rest S t (extended Forward S l b) rest graph (omega (arith, ints, above, grows)) (graph.fits.each_arc b _ leads.0).not_in
          (moved_is_within l.values.at arc.needs (vertex_at S.graph.vertices arc.head).windows passes.0) leads.2 passes.1,
    )

represented : (S : Setting) (t : ℤ) (fore back : List Label) (front : List ℕ) (a : ℕ) (rest : List ℕ) → SettingFits S → AreCovers S (Some t) fore back → IsWalk S.graph (front ++ a ∷ rest)
    → HasForwardLabel S (front ++ a ∷ rest) → NeedForward S (Some t) (root Forward S) front → ((rest ≡ []) ⊎ (t <ℤ first_value (extended Forward S (forward_label S front) a)))
    → HaveJoin S fore back a (forward_label S (front ++ a ∷ rest)).cost
represented S t fore back front a rest fits pair walk has needs past =
    let g = S.graph in
    let parts = (cut_point S front a rest fits walk).0 has in
    let leads = leads_split g g.ends.source front (a ∷ rest) g.ends.sink walk in
    let whole = goes_parts S (root Forward S) (front ++ a ∷ rest) fits.graph has in
    let passes = subst (λ (x : Values). Passes g x (a ∷ rest)) (sym (forward_values S (root Forward S) front)) (passes_split g (root_of g) front (a ∷ rest) whole.passes).1 in
    let within = moved_is_within (forward_label S front).values.at (arc_at g.arcs a).needs (vertex_at g.vertices (arc_at g.arcs a).head).windows passes.0 in
    let need_rest : NeedBackward S (Some t) rest = elim past [
      | inl e ↦ subst (NeedBackward S (Some t)) (sym e) tt
      | inr above ↦ needs_rest S t (extended Forward S (forward_label S front) a) rest fits.graph above (fits.graph.fits.each_arc a _ leads.2.0).not_in within leads.2.2 passes.1
    ] in
    lists_join S fore back front a rest fits walk has
    (covers_forward S (Some t) fore (root Forward S) front leads.0 fits pair.partial_walks (root_states Forward S fits) leads.1 parts.0 needs pair.partial_walks.root)
    (covers_backward S (Some t) back rest (arc_at g.arcs a).head fits pair.rests leads.2.2 parts.1 need_rest)

half_pair : (S : Setting) (t : ℤ) (fore back : List Label) (walk : List ℕ) → SettingFits S → AreCovers S (Some t) fore back → IsWalk S.graph walk → HasForwardLabel S walk → IsRepresented S fore back walk
half_pair S t fore back [] fits pair walk has = absurd (fits.graph.fits.ends_fit.different walk)
half_pair S t fore back (a ∷ more) fits pair walk has =
    let cut = halves S t (root Forward S) a more fits.graph walk in
    let join = represented S t fore back cut.front cut.arc cut.rest fits pair
    (subst (IsWalk S.graph) cut.split walk) (subst (HasForwardLabel S) cut.split has) cut.needs cut.past in
    subst (IsRepresented S fore back) (sym cut.split) (record { arc = cut.arc; on_walk = Contains-append_right cut.front (cut.arc ∷ cut.rest) cut.arc (0, omega arith, refl); join = join })

pub half_pair_law : HalfPairLaw
half_pair_law S t fore back walk fits pair is = half_pair S t fore back walk fits pair is.feasible.walk (admitted_label S walk is)
