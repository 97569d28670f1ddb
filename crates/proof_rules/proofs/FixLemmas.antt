-- Arcs that are fixed: no solution below z uses them, so it solves the place without them.
use Rattle.std.proofs.Common.{◌≡◌, ◌==◌, ℕ, ◌<◌, ℤ, ◌<ℤ◌, Bool, true, false, ◌&&◌, ◌||◌, List, [], ◌∷◌, length, get_or, inl, inr, refl, sym, ◌∙◌, subst, arith}
use Rattle.std.specs.Prelude.{Contains, slice_set, slice_index_or}
use Rattle.std.proofs.lemmas.Bool.{and_parts, cases_eq, cases_lt, eqb-true, false≢true}
use Rattle.std.proofs.lemmas.Bool.Decides.{nat_tests}
use Rattle.std.proofs.lemmas.List.{get_or-set_same, get_or-set_other, set_past}
use Rattle.std.proofs.lemmas.List.Elements.{All-contains, Contains-get_or}
use Rattle.route_model.specs.declared.places.Boxes.{Boxes}
use Rattle.route_model.specs.declared.places.Spot.{Spot}
use Rattle.route_model.specs.declared.plan.Plan.{Plan}
use Rattle.route_model.specs.Fit.{ModelFits}
use Rattle.route_model.specs.Parts.{ModelParts, taken_at}
use Rattle.route_model.specs.PlaceParts.{NamedArc, dropping, is_named}
use Rattle.route_model.specs.Places.{SolvesAt, SolvesWithin, is_dropped, marks_of}
use Rattle.route_model.specs.Quantities.{cost_of}
use Rattle.route_model.proofs.ShutLemmas.{any_found}
use Rattle.label_rules.specs.Leasts.{AreAllAbove}
use Rattle.proof_rules.specs.Nodes.{IsFix, IsFixed}
use Rattle.proof_rules.specs.Proofs.{AreBoth, IsProof, Proof, setting_of, table_at, walk_limit}
use Rattle.label_rules.proofs.LeastLemmas.{unused_arc}
use Rattle.proof_rules.proofs.PlaceLemmas.{setting_fits, walk_admitted}
use Rattle.proof_rules.proofs.ProofLemmas.{both_covers, limit_law}

-- one mark more
abbrev marked : List (List Bool) → ℕ → ℕ → List (List Bool)
marked fixed g a = slice_set fixed g (slice_set (marks_of fixed g) a true)

-- the marks of a graph, with one of them set or not
marks_are : (fixed : List (List Bool)) (g a h : ℕ) → (P : List Bool → Type 0) → P (marks_of fixed h) → (h ≡ g → P (slice_set (marks_of fixed g) a true)) → P (marks_of (marked fixed g a) h)
marks_are fixed g a h P was new = elim (cases_eq h g) [
  | inr other ↦ subst P (sym (get_or-set_other fixed g h (slice_set (marks_of fixed g) a true) [] other)) was
  | inl same ↦ elim (cases_lt g (length fixed)) [
    | inl inside ↦ subst (λ (i : ℕ). P (marks_of (marked fixed g a) i)) (sym same) (subst P (sym (get_or-set_same fixed g (slice_set (marks_of fixed g) a true) [] inside)) (new same))
    | inr past ↦ subst (λ (all : List (List Bool)). P (marks_of all h)) (sym (set_past fixed g (slice_set (marks_of fixed g) a true) past)) was
  ]
]

-- another arc keeps its mark
mark_keeps : (fixed : List (List Bool)) (g a h b : ℕ) → slice_index_or (marks_of fixed h) b false ≡ false → ((g == h) && (a == b)) ≡ false → slice_index_or (marks_of (marked fixed g a) h) b false ≡ false
mark_keeps fixed g a h b was apart =
    marks_are fixed g a h (λ marks. slice_index_or marks b false ≡ false) was
    (λ same. get_or-set_other (marks_of fixed g) a b true false (λ e. other same e) ∙ subst (λ (i : ℕ). slice_index_or (marks_of fixed i) b false ≡ false) same was)
  where
    other : h ≡ g → b ≡ a → ⊥
    other e f = false≢true (sym apart ∙ both)
      where
        both : ((g == h) && (a == b)) ≡ true
        both = grind (arith, nat_tests)

-- tests joined
neither : (x y : Bool) → (x || y) ≡ false → (x ≡ false) × (y ≡ false)
neither true y h = absurd (false≢true (sym h))
neither false y h = (refl, h)

drop_keeps : (spot : Spot) (arcs : List NamedArc) (h b : ℕ) → is_dropped spot h b ≡ false → is_named arcs h b ≡ false → is_dropped (dropping spot arcs) h b ≡ false
drop_keeps spot [] h b was none = was
drop_keeps spot ((g, a) ∷ arcs) h b was none =
    let parts = neither ((g == h) && (a == b)) (is_named arcs h b) none in
    drop_keeps (record spot { fixed = marked spot.fixed g a }) arcs h b (mark_keeps spot.fixed g a h b was parts.0) parts.1

drop_boxes : (spot : Spot) (arcs : List NamedArc) → (dropping spot arcs).boxes ≡ spot.boxes
drop_boxes spot [] = refl
drop_boxes spot ((g, a) ∷ arcs) = drop_boxes (record spot { fixed = marked spot.fixed g a }) arcs

-- no walk of a solution below z uses an arc that is fixed
not_used : (m : ModelParts) (z : ℤ) (spot : Spot) (p : Proof) (plan : Plan) (i : ℕ) (d : NamedArc) → ModelFits m → IsProof m spot p → AreBoth m p → SolvesAt m spot plan → cost_of m plan <ℤ z → i < length plan.paths
    → IsFixed m z spot p d → d.0 ≡ (taken_at plan.paths i).graph → Contains (taken_at plan.paths i).arcs d.1 → ⊥
not_used m z spot p plan i d fits proof both solves cheap below fixed same used =
    let g : ℕ = (taken_at plan.paths i).graph in
    let inside = (solves.within.solution.paths i below).graph in
    let above : AreAllAbove (setting_of m spot p g) (table_at p.tables g).fore (table_at p.tables g).back (walk_limit m spot p z g) d.1 =
    subst (λ (h : ℕ). AreAllAbove (setting_of m spot p h) (table_at p.tables h).fore (table_at p.tables h).back (walk_limit m spot p z h) d.1) same fixed.2 in
    unused_arc (setting_of m spot p g) (table_at p.tables g).fore (table_at p.tables g).back (walk_limit m spot p z g) d.1 (taken_at plan.paths i).arcs
    (setting_fits m spot p.near p.cuts p.mult g fits inside proof.cuts_fit) (both_covers m spot p g proof both inside) above
    (walk_admitted m spot p.near p.cuts p.mult plan i fits proof.cuts_fit solves below) (limit_law m spot p z plan i fits proof solves cheap below) used

not_true : (b : Bool) → (b ≡ true → ⊥) → b ≡ false
not_true true h = absurd (h refl)
not_true false h = refl

pub fix_child : (m : ModelParts) (z : ℤ) (spot : Spot) (p : Proof) (arcs : List NamedArc) (plan : Plan) → ModelFits m → IsFix m z spot p arcs → SolvesAt m spot plan → cost_of m plan <ℤ z → SolvesAt m (dropping spot arcs) plan
fix_child m z spot p arcs plan fits fix solves cheap = record {
  within = subst (λ (boxes : Boxes). SolvesWithin m boxes plan) (sym (drop_boxes spot arcs)) solves.within;
  kept = λ i below k d inside.
      let g : ℕ = (taken_at plan.paths i).graph in
      let a : ℕ = get_or (taken_at plan.paths i).arcs k d in
      drop_keeps spot arcs g a (solves.kept i below k d inside)
      (not_true (is_named arcs g a) (λ h.
      let at = any_found (λ (named : NamedArc). (named.0 == g) && (named.1 == a)) arcs h in
      let named = and_parts (at.0.0 == g) (at.0.1 == a) at.2 in
      not_used m z spot p plan i at.0 fits fix.proof fix.both solves cheap below (All-contains (IsFixed m z spot p) arcs at.0 fix.each at.1) (eqb-true at.0.0 g named.0)
      (subst (Contains (taken_at plan.paths i).arcs) (sym (eqb-true at.0.1 a named.1)) (Contains-get_or (taken_at plan.paths i).arcs k d inside))));
}
