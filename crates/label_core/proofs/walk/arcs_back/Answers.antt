use Rattle.std.proofs.Common.{◌≡◌, ℕ, Some, None, List, [], ◌∷◌, ◌++◌, length, length-append, append_assoc, refl, sym, ap, ◌∙◌, subst, arith}
use Rattle.std.proofs.lemmas.List.{append-nil}
use Rattle.label_core.specs.declared.table.Place.{Place}
use Rattle.label_core.specs.declared.table.Origin.{Origin}
use Rattle.label_core.specs.declared.table.Entry.{Entry}
use Rattle.label_core.specs.Tables.{Cells, StandsAt}
use Rattle.label_core.specs.Walks.{LeadsBack}
use Rattle.label_core.proofs.Trail.{way_back_is_short}
use Rattle.label_core.proofs.walk.arcs_back.Goals as goal

module _ {L : Type 0} (t : Cells L) (p : Place) where
  stands : (rest : List ℕ) → LeadsBack t p rest → (e : Entry L) × StandsAt t p e
  stands [] (e, s, n) = (e, s)
  stands (k ∷ arcs) (e, s, q, from, on) = (e, s)

  ends : (rest : List ℕ) → LeadsBack t p rest → ((e : Entry L) → StandsAt t p e → None ≡ e.origin) → rest ≡ []
  ends [] back is = refl
  ends (k ∷ arcs) (e, s, q, from, on) is = absurd (let h = is e s in cc)

  goes_on : (rest : List ℕ) → LeadsBack t p rest → (o : Origin) → ((e : Entry L) → StandsAt t p e → Some o ≡ e.origin)
      → (arcs : List ℕ) × (rest ≡ o.arc ∷ arcs) × LeadsBack t o.parent arcs
  goes_on [] (e, s, n) o is = absurd (let h = is e s in cc)
  goes_on (k ∷ arcs) (e, s, q, from, on) o is =
      let h : Some (record { parent = q; arc = k }) ≡ Some o = sym from ∙ sym (is e s) in
      let same : record { parent = q; arc = k } ≡ o = cc in
      (arcs, ap (λ (z : Origin). z.arc ∷ arcs) same, subst (λ (z : Origin). LeadsBack t z.parent arcs) same on)

pub origin_at-requires : goal.origin_at-requires
origin_at-requires g c = let h = c.loop-origin.invariant in stands c.args.t.now.cells c.loop-origin.place h.left h.way_on

pub loop-origin-init : goal.loop-origin-init
loop-origin-init g c = record {
  arcs = c.requires.0;
  left = c.requires.0;
  so_far = ap (λ items. items ++ c.requires.0) c.new-back.ensures.items;
  way = c.requires.1;
  way_on = c.requires.1;
}

pub loop-origin-preserved : goal.loop-origin-preserved
loop-origin-preserved g c =
    let h = c.loop-origin.invariant in
    let m = goes_on c.args.t.now.cells c.loop-origin.place h.left h.way_on c.in-Some.origin c.in-Some.ensures in
    record {
      arcs = h.arcs;
      left = m.0;
      so_far = ap (λ items. items ++ m.0) c.in_ok-push.ensures.items ∙ append_assoc c.loop-origin.back.items (c.in-Some.origin.arc ∷ []) m.0 ∙ ap (λ rest. c.loop-origin.back.items ++ rest) (sym m.1) ∙ h.so_far;
      way = h.way;
      way_on = m.2;
    }

pub loop-origin-smaller : goal.loop-origin-smaller
loop-origin-smaller g c =
    let h = c.loop-origin.invariant in
    let m = goes_on c.args.t.now.cells c.loop-origin.place h.left h.way_on c.in-Some.origin c.in-Some.ensures in
    let short = way_back_is_short c.args.t.now.cells h.arcs c.args.at h.way in
    let all = ap length h.so_far in
    let parts = length-append c.loop-origin.back.items h.left in
    let one = ap length m.1 in
    let now = ap length c.in_ok-push.ensures.items in
    let more = length-append c.loop-origin.back.items (c.in-Some.origin.arc ∷ []) in
    omega arith

pub returns : goal.returns
returns g c =
    let h = c.loop-origin.invariant in
    subst (λ arcs. LeadsBack c.args.t.now.cells c.args.at arcs)
    (sym h.so_far ∙ ap (λ rest. c.loop-origin.back.items ++ rest) (ends c.args.t.now.cells c.loop-origin.place h.left h.way_on c.in_default.ensures) ∙ append-nil c.loop-origin.back.items)
    h.way
