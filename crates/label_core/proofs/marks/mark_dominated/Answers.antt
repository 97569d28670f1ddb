use Rattle.std.proofs.Common.{◌≡◌, ◌≢◌, ◌≤◌, ◌<◌, ◌++◌, ℕ, Bool, true, false, cond, List, map, take, drop, get_or, length, set, Some, refl, sym, ap, ◌∙◌, subst, ⊎_elim, arith}
use Rattle.std.specs.Prelude.{slice_get, ◌&&◌}
use Rattle.std.proofs.lemmas.List.Edits.{map_over_more}
use Rattle.std.proofs.lemmas.Option.{slice_get-get_or}
use Rattle.std.proofs.Math.ListN.{length-set}
use Rattle.std.proofs.lemmas.Grind.{common_steps}
use Rattle.label_space.specs.Rules.{Rules, Fits}
use Rattle.label_core.specs.declared.table.Place.{Place}
use Rattle.label_core.specs.declared.table.Entry.{Entry}
use Rattle.label_core.specs.Puts.{is_none, gone_by, beside, EachFits}
use Rattle.label_core.proofs.Lookup.{at_set}
use Rattle.label_core.proofs.marks.mark_dominated.Goals as goal

beside_label : {L : Type 0} (r : Rules L) (l : L) (q : Place) (e : Entry L) → (beside r l q e).label ≡ e.label
beside_label r l q e = by (is_none e.gone && r.dominates l e.label)
  where
    by : (b : Bool) → (cond b (gone_by q e) e).label ≡ e.label
    by true = refl
    by false = refl

fits_set : {L : Type 0} (r : Rules L) (es : List (Entry L)) (i : ℕ) (x y : Entry L) → EachFits r es → slice_get es i ≡ Some x → y.label ≡ x.label → EachFits r (set es i y)
fits_set {L} r es i x y all at same = λ k e h. ⊎_elim
    (λ (a : (k ≡ i) × (e ≡ y)). subst (λ l. Fits r l) (sym (ap (λ (z : Entry L). z.label) a.1 ∙ same)) (all i x at))
    (λ (a : (k ≢ i) × (slice_get es k ≡ Some e)). all k e a.1)
    (at_set es i k y e h)

whole : {A : Type 0} (f : A → A) (l : List A) (n : ℕ) → length l ≤ n → map f (take n l) ++ drop n l ≡ map f l
whole f l n h = grind (arith, common_steps)

-- the entry at a place
there : {L : Type 0} (es : List (Entry L)) (i : ℕ) (x : Entry L) → i < length es → get_or es i x ≡ x → slice_get es i ≡ Some x
there es i x l is = slice_get-get_or es i x l ∙ ap (λ e. Some e) is

pub mark_if-requires-clause-entry : goal.mark_if-requires-clause-entry
mark_if-requires-clause-entry g c =
    let x : Entry g.row.S-Label.Denot = c.at_mut.result.now in
    let l : c.loop-i.i < length c.loop-i.entries = omega (arith, c.loop-i-test.true, c.len-i-end.ensures, c.loop-i.invariant.long) in
    c.loop-i.invariant.fit c.loop-i.i x (there c.loop-i.entries c.loop-i.i x l (c.at_mut.ensures.value x))

pub loop-i-preserved : goal.loop-i-preserved
loop-i-preserved g c =
    let r = g.S.Space.rules c.args.space.now in
    let x : Entry g.row.S-Label.Denot = c.at_mut.result.now in
    let t : c.loop-i.i < length c.args.entries.now = omega (arith, c.loop-i-test.true, c.len-i-end.ensures) in
    let l : c.loop-i.i < length c.loop-i.entries = omega (arith, c.loop-i.invariant.long, t) in
    let is : get_or c.loop-i.entries c.loop-i.i x ≡ x = c.at_mut.ensures.value x in
    record {
      marked = ap (λ y. set c.loop-i.entries c.loop-i.i y) c.mark_if.ensures
          ∙ map_over_more (beside r c.args.label.now c.args.at) c.args.entries.now c.loop-i.entries c.loop-i.i x t c.loop-i.invariant.marked (sym is);
      long = length-set c.loop-i.entries c.loop-i.i c.mark_if.new.entry ∙ c.loop-i.invariant.long;
      fit = fits_set r c.loop-i.entries c.loop-i.i x c.mark_if.new.entry c.loop-i.invariant.fit (there c.loop-i.entries c.loop-i.i x l is) (ap (λ (z : Entry g.row.S-Label.Denot). z.label) c.mark_if.ensures ∙ beside_label r c.args.label.now c.args.at x);
    }

pub returns : goal.returns
returns g c = c.loop-i.invariant.marked ∙ whole (beside (g.S.Space.rules c.args.space.now) c.args.label.now c.args.at) c.args.entries.now c.loop-i.i (let t = c.loop-i-test.false in omega (arith, c.len-i-end.ensures))
