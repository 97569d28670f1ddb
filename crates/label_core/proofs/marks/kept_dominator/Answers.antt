use Rattle.std.proofs.Common.{◌≡◌, ◌↔◌, Bool, true, false, Some, IsTrue, refl, sym, ◌∙◌, subst, below_more, arith}
use Rattle.std.proofs.lemmas.Option.{slice_get_read, slice_get_within}
use Rattle.std.specs.Prelude.{slice_get}
use Rattle.label_core.specs.declared.table.Entry.{Entry}
use Rattle.label_core.specs.Tables.{IsKept}
use Rattle.label_core.proofs.Lookup.{some_same}
use Rattle.label_core.proofs.marks.kept_dominator.Goals as goal

covers_not : (b : Bool) (K : Type 0) → (IsTrue false ↔ (K × (b ≡ true))) → K → b ≡ false
covers_not true K h k = absurd (let no_way = h.1 (k, refl) in cc)
covers_not false K h k = refl

pub returns-then-covers : goal.returns-then-covers
returns-then-covers g c =
    let h = c.if-covers.ensures.0 refl in
    (c.index-entries-i.result, slice_get_read c.args.entries.now _ c.loop-i.i c.index-entries-i.result refl (omega arith) c.index-entries-i.is, h.0, h.1)

pub loop-i-preserved : goal.loop-i-preserved
loop-i-preserved g c =
    below_more (λ k. (e : Entry g.row.S-Label.Denot) → slice_get c.args.entries.now k ≡ Some e → IsKept e
    → (g.S.Space.rules c.args.space.now).dominates e.label c.args.label.now ≡ false) _ c.loop-i.invariant
    (λ e at kept.
    let r = g.S.Space.rules c.args.space.now in
    let x : Entry g.row.S-Label.Denot = c.index-entries-i.result in
    let is : x ≡ e = some_same x e (sym (slice_get_read c.args.entries.now _ c.loop-i.i x refl (omega arith) c.index-entries-i.is) ∙ at) in
    subst (λ (z : Entry g.row.S-Label.Denot). r.dominates z.label c.args.label.now ≡ false) is
    (covers_not (r.dominates x.label c.args.label.now) (IsKept x) c.if-covers.ensures (subst (λ (z : Entry g.row.S-Label.Denot). IsKept z) (sym is) kept)))

pub returns : goal.returns
returns g c = λ i e at. c.loop-i.invariant i (let h = slice_get_within c.args.entries.now i e at in omega arith) e at
