use Rattle.std.proofs.Common.{◌≡◌, ℕ, List, true, false, Option, Some, None, sym, ap, ◌∙◌, refl, ⊎_elim}
use Rattle.std.specs.Prelude.{is_some}
use Rattle.label_core.specs.declared.table.Entry.{Entry}
use Rattle.label_core.specs.declared.table.Fate.{Fate}
use Rattle.label_core.specs.declared.table.Turn.{Turn}
use Rattle.label_core.specs.declared.table.Turn.TheVariants.{Fresh, Claimed, Done}
use Rattle.plain_table.proofs.Choosing.{index_within, entry_read}
use Rattle.plain_table.proofs.steps.label_to_extend.Goals as goal

none_of : {A : Type 0} (o : Option A) → is_some o ≡ false → o ≡ None
none_of None h = refl
none_of (Some x) h = absurd (cc)

some_not : {A : Type 0} (o : Option A) → is_some o ≡ true → o ≡ None → ⊥
some_not None h k = (cc)
some_not (Some x) h k = (cc)

claimed_not : (t : Turn) (n : ℕ) → t ≡ Claimed n → t ≡ Fresh → ⊥
claimed_not t n h k = (cc)

done_not : (t : Turn) (fates : List Fate) → t ≡ Done fates → t ≡ Fresh → ⊥
done_not t fates h k = (cc)

pub at-entry-requires : goal.at-entry-requires
at-entry-requires g c = index_within c.args.cells.now c.args.place c.requires.0 c.requires.1 c.index-cells-place.result c.index-cells-place.is

pub returns-then-is_some : goal.returns-then-is_some
returns-then-is_some g c = λ e s kept turn.
    let is = entry_read c.args.cells.now c.args.place e s c.index-cells-place.result c.index-cells-place.is c.at-entry.result.now c.at-entry.ensures in
    some_not c.at-entry.result.now.gone (sym c.if-is_some.ensures) (sym (ap (λ (z : Entry g.row.L.Denot). z.gone) is) ∙ kept)

pub returns-in-Fresh : goal.returns-in-Fresh
returns-in-Fresh g c = λ e s.
    let is = entry_read c.args.cells.now c.args.place e s c.index-cells-place.result c.index-cells-place.is c.at-entry.result.now c.at-entry.ensures in (
      ap (λ (z : Entry g.row.L.Denot). z.label) is,
      ap (λ (z : Entry g.row.L.Denot). z.turn) is ∙ c.in-Fresh.is,
      ap (λ (z : Entry g.row.L.Denot). z.gone) is ∙ none_of c.at-entry.result.now.gone (sym c.if-is_some.ensures),
    )

pub returns-in-Claimed : goal.returns-in-Claimed
returns-in-Claimed g c = λ e s kept turn.
    let is = entry_read c.args.cells.now c.args.place e s c.index-cells-place.result c.index-cells-place.is c.at-entry.result.now c.at-entry.ensures in
    let fresh = sym (ap (λ (z : Entry g.row.L.Denot). z.turn) is) ∙ turn in
    ⊎_elim
    (λ (a : (n : ℕ) × (c.at-entry.result.now.turn ≡ Claimed n)). claimed_not c.at-entry.result.now.turn a.0 a.1 fresh)
    (λ (a : (fates : List Fate) × (c.at-entry.result.now.turn ≡ Done fates)). done_not c.at-entry.result.now.turn a.0 a.1 fresh)
    c.in-Claimed.is
