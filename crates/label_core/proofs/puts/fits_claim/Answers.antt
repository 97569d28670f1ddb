use Rattle.std.proofs.Common.{◌≡◌, ◌+◌, length, sym, ◌∙◌, subst, Some}
use Rattle.std.specs.Prelude.{slice_get}
use Rattle.std.proofs.lemmas.Bool.{both_ways}
use Rattle.label_space.specs.Rules.{Extends}
use Rattle.label_core.specs.Tables.{place}
use Rattle.label_core.specs.Puts.{CoversNot}
use Rattle.label_core.specs.Steps.{MayNoteAll}
use Rattle.label_core.proofs.Deciding.{read_list}
use Rattle.label_core.proofs.puts.fits_claim.Goals as goal

pub returns-then-not-may_note_all : goal.returns-then-not-may_note_all
returns-then-not-may_note_all g c =
    let r = g.S.Space.rules c.args.space.now in (
      λ no. absurd (cc),
      λ f. absurd (both_ways c.may_note_all.result c.if-not-may_note_all.true
          (c.may_note_all.ensures.1 (subst (λ n. MayNoteAll r c.args.cells.now c.args.pass.now c.args.parent.now n c.args.fates.now) (sym c.len-n.ensures) f.legal))),
    )

pub is_uncovered-requires-clause-each : goal.is_uncovered-requires-clause-each
is_uncovered-requires-clause-each g c = λ i e at.
    c.requires.entries (place c.args.c i) e
    (subst (λ es. slice_get es i ≡ Some e) (c.as_slice-entries.ensures ∙ sym (read_list c.args.cells.now c.args.c c.index-cells-c.result c.requires.within c.index-cells-c.is)) at)

pub returns-then-extends : goal.returns-then-extends
returns-then-extends g c =
    let r = g.S.Space.rules c.args.space.now in
    let same = c.as_slice-entries.ensures ∙ sym (read_list c.args.cells.now c.args.c c.index-cells-c.result c.requires.within c.index-cells-c.is) in (
      λ yes. record {
        cell_is = sym c.cell.ensures ∙ c.if-cell-c.false;
        legal = subst (λ n. MayNoteAll r c.args.cells.now c.args.pass.now c.args.parent.now n c.args.fates.now) c.len-n.ensures (c.may_note_all.ensures.0 c.if-not-may_note_all.false);
        extends = subst (λ n. Extends r c.args.parent.now (n + length c.args.fates.now) c.args.label.now) c.len-n.ensures (c.extends.ensures.0 c.if-extends.true);
        uncovered = subst (λ es. CoversNot r es c.args.label.now) same (c.is_uncovered.ensures.0 yes);
      },
      λ f. c.is_uncovered.ensures.1 (subst (λ es. CoversNot r es c.args.label.now) (sym same) f.uncovered),
    )
