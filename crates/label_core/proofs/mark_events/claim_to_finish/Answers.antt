use Rattle.std.proofs.Common.{◌≡◌, ◌≤◌, ◌+◌, length, get_or, sym, ap, ◌∙◌, subst, arith}
use Rattle.std.proofs.lemmas.Bool.{both_ways}
use Rattle.label_core.specs.Tables.{entries_of}
use Rattle.label_core.specs.Steps.{MayNoteAll}
use Rattle.label_core.proofs.Refusing.{claim_read, claim_place}
use Rattle.label_core.proofs.Marked.{finishes_is}
use Rattle.label_core.proofs.mark_events.claim_to_finish.Goals as goal

pub returns-then-noted-degree : goal.returns-then-noted-degree
returns-then-noted-degree g c = λ y steps.
    let r = g.S.Space.rules c.args.space.now in
    let x = c.args.core.now in
    let s = c.in-Some.pass.now in
    let i = c.in-Some-claim_index.claim in
    let k = c.in-Some-claim_index.ensures in
    let h = c.at-claimed.result.now in
    let e = c.in-Some-entry_if_any.entry.now in
    let has = claim_read s.claims c.as_slice.result.now i h k.0 c.as_slice.ensures k.1 c.at-claimed.ensures in
    let is = claim_place s.claims c.as_slice.result.now i h k.0 c.args.q c.as_slice.ensures k.1 c.at-claimed.ensures k.2 in
    let f = finishes_is r x c.requires c.args.p i s h e c.args.q c.args.fates.now y c.in-Some.ensures.0 has is c.in-Some-entry_if_any.ensures steps in
    let sum = f.1 in
    let n = c.len-noted.ensures in
    let d = c.degree-degree.ensures in
    let more = c.if-noted-degree.true in
    omega arith

pub returns-then-fates-degree : goal.returns-then-fates-degree
returns-then-fates-degree g c = λ y steps.
    let r = g.S.Space.rules c.args.space.now in
    let x = c.args.core.now in
    let s = c.in-Some.pass.now in
    let i = c.in-Some-claim_index.claim in
    let k = c.in-Some-claim_index.ensures in
    let h = c.at-claimed.result.now in
    let e = c.in-Some-entry_if_any.entry.now in
    let has = claim_read s.claims c.as_slice.result.now i h k.0 c.as_slice.ensures k.1 c.at-claimed.ensures in
    let is = claim_place s.claims c.as_slice.result.now i h k.0 c.args.q c.as_slice.ensures k.1 c.at-claimed.ensures k.2 in
    let f = finishes_is r x c.requires c.args.p i s h e c.args.q c.args.fates.now y c.in-Some.ensures.0 has is c.in-Some-entry_if_any.ensures steps in
    let sum = f.1 in
    let n = c.len-noted.ensures in
    let d = c.degree-degree.ensures in
    c.if-fates-degree.true (omega arith)

pub may_note_all-requires-clause-known : goal.may_note_all-requires-clause-known
may_note_all-requires-clause-known g c = λ n.
    subst (λ t. get_or c.in-Some.pass.now.known n 0 ≤ length (entries_of t n)) (sym c.as_slice-cells.ensures)
    ((c.requires.shape.each c.args.p c.in-Some.pass.now c.in-Some.ensures.0).knows_prefix n)

pub returns-then-not-may_note_all : goal.returns-then-not-may_note_all
returns-then-not-may_note_all g c = λ y steps.
    let r = g.S.Space.rules c.args.space.now in
    let x = c.args.core.now in
    let s = c.in-Some.pass.now in
    let i = c.in-Some-claim_index.claim in
    let k = c.in-Some-claim_index.ensures in
    let h = c.at-claimed.result.now in
    let e = c.in-Some-entry_if_any.entry.now in
    let has = claim_read s.claims c.as_slice.result.now i h k.0 c.as_slice.ensures k.1 c.at-claimed.ensures in
    let is = claim_place s.claims c.as_slice.result.now i h k.0 c.args.q c.as_slice.ensures k.1 c.at-claimed.ensures k.2 in
    let f = finishes_is r x c.requires c.args.p i s h e c.args.q c.args.fates.now y c.in-Some.ensures.0 has is c.in-Some-entry_if_any.ensures steps in
    both_ways c.may_note_all.result c.if-not-may_note_all.true
    (c.may_note_all.ensures.1
    (subst (λ n. MayNoteAll r c.as_slice-cells.result.now s e.label n c.args.fates.now) (sym c.len-noted.ensures)
    (subst (λ t. MayNoteAll r t s e.label (length h.fates) c.args.fates.now) (sym c.as_slice-cells.ensures) f.0)))

pub returns : goal.returns
returns g c =
    let r = g.S.Space.rules c.args.space.now in
    let x = c.args.core.now in
    let s = c.in-Some.pass.now in
    let i = c.in-Some-claim_index.claim in
    let k = c.in-Some-claim_index.ensures in
    let h = c.at-claimed.result.now in
    let e = c.in-Some-entry_if_any.entry.now in
    let has = claim_read s.claims c.as_slice.result.now i h k.0 c.as_slice.ensures k.1 c.at-claimed.ensures in
    let is = claim_place s.claims c.as_slice.result.now i h k.0 c.args.q c.as_slice.ensures k.1 c.at-claimed.ensures k.2 in
    let n = c.len-noted.ensures in
    let d = c.degree-degree.ensures in
    let left = c.if-fates-degree.false in
    let enough = c.if-noted-degree.false in (
      s,
      c.in-Some.ensures,
      e,
      h,
      record {
        stands = c.in-Some-entry_if_any.ensures;
        claim_at = has;
        of_it = is;
        legal = subst (λ m. MayNoteAll r x.table.cells s e.label m c.args.fates.now) n
            (subst (λ t. MayNoteAll r t s e.label c.len-noted.result c.args.fates.now) c.as_slice-cells.ensures (c.may_note_all.ensures.0 c.if-not-may_note_all.false));
        one_each = omega arith;
      },
    )
