use Rattle.std.proofs.Common.{◌<◌, ◌≤◌, ◌+◌, length, get_or, sym, ap, subst, arith}
use Rattle.std.proofs.lemmas.Bool.{both_ways}
use Rattle.label_core.specs.Tables.{StandsAt, entries_of}
use Rattle.label_core.specs.Steps.{FitsClaim}
use Rattle.label_core.proofs.Refusing.{claim_read, claim_place, held_within, held_few, claim_within, puts_entry_is}
use Rattle.label_core.proofs.puts.spot_for.Goals as goal

pub entry_at-parent-requires : goal.entry_at-parent-requires
entry_at-parent-requires g c =
    let r = g.S.Space.rules c.args.space.now in
    let s = c.in-Some.pass.now in
    let i = c.in-Some-claim_index.claim in
    let k = c.in-Some-claim_index.ensures in
    let has = claim_read s.claims c.as_slice.result.now i c.at-claimed.result.now k.0 c.as_slice.ensures k.1 c.at-claimed.ensures in
    let is = claim_place s.claims c.as_slice.result.now i c.at-claimed.result.now k.0 c.args.q c.as_slice.ensures k.1 c.at-claimed.ensures k.2 in
    subst (λ t. c.args.q.index < length (entries_of t c.args.q.cell)) (sym c.as_slice-cells.ensures)
    (claim_within r c.args.core.now c.requires.rule c.args.p s c.in-Some.ensures.0 i c.at-claimed.result.now c.args.q has is)

pub fits_claim-requires-clause-known : goal.fits_claim-requires-clause-known
fits_claim-requires-clause-known g c = λ n.
    subst (λ t. get_or c.in-Some.pass.now.known n 0 ≤ length (entries_of t n)) (sym c.as_slice-cells.ensures)
    ((c.requires.rule.shape.each c.args.p c.in-Some.pass.now c.in-Some.ensures.0).knows_prefix n)

pub fits_claim-requires-clause-within : goal.fits_claim-requires-clause-within
fits_claim-requires-clause-within g c =
    let r = g.S.Space.rules c.args.space.now in
    subst (λ t. c.in-Some-held.cell < length t) (sym c.as_slice-cells.ensures)
    (held_within r c.args.core.now c.requires.rule c.args.p c.in-Some.pass.now c.in-Some.ensures.0 c.in-Some-held.cell c.in-Some-held.is)

pub fits_claim-requires-clause-few : goal.fits_claim-requires-clause-few
fits_claim-requires-clause-few g c =
    let r = g.S.Space.rules c.args.space.now in
    subst (λ t. length (entries_of t c.in-Some-held.cell) < 4294967296) (sym c.as_slice-cells.ensures)
    (held_few r c.args.core.now c.requires.rule c.args.p c.in-Some.pass.now c.in-Some.ensures.0 c.in-Some-held.cell c.in-Some-held.is c.requires.limit)

pub returns-then-not-fits_claim : goal.returns-then-not-fits_claim
returns-then-not-fits_claim g c = λ y steps.
    let r = g.S.Space.rules c.args.space.now in
    let x = c.args.core.now in
    let s = c.in-Some.pass.now in
    let i = c.in-Some-claim_index.claim in
    let k = c.in-Some-claim_index.ensures in
    let h = c.at-claimed.result.now in
    let e = c.entry_at-parent.result.now in
    let has = claim_read s.claims c.as_slice.result.now i h k.0 c.as_slice.ensures k.1 c.at-claimed.ensures in
    let is = claim_place s.claims c.as_slice.result.now i h k.0 c.args.q c.as_slice.ensures k.1 c.at-claimed.ensures k.2 in
    let stands = subst (λ t. StandsAt t c.args.q e) c.as_slice-cells.ensures c.entry_at-parent.ensures in
    let f = puts_entry_is r x c.requires.rule c.args.p c.in-Some-held.cell s i h e c.args.q c.args.fates.now c.args.label.now y c.in-Some.ensures.0 c.in-Some-held.is has is stands steps in
    both_ways c.fits_claim.result c.if-not-fits_claim.true
    (c.fits_claim.ensures.1 (subst (λ t. FitsClaim r t c.in-Some-held.cell s h e.label c.args.fates.now c.args.label.now) (sym c.as_slice-cells.ensures) f.1))

pub returns-then-arc-degree : goal.returns-then-arc-degree
returns-then-arc-degree g c = λ y steps.
    let f = c.fits_claim.ensures.0 c.if-not-fits_claim.false in
    let h = f.extends.0 in
    let d = c.degree-degree.ensures in
    let n = c.len.ensures in
    let o = c.if-arc-degree.true in
    omega arith

pub returns : goal.returns
returns g c =
    let r = g.S.Space.rules c.args.space.now in
    let s = c.in-Some.pass.now in
    let i = c.in-Some-claim_index.claim in
    let k = c.in-Some-claim_index.ensures in
    let h = c.at-claimed.result.now in
    let e = c.entry_at-parent.result.now in
    let has = claim_read s.claims c.as_slice.result.now i h k.0 c.as_slice.ensures k.1 c.at-claimed.ensures in
    let is = claim_place s.claims c.as_slice.result.now i h k.0 c.args.q c.as_slice.ensures k.1 c.at-claimed.ensures k.2 in
    let stands = subst (λ t. StandsAt t c.args.q e) c.as_slice-cells.ensures c.entry_at-parent.ensures in (
      s,
      h,
      e,
      record {
        holds = (c.in-Some.ensures.0, c.in-Some.ensures.1, c.in-Some-held.is);
        ticket = c.if-not-pass.false;
        claim_at = has;
        parent = subst (λ z. StandsAt c.args.core.now.table.cells z e) (sym is) stands;
        new = subst (λ t. FitsClaim r t c.in-Some-held.cell s h e.label c.args.fates.now c.args.label.now) c.as_slice-cells.ensures (c.fits_claim.ensures.0 c.if-not-fits_claim.false);
      },
      is,
      ap (λ n. n + length c.args.fates.now) c.len.ensures,
    )
