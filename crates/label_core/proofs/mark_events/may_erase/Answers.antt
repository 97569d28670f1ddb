use Rattle.std.proofs.Common.{◌≡◌, sym, ap, ◌∙◌}
use Rattle.label_core.specs.declared.table.Entry.{Entry}
use Rattle.label_core.proofs.Lookup.{same_entry}
use Rattle.label_core.proofs.mark_events.may_erase.Goals as goal

pub returns-in_default : goal.returns-in_default
returns-in_default g c = (λ no. absurd (cc), λ h. absurd (c.in_default.ensures h.0 h.1))

pub returns : goal.returns
returns g c =
    let r = g.S.Space.rules c.args.space.now in
    let t = c.args.core.now.table.cells in
    let s = c.in-Some.pass.now in
    let e = c.in-Some-entry_if_any.entry.now in
    let d = c.in-Some-entry_if_any-2.other.now in (
      λ yes. (
        s,
        c.in-Some.ensures,
        e,
        d,
        record {
          stands = c.in-Some-entry_if_any.ensures;
          other = c.in-Some-entry_if_any-2.ensures;
          known = c.knows.ensures.0 c.if-not-knows.false;
          apart = c.is_apart.ensures.0 c.if-not-is_apart.false;
          dominates = sym c.dominates.ensures ∙ yes;
          kept_here = c.is_kept_beside.ensures.0 c.if-not-is_kept_beside.false;
        },
      ),
      λ h.
          let one : h.2 ≡ e = same_entry t c.args.q h.2 e h.4.stands c.in-Some-entry_if_any.ensures in
          let two : h.3 ≡ d = same_entry t c.args.by h.3 d h.4.other c.in-Some-entry_if_any-2.ensures in
          c.dominates.ensures ∙ sym (ap (λ (z : Entry g.row.S-Label.Denot). r.dominates z.label e.label) two) ∙ sym (ap (λ (z : Entry g.row.S-Label.Denot). r.dominates h.3.label z.label) one) ∙ h.4.dominates,
    )
