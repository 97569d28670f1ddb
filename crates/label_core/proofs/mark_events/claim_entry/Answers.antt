use Rattle.std.proofs.Common.{set, get_or, ◌≡◌, sym, ap, ◌∙◌}
use Rattle.label_core.specs.declared.table.Turn.TheVariants.{Claimed}
use Rattle.label_core.specs.Puts.{set_at, with_turn}
use Rattle.label_core.specs.Passes.{claimed}
use Rattle.label_core.specs.Steps.{after_mark}
use Rattle.label_core.proofs.MachineLists.{read_here}
use Rattle.label_core.proofs.Marked.{marked_is}
use Rattle.label_core.proofs.mark_events.claim_entry.Goals as goal

pub returns : goal.returns
returns g c =
    let x = c.args.core in
    let s = c.in-Some.pass.now in
    let e = c.in-Some-entry_if_any.entry.now in
    let stands = c.in-Some-entry_if_any.ensures in
    let ps = c.into_vec-passes.ensures in
    let was = c.index_mut.result.now in
    let was_is = read_here x.passes c.args.p s was c.in-Some.ensures.0 (c.index_mut.ensures.value ∙ ap (λ l. get_or l c.args.p was) ps) in
    let may = c.is_claimable.ensures.0 c.if-not-is_claimable.false in (
      s,
      c.in-Some.ensures,
      e,
      record { stands = stands; fresh_still = may.0; kept = may.1 },
      marked_is x c.args.p (claimed c.args.q s) c.args.q (with_turn (Claimed c.claim_number-number.result) e) c.set_turn.new.cells c.from_vec.result
          (c.set_turn.ensures e stands)
          (c.from_vec.ensures ∙ ap (λ l. set l c.args.p c.note_claim.new.pass) ps
          ∙ ap (λ z. set x.passes c.args.p z) (c.in_ok-note_claim.ensures ∙ ap (λ z. claimed c.args.q z) was_is))
          ∙ ap (λ n. after_mark x c.args.p (claimed c.args.q s) c.args.q (with_turn (Claimed n) e)) c.claim_number-number.ensures,
    )
