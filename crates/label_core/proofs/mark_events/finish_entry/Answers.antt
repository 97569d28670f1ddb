use Rattle.std.proofs.Common.{set, get_or, ◌++◌, ◌≡◌, Some, sym, ap, ◌∙◌, subst}
use Rattle.std.specs.Prelude.{slice_get}
use Rattle.label_core.specs.declared.table.Turn.TheVariants.{Done}
use Rattle.label_core.specs.Puts.{with_turn}
use Rattle.label_core.specs.declared.machine.PassState.{PassState}
use Rattle.label_core.specs.Passes.{finished}
use Rattle.label_core.specs.Steps.{after_mark}
use Rattle.label_core.proofs.MachineLists.{read_here}
use Rattle.label_core.proofs.Marked.{marked_is}
use Rattle.label_core.proofs.mark_events.finish_entry.Goals as goal

pub returns : goal.returns
returns g c =
    let x = c.args.core in
    let i = c.in-Some.claim in
    let h = c.in-Some.ensures in
    let s = h.0 in
    let e = h.2 in
    let k = h.3 in
    let may = h.4 in
    let ps = c.into_vec-passes.ensures in
    let was = c.index_mut.result.now in
    let was_is = read_here x.passes c.args.p s was h.1.0 (c.index_mut.ensures.value ∙ ap (λ l. get_or l c.args.p was) ps) in
    let ended = c.in_ok-done.ensures k (subst (λ (z : PassState). slice_get z.claims i ≡ Some k) (sym was_is) may.claim_at) in (
      s,
      h.1,
      e,
      i,
      k,
      may,
      marked_is x c.args.p (finished i s) c.args.q (with_turn (Done c.in_ok-done.done) e) c.set_turn.new.cells c.from_vec.result
          (c.set_turn.ensures e may.stands)
          (c.from_vec.ensures ∙ ap (λ l. set l c.args.p c.end_claim.new.pass) ps
          ∙ ap (λ z. set x.passes c.args.p z) (ended.1 ∙ ap (λ z. finished i z) was_is))
          ∙ ap (λ fates. after_mark x c.args.p (finished i s) c.args.q (with_turn (Done fates) e)) ended.0,
    )
