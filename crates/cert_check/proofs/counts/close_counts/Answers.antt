use Rattle.std.proofs.Common.{◌≡◌, ◌≤◌, ◌^◌, List, true, inr, refl, w64, subst, sym, rules}
use Rattle.std.specs.Int.{w128}
use Rattle.std.proofs.lemmas.Int.{to_z-of_z}
use Rattle.route_model.specs.declared.places.Span.{Span}
use Rattle.cert_check.specs.declared.stack.Listed.{Listed}
use Rattle.cert_check.specs.Costs.{IsTermSum, tops}
use Rattle.cert_check.specs.Frames.{walks_said}
use Rattle.cert_check.proofs.TermLemmas.{as_read, base_fits, closed, not_closed, sum_within}
use Rattle.cert_check.proofs.counts.close_counts.Goals as goal

pub closes-requires-clause-terms : goal.closes-requires-clause-terms
closes-requires-clause-terms c =
    let few = subst (λ (bs : List Span). tops bs ≤ 2 ^ 37) (sym c.as_slice-in-Ok.ensures) c.requires.fits.sum in
    sum_within c.args.model.now c.in-Ok.priced (walks_said c.as_slice.result.now) c.as_slice-in-Ok.result.now c.term_sum-terms.result few c.term_sum-terms.ensures

pub returns-then-closes : goal.returns-then-closes
returns-then-closes c =
    let m = c.args.model.now in
    let t = c.args.tree.now in
    let p = c.in-Ok.priced in
    let terms = c.term_sum-terms.result in
    let sum = subst (λ (bs : List Span). IsTermSum m p (walks_said t.walks) bs terms) c.as_slice-in-Ok.ensures
    (subst (λ (ws : List Listed). IsTermSum m p (walks_said ws) c.as_slice-in-Ok.result.now terms) c.as_slice.ensures c.term_sum-terms.ensures) in
    let above = as_read c.args.z _ p.base _ terms (to_z-of_z w64 c.args.z (search rules)) (to_z-of_z w128 p.base (base_fits p.base c.in-Ok.ensures.range.base)) (c.closes.ensures.0 c.if-closes.true) in
    closed m c.args.z t.spot (walks_said t.walks) t.boxes c.args.mult.now p c.in-Ok.ensures c.requires.fits.each_walk terms sum above

pub returns : goal.returns
returns c =
    let m = c.args.model.now in
    let t = c.args.tree.now in
    let p = c.in-Ok.priced in
    let terms = c.term_sum-terms.result in
    let sum = subst (λ (bs : List Span). IsTermSum m p (walks_said t.walks) bs terms) c.as_slice-in-Ok.ensures
    (subst (λ (ws : List Listed). IsTermSum m p (walks_said ws) c.as_slice-in-Ok.result.now terms) c.as_slice.ensures c.term_sum-terms.ensures) in
    inr (
      c.in-Ok.ensures.priced.defined,
      (
        refl,
        not_closed m c.args.z t.spot (walks_said t.walks) t.boxes c.args.mult.now p c.in-Ok.ensures c.requires.fits.each_walk terms sum
            (λ above.
            let read = as_read _ c.args.z _ p.base terms (sym (to_z-of_z w64 c.args.z (search rules))) (sym (to_z-of_z w128 p.base (base_fits p.base c.in-Ok.ensures.range.base))) above in
            let t : c.closes.result ≡ true = c.closes.ensures.1 read in
            cc),
      ),
    )
