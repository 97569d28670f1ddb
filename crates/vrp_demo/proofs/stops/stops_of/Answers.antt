use Rattle.std.proofs.Common.{◌≡◌, ℕ, ◌+◌, ◌*◌, ◌≤◌, map, ap, sym, ◌∙◌, subst, arith}
use Rattle.std.specs.List.{range_with_len}
use Rattle.vrp_demo.specs.Draws.{state}
use Rattle.vrp_demo.specs.Stops.{stop_at}
use Rattle.vrp_demo.proofs.StateLemmas.{state_later, state_small}
use Rattle.vrp_demo.proofs.StopLemmas.{customer_drawn, sink_stop}
use Rattle.vrp_demo.proofs.PairLemmas.{item_more}
use Rattle.vrp_demo.proofs.stops.stops_of.Goals as goal

pub customer-requires : goal.customer-requires
customer-requires c =
    let seed = c.args.seed in
    let i = c.loop.counter in
    subst (λ (x : ℕ). x ≤ 65536) (sym c.loop.invariant.0) (state_small seed (3 * i + 2) c.requires)

pub loop-preserved : goal.loop-preserved
loop-preserved c =
    let seed = c.args.seed in
    let size = c.args.size in
    let i = c.loop.counter in
    let next : 3 * i + 2 + 3 ≡ 3 * (i + 1) + 2 = omega arith in
    let drawn = customer_drawn seed size i c.loop.draws.state c.loop-test.true c.loop.invariant.0 in (
      c.customer.ensures.state
          ∙ (ap (λ x. state x 3) c.loop.invariant.0 ∙ (state_later seed (3 * i + 2) 3 ∙ ap (state seed) next)),
      item_more (stop_at seed size) 0 (i + 1) (i + 1) _ _ _ (omega arith) c.loop.invariant.1 (c.customer.ensures.stop ∙ drawn) c.in_ok-push-2.ensures.ok,
    )

pub returns : goal.returns
returns c =
    let seed = c.args.seed in
    let size = c.args.size in
    let end : c.loop.counter ≡ size = omega (arith, c.loop-test.false) in
    let so_far : c.loop.stops ≡ map (stop_at seed size) (range_with_len 0 (size + 1)) =
    c.loop.invariant.1 ∙ ap (λ n. map (stop_at seed size) (range_with_len 0 (n + 1))) end
    in
    let last : size + 1 + 1 ≡ size + 2 = omega arith in
    item_more (stop_at seed size) 0 (size + 1) (size + 1) _ _ _ (omega arith) so_far (c.depot-depot.ensures.stop ∙ sink_stop seed size) c.in_ok-push-3.ensures.ok
    ∙ ap (λ n. map (stop_at seed size) (range_with_len 0 n)) last
