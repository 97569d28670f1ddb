-- The stops, one by one, and what holds of each.
use Rattle.std.proofs.Common.{◌≡◌, ℕ, ◌+◌, ◌*◌, ◌%◌, ◌<◌, ◌≤◌, Bool, true, false, sym, ap, ◌∙◌, subst, arith, inl, inr}
use Rattle.std.specs.Prelude.{if◌then◌else◌}
use Rattle.std.proofs.lemmas.Bool.{cases_lt}
use Rattle.std.proofs.lemmas.Bool.Decides.{nat_tests}
use Rattle.std.proofs.lemmas.List.{get_or_past}
use Rattle.std.proofs.lemmas.List.FromFn.{length-map-range_with_len, get_or-map-range_with_len}
use Rattle.vrp_demo.specs.declared.stops.Stop.{Stop}
use Rattle.vrp_demo.specs.Draws.{state}
use Rattle.vrp_demo.specs.Stops.{depot_from, customer_from, customer, is_customer, stop_at, stops}
use Rattle.vrp_demo.specs.Arcs.{stop_in}
use Rattle.vrp_demo.specs.Sound.{StopFits, AreStops}
use Rattle.vrp_demo.proofs.StateLemmas.{state_later}

pub customer_vertex : (size v : ℕ) → 1 ≤ v → v ≤ size → is_customer size v ≡ true
customer_vertex size v low high = grind (arith, nat_tests)

pub past_customers : (size : ℕ) → is_customer size (size + 1) ≡ false
past_customers size = grind (arith, nat_tests)

-- a customer is drawn by the draws after those of the customers before it
pub customer_drawn : (seed size i x : ℕ) → i < size → x ≡ state seed (3 * i + 2) → customer_from x ≡ stop_at seed size (i + 1)
customer_drawn seed size i x within at =
    ap customer_from at
    ∙ ((λ d. record { x = first d % 100; y = second d % 100; demand = 1 + third d % 4 })
    ∙ sym (ap (λ (b : Bool). if b then customer seed (i + 1) else depot_from seed) (customer_vertex size (i + 1) (omega arith) (omega arith))))
  where
    first : state (state seed (3 * i + 2)) 1 ≡ state seed (3 * (i + 1))
    first = let same : 3 * i + 2 + 1 ≡ 3 * (i + 1) = omega arith in state_later seed (3 * i + 2) 1 ∙ ap (state seed) same

    second : state (state seed (3 * i + 2)) 2 ≡ state seed (3 * (i + 1) + 1)
    second = let same : 3 * i + 2 + 2 ≡ 3 * (i + 1) + 1 = omega arith in state_later seed (3 * i + 2) 2 ∙ ap (state seed) same

    third : state (state seed (3 * i + 2)) 3 ≡ state seed (3 * (i + 1) + 2)
    third = let same : 3 * i + 2 + 3 ≡ 3 * (i + 1) + 2 = omega arith in state_later seed (3 * i + 2) 3 ∙ ap (state seed) same

pub sink_stop : (seed size : ℕ) → depot_from seed ≡ stop_at seed size (size + 1)
sink_stop seed size = sym (ap (λ (b : Bool). if b then customer seed (size + 1) else depot_from seed) (past_customers size))

-- each stop is on the grid
depot_fits : (seed : ℕ) → StopFits (depot_from seed)
depot_fits seed = record { x = omega arith; y = omega arith; demand = omega arith }

customer_fits : (seed i : ℕ) → StopFits (customer seed i)
customer_fits seed i = record { x = omega arith; y = omega arith; demand = omega arith }

stop_fits : (seed size v : ℕ) → StopFits (stop_at seed size v)
stop_fits seed size v = by_kind (is_customer size v)
  where
    by_kind : (b : Bool) → StopFits (if b then customer seed v else depot_from seed)
    by_kind true = customer_fits seed v
    by_kind false = depot_fits seed

stop_is : (seed size v : ℕ) → v < size + 2 → stop_in (stops seed size) v ≡ stop_at seed size v
stop_is seed size v within = get_or-map-range_with_len (stop_at seed size) 0 (size + 2) v v (record { x = 0; y = 0; demand = 0 }) within (omega arith)

pub are_stops : (seed size : ℕ) → AreStops size (stops seed size)
are_stops seed size =
    record {
      count = length-map-range_with_len (stop_at seed size) 0 (size + 2);
      each = each;
      demands = demands;
    }
  where
    each : (v : ℕ) → StopFits (stop_in (stops seed size) v)
    each v =
        elim (cases_lt v (size + 2)) [
          | inl within ↦ subst StopFits (sym (stop_is seed size v within)) (stop_fits seed size v)
          | inr past ↦
              let none : Stop = record { x = 0; y = 0; demand = 0 } in
              let long = length-map-range_with_len (stop_at seed size) 0 (size + 2) in
              let fits : StopFits none = record { x = omega arith; y = omega arith; demand = omega arith } in
              subst StopFits (sym (get_or_past (stops seed size) v none (omega (arith, past, long)))) fits
        ]

    demands : (v : ℕ) → 1 ≤ v → v ≤ size → 1 ≤ (stop_in (stops seed size) v).demand
    demands v low high =
        let here : stop_in (stops seed size) v ≡ customer seed v =
        stop_is seed size v (omega arith) ∙ ap (λ (b : Bool). if b then customer seed v else depot_from seed) (customer_vertex size v low high)
        in
        let some : 1 ≤ (customer seed v).demand = omega arith in
        subst (λ (s : Stop). 1 ≤ s.demand) (sym here) some
