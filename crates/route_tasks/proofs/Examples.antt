-- Worked facts about the definitions: two customers in each style, with numbers from a computation apart from this repository.
use Rattle.std.proofs.Common.{◌≡◌, ℕ, ℤ, pos, [], ◌∷◌, map, refl, Some, None, ◌-◌, ◌*◌, inl, inr, arith, negsuc}
use Rattle.std.proofs.lemmas.Bool.{cases_lt}
use Rattle.path_graph.specs.declared.parts.GraphArc.{GraphArc}
use Rattle.path_graph.specs.Fit.{int_at}
use Rattle.route_model.specs.declared.parts.Var.{Var}
use Rattle.route_model.specs.declared.parts.Row.{Row}
use Rattle.route_model.specs.declared.parts.RowTerm.{RowTerm}
use Rattle.route_tasks.specs.declared.task.Stop.{Stop}
use Rattle.route_tasks.specs.declared.task.Style.TheVariants.{Euclid, Tenths}
use Rattle.route_tasks.specs.declared.task.RouteTask.{RouteTask}
use Rattle.route_tasks.specs.Distance.{distance_of, root_of, greatest_up_to}
use Rattle.route_tasks.specs.Places.{place_at}
use Rattle.route_tasks.specs.ModelOf.{windows_of, window, set_of, arcs_of, mapped_of, vars_of, rows_of, ends_of, needs_of}
use Rattle.route_tasks.specs.Routes.{route_cost, time_after, load_of, numbers_of, visited}
use Rattle.route_tasks.proofs.DistanceLemmas.{root_is, square_rises}

-- squares, one below and one above, by the squared distance
squares : map (root_of Euclid) (0 ∷ 1 ∷ 2 ∷ 3 ∷ 8 ∷ 9 ∷ 10 ∷ 13 ∷ 24 ∷ 25 ∷ 26 ∷ []) ≡ (0 ∷ 1 ∷ 1 ∷ 2 ∷ 3 ∷ 3 ∷ 3 ∷ 4 ∷ 5 ∷ 5 ∷ 5 ∷ [])
unfolding root_of greatest_up_to
squares = refl

halves : map (root_of Euclid) (6 ∷ 7 ∷ 12 ∷ 20 ∷ 21 ∷ 30 ∷ 31 ∷ []) ≡ (2 ∷ 3 ∷ 3 ∷ 4 ∷ 5 ∷ 5 ∷ 6 ∷ [])
unfolding root_of greatest_up_to
halves = refl

tenths : map (root_of Tenths) (0 ∷ 1 ∷ 2 ∷ 3 ∷ 8 ∷ 9 ∷ 10 ∷ 13 ∷ []) ≡ (0 ∷ 10 ∷ 14 ∷ 17 ∷ 28 ∷ 30 ∷ 31 ∷ 36 ∷ [])
unfolding root_of greatest_up_to
tenths = refl

-- at opposite corners of the range
corners : root_of Euclid 80000000000 ≡ 282843
corners =
    root_is Euclid 80000000000 282843
    (record {
      none = λ e. absurd (omega (arith, e));
      greatest = λ some. record {
        holds = omega arith;
        most = λ e h. elim (cases_lt 282843 e) [
          | inl more ↦ let wide = square_rises 565687 (2 * e - 1) (omega (arith, more)) in absurd (omega (arith, wide, h))
          | inr within ↦ within
        ];
      };
    })

corners_in_tenths : root_of Tenths 80000000000 ≡ 2828427
corners_in_tenths =
    root_is Tenths 80000000000 2828427
    (record {
      holds = omega arith;
      most = λ e h. elim (cases_lt 2828427 e) [
        | inl more ↦ let wide = square_rises 2828428 e more in absurd (omega (arith, wide, h))
        | inr within ↦ within
      ];
    })

-- two customers with demands, without time
abbrev stop : ℕ → ℤ → ℤ → ℤ → Stop
stop number x y demand = record { number = number; x = x; y = y; demand = demand; ready = pos 0; due = pos 0; service = pos 0 }

abbrev plain : RouteTask
plain = record { style = Euclid; vehicles = 2; capacity = pos 5; depot = stop 1 (pos 0) (pos 0) (pos 0); stops = stop 2 (pos 3) (pos 4) (pos 2) ∷ stop 4 (pos 2) (pos 3) (pos 3) ∷ [] }

near_four : distance_of Euclid (place_at plain 0) (place_at plain 2) ≡ 4
unfolding root_of greatest_up_to
near_four = refl

plain_costs : map {B = ℤ × ℤ} (λ (v : Var). (v.high, v.cost)) (vars_of plain) ≡ (pos 2, pos 5) ∷ (pos 2, pos 4) ∷ (pos 1, pos 1) ∷ []
unfolding root_of greatest_up_to
plain_costs = refl

plain_rows : map (λ (r : Row). map (λ (t : RowTerm). t.var) r.terms) (rows_of 2) ≡ (0 ∷ 2 ∷ []) ∷ (1 ∷ 2 ∷ []) ∷ []
plain_rows = refl

plain_arcs : map {B = ℕ × ℕ} (λ (a : GraphArc). (a.tail, a.head)) (arcs_of plain) ≡ (0, 1) ∷ (0, 2) ∷ (1, 2) ∷ (1, 3) ∷ (2, 1) ∷ (2, 3) ∷ []
plain_arcs = refl

plain_loads : map (λ (a : GraphArc). int_at a.needs 0) (arcs_of plain) ≡ pos 2 ∷ pos 3 ∷ pos 3 ∷ pos 0 ∷ pos 2 ∷ pos 0 ∷ []
plain_loads = refl

plain_maps : map (mapped_of 2) (arcs_of plain) ≡ (0 ∷ []) ∷ (1 ∷ []) ∷ (2 ∷ []) ∷ (0 ∷ []) ∷ (2 ∷ []) ∷ (1 ∷ []) ∷ []
plain_maps = refl

plain_ends : ends_of plain ≡ record { source = 0; sink = 3; low = 0; high = 2; mains = 1; seconds = 0 }
plain_ends = refl

-- one route through both costs 10, two routes cost 18
plain_route : route_cost plain ((1 ∷ 2 ∷ []) ∷ []) ≡ pos 10
unfolding root_of greatest_up_to
plain_route = refl

plain_two_routes : route_cost plain ((1 ∷ []) ∷ (2 ∷ []) ∷ []) ≡ pos 18
unfolding root_of greatest_up_to
plain_two_routes = refl

plain_numbers : numbers_of plain ((1 ∷ 2 ∷ []) ∷ []) ≡ (2 ∷ 4 ∷ []) ∷ []
plain_numbers = refl

plain_visits : visited plain (0 ∷ 2 ∷ 5 ∷ []) ≡ 1 ∷ 2 ∷ []
plain_visits = refl

-- two customers with times, of which one has no demand, so that stops are main and load is secondary
abbrev timed : RouteTask
timed = record {
  style = Tenths;
  vehicles = 3;
  capacity = pos 5;
  depot = record { number = 0; x = pos 0; y = pos 0; demand = pos 0; ready = pos 1; due = pos 30; service = pos 2 };
  stops =
      record { number = 7; x = pos 3; y = pos 4; demand = pos 0; ready = pos 2; due = pos 12; service = pos 1 }
      ∷ record { number = 9; x = pos 2; y = pos 3; demand = pos 3; ready = pos 0; due = pos 20; service = pos 0 }
      ∷ [];
}

timed_needs : needs_of timed 1 2 ≡ pos 24 ∷ pos 1 ∷ pos 3 ∷ pos 0 ∷ pos 0 ∷ pos 0 ∷ []
unfolding root_of greatest_up_to
timed_needs = refl

timed_windows : windows_of timed 1 ≡ window (pos 20) (pos 120) ∷ window (pos 0) (pos 2) ∷ window (pos 0) (pos 5) ∷ window (pos 0) (pos 0) ∷ window (pos 0) (pos 0) ∷ window (pos 0) (pos 0) ∷ []
timed_windows = refl

timed_sets : map (set_of 2) (0 ∷ 1 ∷ 2 ∷ 3 ∷ []) ≡ None ∷ Some 0 ∷ Some 1 ∷ None ∷ []
timed_sets = refl

timed_ends : ends_of timed ≡ record { source = 0; sink = 3; low = 0; high = 2; mains = 2; seconds = 1 }
timed_ends = refl

timed_route : route_cost timed ((1 ∷ 2 ∷ []) ∷ []) ≡ pos 100
unfolding root_of greatest_up_to
timed_route = refl

-- the depot opens at 10: the first customer is reached at 80, the second at 104, and the depot at 140
timed_times : (time_after timed 0 (pos 10) 1 ∷ time_after timed 1 (pos 80) 2 ∷ time_after timed 2 (pos 104) 0 ∷ []) ≡ pos 80 ∷ pos 104 ∷ pos 140 ∷ []
unfolding root_of greatest_up_to
timed_times = refl

-- a stop that is reached before it opens begins as it opens
timed_early : time_after timed 0 (negsuc 79) 1 ≡ pos 20
unfolding root_of greatest_up_to
timed_early = refl

timed_load : load_of timed (1 ∷ 2 ∷ []) ≡ pos 3
timed_load = refl
