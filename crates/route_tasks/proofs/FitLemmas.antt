-- The parts of the model of a task fit.
use Rattle.std.proofs.Common.{◌≡◌, ◌≢◌, ℕ, zero, suc, ◌+◌, ◌-◌, ◌*◌, ◌<◌, ◌≤◌, ℤ, pos, ◌-ℤ◌, ◌*ℤ◌, ◌≤ℤ◌, unsigned_abs, List, [], ◌∷◌, length, get_or, Bool, true, false, not, ◌&&◌, refl, sym, ◌∙◌, ap, subst, arith, inl, inr, nat_lt, mul-le-mul, Some, None, IfSome}
use Rattle.std.specs.Prelude.{if◌then◌else◌, int_lt, slice_index_or, ◌⊎◌}
use Rattle.std.specs.List.{range_with_len}
use Rattle.std.specs.Ordering.{int_eq}
use Rattle.std.proofs.lemmas.Int.{ints}
use Rattle.std.proofs.lemmas.Bool.{cases_lt}
use Rattle.std.proofs.lemmas.Bool.Decides.{nat_tests, Decides-int_eq}
use Rattle.std.specs.Bool.{Decides}
use Rattle.std.proofs.lemmas.List.{get_or_past}
use Rattle.std.proofs.lemmas.List.Elements.{All-map}
use Rattle.std.proofs.lemmas.List.Sums.{AllPass-from_list_all}
use Rattle.std.proofs.lemmas.List.FromFn.{length-map-range_with_len, get_or-map-range_with_len}
use Rattle.path_graph.specs.declared.parts.Window.{Window}
use Rattle.path_graph.specs.declared.parts.Vertex.{Vertex}
use Rattle.path_graph.specs.declared.parts.GraphArc.{GraphArc}
use Rattle.path_graph.specs.Fit.{PartsFit, EndsFit, VertexFits, ArcFits, WindowFits, NeedFits, is_used_at, int_at, vertex_at}
use Rattle.path_graph.specs.Free.{is_free, IsFreePath, HasNoFreeCycle}
use Rattle.path_graph.specs.Parts.{arc_at}
use Rattle.path_graph.specs.Within.{IsWithin}
use Rattle.path_graph.proofs.SumLemmas.{within_abs}
use Rattle.route_tasks.specs.declared.task.Stop.{Stop}
use Rattle.route_tasks.specs.declared.task.RouteTask.{RouteTask}
use Rattle.route_tasks.specs.Distance.{IsPlaced, squared}
use Rattle.route_tasks.specs.Fit.{StopFits, TaskFits}
use Rattle.route_tasks.specs.Places.{customers, place_at, distance_at}
use Rattle.route_tasks.specs.ModelOf.{is_timed, is_load_main, laid, window, set_of, vertex_of, time_need, stop_need, arcs_of, ends_of, vertices_of}
use Rattle.route_tasks.proofs.DistanceLemmas.{root_small}
use Rattle.route_tasks.proofs.ListLemmas.{all_range}
use Rattle.route_tasks.proofs.ArcLemmas.{IsArc, each_arc, arc_is, few_arcs}

-- each place fits
pub place_fits : (task : RouteTask) (v : ℕ) → TaskFits task → StopFits (place_at task v)
place_fits task zero fits = fits.depot_fits
place_fits task (suc k) fits = elim (cases_lt k (length task.stops)) [
  | inl there ↦ fits.each_fits k task.depot there
  | inr past ↦ subst StopFits (sym (get_or_past task.stops k task.depot past)) fits.depot_fits
]

-- no distance is above 2,828,427
gap_small : (x y : ℤ) → IsWithin 100000 x → IsWithin 100000 y → unsigned_abs (x -ℤ y) ≤ 200000
gap_small x y p q = within_abs 200000 (x -ℤ y) (omega (arith, ints, p.0, p.1, q.0, q.1), omega (arith, ints, p.0, p.1, q.0, q.1))

squared_small : (a b : Stop) → IsPlaced a → IsPlaced b → squared a b ≤ 80000000000
squared_small a b p q =
    let across = gap_small a.x b.x p.across q.across in
    let along = gap_small a.y b.y p.along q.along in
    let first : unsigned_abs (a.x -ℤ b.x) * unsigned_abs (a.x -ℤ b.x) ≤ 200000 * 200000 = mul-le-mul across across in
    let second : unsigned_abs (a.y -ℤ b.y) * unsigned_abs (a.y -ℤ b.y) ≤ 200000 * 200000 = mul-le-mul along along in
    omega (arith, first, second)

pub distance_small : (task : RouteTask) (u v : ℕ) → TaskFits task → distance_at task u v ≤ 2828427
distance_small task u v fits =
    root_small task.style (squared (place_at task u) (place_at task v))
    (squared_small (place_at task u) (place_at task v) (place_fits task u fits).placed (place_fits task v fits).placed)

-- what is laid out fits where each part does
abbrev used : Bool → Bool → ℕ → Bool
used t l k = if nat_lt k 2 then nat_lt k (if t then 2 else 1) else nat_lt k (2 + (if l then 0 else 1))

record PartsAre {X : Type 0} (Fits : Bool → Bool → X → Type 0) (time stops load none : X) : Type 0 where
  time_fits : Fits true true time
  stops_fit : Fits true true stops
  load_fits : Fits true true load
  second_fits : Fits true false load
  no_main : Fits false true none
  no_second : Fits false false none

laid_fits : {X : Type 0} (Fits : Bool → Bool → X → Type 0) (time stops load none : X) (t l : Bool) → PartsAre Fits time stops load none → (k : ℕ) → k < 6 → Fits (used t l k) (nat_lt k 2) (slice_index_or (laid t l time stops load none) k none)
laid_fits Fits time stops load none true true p zero h = p.time_fits
laid_fits Fits time stops load none true true p (suc zero) h = p.load_fits
laid_fits Fits time stops load none true true p (suc (suc zero)) h = p.no_second
laid_fits Fits time stops load none true true p (suc (suc (suc zero))) h = p.no_second
laid_fits Fits time stops load none true true p (suc (suc (suc (suc zero)))) h = p.no_second
laid_fits Fits time stops load none true true p (suc (suc (suc (suc (suc zero))))) h = p.no_second
laid_fits Fits time stops load none true true p (suc (suc (suc (suc (suc (suc k)))))) h = absurd (omega (arith, h))
laid_fits Fits time stops load none true false p zero h = p.time_fits
laid_fits Fits time stops load none true false p (suc zero) h = p.stops_fit
laid_fits Fits time stops load none true false p (suc (suc zero)) h = p.second_fits
laid_fits Fits time stops load none true false p (suc (suc (suc zero))) h = p.no_second
laid_fits Fits time stops load none true false p (suc (suc (suc (suc zero)))) h = p.no_second
laid_fits Fits time stops load none true false p (suc (suc (suc (suc (suc zero))))) h = p.no_second
laid_fits Fits time stops load none true false p (suc (suc (suc (suc (suc (suc k)))))) h = absurd (omega (arith, h))
laid_fits Fits time stops load none false true p zero h = p.load_fits
laid_fits Fits time stops load none false true p (suc zero) h = p.no_main
laid_fits Fits time stops load none false true p (suc (suc zero)) h = p.no_second
laid_fits Fits time stops load none false true p (suc (suc (suc zero))) h = p.no_second
laid_fits Fits time stops load none false true p (suc (suc (suc (suc zero)))) h = p.no_second
laid_fits Fits time stops load none false true p (suc (suc (suc (suc (suc zero))))) h = p.no_second
laid_fits Fits time stops load none false true p (suc (suc (suc (suc (suc (suc k)))))) h = absurd (omega (arith, h))
laid_fits Fits time stops load none false false p zero h = p.stops_fit
laid_fits Fits time stops load none false false p (suc zero) h = p.no_main
laid_fits Fits time stops load none false false p (suc (suc zero)) h = p.second_fits
laid_fits Fits time stops load none false false p (suc (suc (suc zero))) h = p.no_second
laid_fits Fits time stops load none false false p (suc (suc (suc (suc zero)))) h = p.no_second
laid_fits Fits time stops load none false false p (suc (suc (suc (suc (suc zero))))) h = p.no_second
laid_fits Fits time stops load none false false p (suc (suc (suc (suc (suc (suc k)))))) h = absurd (omega (arith, h))

laid_size : {X : Type 0} (t l : Bool) (time stops load none : X) → length (laid t l time stops load none) ≡ 6
laid_size true true time stops load none = refl
laid_size true false time stops load none = refl
laid_size false true time stops load none = refl
laid_size false false time stops load none = refl

window_fits : (low high : ℤ) → pos 0 ≤ℤ low → low ≤ℤ high → high ≤ℤ pos 100000000 → WindowFits true (window low high)
window_fits low high p q r = (omega (arith, ints), q, r)

-- the set of a customer
pub set_is : (n v : ℕ) (P : ℕ → Type 0) → (1 ≤ v → v ≤ n → P (v - 1)) → IfSome (set_of n v) P
set_is n v P h = by_test (nat_lt 0 v && not (nat_lt n v)) refl
  where
    low : (nat_lt 0 v && not (nat_lt n v)) ≡ true → 1 ≤ v
    low e = grind (arith, nat_tests)

    high : (nat_lt 0 v && not (nat_lt n v)) ≡ true → v ≤ n
    high e = grind (arith, nat_tests)

    by_test : (b : Bool) → (nat_lt 0 v && not (nat_lt n v)) ≡ b → IfSome (if b then Some (v - 1) else None) P
    by_test true e = h (low e) (high e)
    by_test false e = tt

vertex_fits : (task : RouteTask) (v : ℕ) → TaskFits task → VertexFits (ends_of task) (vertex_of task v)
vertex_fits task v fits = record { set = in_range; places = laid_size t l time stops load none; windows = λ k h. laid_fits (λ used main. WindowFits used) time stops load none t l parts k (omega (arith, h, laid_size t l time stops load none)) }
  where
    n : ℕ
    n = customers task

    t : Bool
    t = is_timed task.style

    l : Bool
    l = is_load_main task

    time : Window
    time = window (pos 10 *ℤ (place_at task v).ready) (pos 10 *ℤ (place_at task v).due)

    stops : Window
    stops = window (pos 0) (pos n)

    load : Window
    load = window (pos 0) task.capacity

    none : Window
    none = window (pos 0) (pos 0)

    in_range : IfSome (set_of n v) (λ s. s < 512)
    in_range = set_is n v (λ s. s < 512) (λ low high. omega (arith, low, high, fits.few_customers))

    parts : PartsAre (λ used main. WindowFits used) time stops load none
    parts =
        let fit = place_fits task v fits in
        record {
          time_fits = window_fits (pos 10 *ℤ (place_at task v).ready) (pos 10 *ℤ (place_at task v).due) (omega (arith, ints, fit.opens)) (omega (arith, ints, fit.order)) (omega (arith, ints, fit.closes));
          stops_fit = window_fits (pos 0) (pos n) (omega (arith, ints)) (omega (arith, ints)) (omega (arith, ints, fits.few_customers));
          load_fits = window_fits (pos 0) task.capacity (omega (arith, ints)) (omega (arith, ints, fits.capacity_fits.0)) fits.capacity_fits.1;
          second_fits = window_fits (pos 0) task.capacity (omega (arith, ints)) (omega (arith, ints, fits.capacity_fits.0)) fits.capacity_fits.1;
          no_main = (refl, refl);
          no_second = (refl, refl);
        }

arc_fits : (task : RouteTask) (arc : GraphArc) → TaskFits task → IsArc task arc → ArcFits (ends_of task) (customers task + 2) arc
arc_fits task arc fits is = record {
  tail = omega (arith, is.from);
  head = omega (arith, is.to);
  not_in = λ e. omega (arith, is.some, e);
  not_out = λ e. omega (arith, is.from, e);
  places = ap length is.needs ∙ laid_size t l time stops load (pos 0);
  needs = λ k h. subst (λ (qs : List ℤ). NeedFits (is_used_at (ends_of task) k) (nat_lt k 2) (int_at qs k)) (sym is.needs)
      (laid_fits (λ used main. NeedFits used main) time stops load (pos 0) t l parts k (omega (arith, h, ap length is.needs, laid_size t l time stops load (pos 0))));
}
  where
    n : ℕ
    n = customers task

    t : Bool
    t = is_timed task.style

    l : Bool
    l = is_load_main task

    time : ℤ
    time = time_need task arc.tail arc.head

    stops : ℤ
    stops = stop_need n arc.head

    load : ℤ
    load = (place_at task arc.head).demand

    one : (b : Bool) → (pos 0 ≤ℤ (if b then pos 0 else pos 1)) × ((if b then pos 0 else pos 1) ≤ℤ pos 100000000)
    one true = (omega (arith, ints), omega (arith, ints))
    one false = (omega (arith, ints), omega (arith, ints))

    parts : PartsAre (λ used main. NeedFits used main) time stops load (pos 0)
    parts =
        let from = place_fits task arc.tail fits in
        let to = place_fits task arc.head fits in
        let far = distance_small task arc.tail arc.head fits in
        record {
          time_fits = (omega (arith, ints, from.served.0), omega (arith, ints, from.served.1, far));
          stops_fit = one (nat_lt n arc.head);
          load_fits = (to.demanded.0, to.demanded.1);
          second_fits = (omega (arith, ints, to.demanded.0), to.demanded.1);
          no_main = refl;
          no_second = refl;
        }

-- the ends fit, and the parts of the graph
ends_fit : (task : RouteTask) → TaskFits task → EndsFit (ends_of task) (customers task + 2)
ends_fit task fits = record {
  source = omega arith;
  sink = omega arith;
  different = λ e. omega (arith, e);
  paths = omega arith;
  most_paths = omega (arith, fits.few_customers);
  some_main = (two_or_one (is_timed task.style)).0;
  mains = (two_or_one (is_timed task.style)).1;
  seconds = none_or_one (is_load_main task);
}
  where
    two_or_one : (b : Bool) → (1 ≤ (if b then 2 else 1)) × ((if b then 2 else 1) ≤ 2)
    two_or_one true = (omega arith, omega arith)
    two_or_one false = (omega arith, omega arith)

    none_or_one : (b : Bool) → (if b then 0 else 1) ≤ 4
    none_or_one true = omega arith
    none_or_one false = omega arith

pub vertices_size : (task : RouteTask) → length (vertices_of task) ≡ customers task + 2
vertices_size task = length-map-range_with_len (vertex_of task) 0 (customers task + 2)

pub vertex_is : (task : RouteTask) (v : ℕ) → v < customers task + 2 → vertex_at (vertices_of task) v ≡ vertex_of task v
vertex_is task v l = get_or-map-range_with_len (vertex_of task) 0 (customers task + 2) v v _ l (omega arith)

no_set : (n v : ℕ) → v ≡ 0 ⊎ n < v → set_of n v ≡ None
no_set n v (inl least) = let e : (nat_lt 0 v && not (nat_lt n v)) ≡ false = grind (arith, nat_tests) in ap (λ b. if b then Some (v - 1) else None) e
no_set n v (inr past) = let e : (nat_lt 0 v && not (nat_lt n v)) ≡ false = grind (arith, nat_tests) in ap (λ b. if b then Some (v - 1) else None) e

pub widest : (n : ℕ) → n ≤ 244 → (n + 1) * n ≤ 245 * 244
widest n few = let more : n + 1 ≤ 245 = omega (arith, few) in mul-le-mul more few

pub parts_fit : (task : RouteTask) → TaskFits task → PartsFit (ends_of task) (vertices_of task) (arcs_of task)
parts_fit task fits = record {
  some_vertices = omega (arith, vertices_size task);
  few_vertices = omega (arith, vertices_size task, fits.few_customers);
  few_arcs =
      let few = few_arcs task fits.some_customers in
      let most : (customers task + 1) * customers task ≤ 245 * 244 = widest (customers task) fits.few_customers in
      omega (arith, few, most);
  ends_fit = subst (EndsFit (ends_of task)) (sym (vertices_size task)) (ends_fit task fits);
  source_free = ap (λ (v : Vertex). v.set) (vertex_is task 0 (omega arith)) ∙ no_set (customers task) 0 (inl refl);
  sink_free = ap (λ (v : Vertex). v.set) (vertex_is task (customers task + 1) (omega arith)) ∙ no_set (customers task) (customers task + 1) (inr (omega arith));
  each_vertex = All-map (VertexFits (ends_of task)) (vertex_of task) (range_with_len 0 (customers task + 2))
      (all_range (λ v. VertexFits (ends_of task) (vertex_of task v)) 0 (customers task + 2) (λ v low high. vertex_fits task v fits));
  each_arc = λ a d l. subst (λ (count : ℕ). ArcFits (ends_of task) count (get_or (arcs_of task) a d)) (sym (vertices_size task))
      (arc_fits task (get_or (arcs_of task) a d) fits (each_arc task a d l));
}

-- only arcs into the sink are without main consumption
no_truth : false ≡ true → ⊥
no_truth h = cc

both_zero : (x y : ℤ) → (int_eq x (pos 0) && int_eq y (pos 0)) ≡ true → (x ≡ pos 0) × (y ≡ pos 0)
both_zero x y e = zeros (int_eq x (pos 0)) (int_eq y (pos 0)) (Decides-int_eq x (pos 0)) (Decides-int_eq y (pos 0)) e
  where
    zeros : (a b : Bool) → Decides a (x ≡ pos 0) → Decides b (y ≡ pos 0) → (a && b) ≡ true → (x ≡ pos 0) × (y ≡ pos 0)
    zeros true true p q h = (p.0 refl, q.0 refl)
    zeros true false p q h = absurd (no_truth h)
    zeros false b p q h = absurd (no_truth h)

free_main : (t l : Bool) (time stops load : ℤ) → (int_eq (int_at (laid t l time stops load (pos 0)) 0) (pos 0) && int_eq (int_at (laid t l time stops load (pos 0)) 1) (pos 0)) ≡ true → (if l then load else stops) ≡ pos 0
free_main true true time stops load e = (both_zero time load e).1
free_main true false time stops load e = (both_zero time stops e).1
free_main false true time stops load e = (both_zero load (pos 0) e).0
free_main false false time stops load e = (both_zero stops (pos 0) e).0

-- with a demand of at least 1 at each customer, load rises; else each stop counts
demanded : (task : RouteTask) (v : ℕ) → is_load_main task ≡ true → 1 ≤ v → v ≤ customers task → (place_at task v).demand ≢ pos 0
demanded task zero main low high = absurd (omega (arith, low))
demanded task (suc k) main low high =
    let each = AllPass-from_list_all (λ s. int_lt (pos 0) s.demand) task.stops main in
    let here : int_lt (pos 0) (place_at task (suc k)).demand ≡ true = each k task.depot (omega (arith, high)) in
    positive (place_at task (suc k)).demand here
  where
    positive : (z : ℤ) → int_lt (pos 0) z ≡ true → z ≢ pos 0
    positive z e none = no_truth (subst (λ (x : ℤ). int_lt (pos 0) x ≡ true) none e)

free_head : (task : RouteTask) (arc : GraphArc) → IsArc task arc → is_free arc ≡ true → customers task < arc.head
free_head task arc is free = elim (cases_lt (customers task) arc.head) [
  | inl past ↦ past
  | inr within ↦ absurd (by_main (is_load_main task) refl (free_main (is_timed task.style) (is_load_main task) (time_need task arc.tail arc.head) (stop_need (customers task) arc.head) (place_at task arc.head).demand
      (subst (λ (qs : List ℤ). (int_eq (int_at qs 0) (pos 0) && int_eq (int_at qs 1) (pos 0)) ≡ true) is.needs free)) within)
]
  where
    by_main : (b : Bool) → is_load_main task ≡ b → (if b then (place_at task arc.head).demand else stop_need (customers task) arc.head) ≡ pos 0 → arc.head ≤ customers task → ⊥
    by_main true e none within = demanded task arc.head e is.some within none
    by_main false e none within =
        let here : nat_lt (customers task) arc.head ≡ false = grind (arith, nat_tests) in
        let one : pos 1 ≡ pos 0 = sym (ap (λ (b : Bool). if b then pos 0 else pos 1) here) ∙ none in
        cc

pub no_free_cycle : (task : RouteTask) → HasNoFreeCycle (arcs_of task)
no_free_cycle task cycle is = by_cycle cycle is.vertex is.some is.leads
  where
    by_cycle : (arcs : List ℕ) (v : ℕ) → 1 ≤ length arcs → IsFreePath (arcs_of task) v arcs v → ⊥
    by_cycle [] v some leads = omega (arith, some)
    by_cycle (a ∷ []) v some leads = (arc_is task a leads.0).differ (leads.3 ∙ sym leads.2)
    by_cycle (a ∷ b ∷ rest) v some leads =
        let first = free_head task (arc_at (arcs_of task) a) (arc_is task a leads.0) leads.1 in
        let next = (arc_is task b leads.3.0).from in
        omega (arith, first, next, leads.3.2)
