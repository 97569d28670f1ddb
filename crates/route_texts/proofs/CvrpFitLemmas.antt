-- What the lines of a CVRP text say stays within the limits.
use Rattle.std.proofs.Common.{◌≡◌, ℕ, ◌+◌, ◌-◌, ◌≤◌, ℤ, pos, List, [], ◌∷◌, length, refl, sym, subst, Bool, true, false, not, arith, rules, Option, None, Some}
use Rattle.std.specs.Prelude.{◌==◌, ◌&&◌, All, IfSome, unwrap_or}
use Rattle.std.specs.Ordering.{int_eq}
use Rattle.std.proofs.lemmas.Bool.Decides.{nat_tests, Decides-int_eq}
use Rattle.std.proofs.lemmas.List.{length-set}
use Rattle.std.proofs.lemmas.List.Elements.{All-nil, All-cons, All-head, All-tail, All-get_or, All-set}
use Rattle.route_tasks.specs.declared.limits.TheConstants.{MAX_LOAD}
use Rattle.route_tasks.specs.declared.task.Style.TheVariants as style
use Rattle.route_tasks.specs.Fit.{IsFromTo, StopFits, AllDiffer, TaskFits}
use Rattle.route_texts.specs.declared.stops.Point.{Point}
use Rattle.route_texts.specs.declared.cvrp_draft.Node.{Node}
use Rattle.route_texts.specs.declared.cvrp_draft.CvrpDraft.{CvrpDraft}
use Rattle.route_texts.specs.Stops.{PointFits}
use Rattle.route_texts.specs.CvrpDraft.{bare_node, bare_nodes, are_some_nodes, node_at, with_point, with_demand}
use Rattle.route_texts.specs.CvrpLines.{is_depot, has_load}
use Rattle.route_texts.specs.CvrpText.{stop_of, customers_of, AreNumbered, NodeFits, IsNode, CvrpFits}
use Rattle.route_texts.proofs.NumberLemmas.{AllDiffer-cons}
use Rattle.route_texts.proofs.NodeLemmas.{length-bare, AreNumbered-bare, NodesFit-bare, AreNumbered-set, demand-set, empty-set, IsEmpty, number-at, numbers_of, by_head, count-customers, IsAbsent-depot, AllDiffer-customers}

node_fits : (nodes : List Node) (number : ℕ) → All NodeFits nodes → IsNode nodes number → NodeFits (node_at nodes number)
node_fits nodes number fits node =
    let first = node.first in
    let last = node.last in
    All-get_or NodeFits nodes (number - 1) (bare_node 0) (omega arith) fits

-- a depot that is a node of a list is one of another of the same length
depot_kept : (depot : Option ℕ) (old new : List Node) → length new ≡ length old → IfSome depot (IsNode old) → IfSome depot (IsNode new)
depot_kept None old new e h = tt
depot_kept (Some depot) old new e h =
    let node : IsNode old depot = h in
    record { first = node.first; last = rw e node.last }

none_in : (depot : Option ℕ) (nodes : List Node) → are_some_nodes nodes ≡ false → IfSome depot (IsNode nodes) → depot ≡ None
none_in None nodes e h = refl
none_in (Some depot) [] e h =
    let node : IsNode [] depot = h in
    let first = node.first in
    let last = node.last in
    absurd (omega arith)
none_in (Some depot) (n ∷ nodes) e h = cc

pub fits-nodes : (d : CvrpDraft) (n : ℕ) → CvrpFits d → are_some_nodes d.nodes ≡ false → 2 ≤ n → n ≤ 245 → CvrpFits (record d { nodes = bare_nodes n })
fits-nodes d n fits none least most =
    let no_depot = none_in d.depot d.nodes none fits.depot_fits in
    record {
      capacity_fits = fits.capacity_fits;
      some_nodes = λ some. rw (length-bare n) least;
      few_nodes = rw (length-bare n) most;
      numbered = AreNumbered-bare n;
      nodes_fit = NodesFit-bare n;
      depot_fits = rw no_depot tt;
      depot_empty = rw no_depot tt;
    }

empty_by : (depot : Option ℕ) (old new : List Node) → ((k : ℕ) → (node_at new k).demand ≡ (node_at old k).demand) → IfSome depot (λ k. IsEmpty (node_at old k).demand) → IfSome depot (λ k. IsEmpty (node_at new k).demand)
empty_by None old new same h = tt
empty_by (Some depot) old new same h = rw (same depot) h

pub fits-point : (d : CvrpDraft) (number : ℕ) (p : Point) → CvrpFits d → IsNode d.nodes number → PointFits p → CvrpFits (record d { nodes = with_point d.nodes number p })
fits-point d number p fits node placed =
    let i = number - 1 in
    let old = node_at d.nodes number in
    let new : Node = record old { point = Some p } in
    let size = length-set d.nodes i new in
    record {
      capacity_fits = fits.capacity_fits;
      some_nodes = rw size fits.some_nodes;
      few_nodes = rw size fits.few_nodes;
      numbered = AreNumbered-set 1 i d.nodes new (bare_node 0) fits.numbered refl;
      nodes_fit = All-set NodeFits d.nodes i new (record { placed = placed; demanded = (node_fits d.nodes number fits.nodes_fit node).demanded }) fits.nodes_fit;
      depot_fits = depot_kept d.depot d.nodes (with_point d.nodes number p) size fits.depot_fits;
      depot_empty = empty_by d.depot d.nodes (with_point d.nodes number p) (λ k. demand-set i (k - 1) d.nodes new (bare_node 0) refl) fits.depot_empty;
    }

no_load : (depot : Option ℕ) (nodes : List Node) (number : ℕ) (z : ℤ) → (is_depot depot number && not (int_eq z (pos 0))) ≡ false → IsNode nodes number → IfSome depot (IsNode nodes) → IfSome depot (λ k. IsEmpty (node_at nodes k).demand) → IfSome depot (λ k. IsEmpty (node_at (with_demand nodes number z) k).demand)
no_load None nodes number z test node fits h = tt
no_load (Some depot) nodes number z test node fits h =
    empty-set (number - 1) (depot - 1) nodes (record (node_at nodes number) { demand = Some z }) (bare_node 0) (λ e. zero_of e) h
  where
    not_false : (b : Bool) → not b ≡ false → b ≡ true
    not_false true e = refl
    not_false false e = cc

    both : (a b : Bool) → (a && b) ≡ false → a ≡ true → b ≡ false
    both true b e h = e
    both false b e h = cc

    zero_of : number - 1 ≡ depot - 1 → z ≡ pos 0
    zero_of e =
        let depot_node : IsNode nodes depot = fits in
        let first = node.first in
        let depot_first = depot_node.first in
        let same : depot ≡ number = omega arith in
        let is : (depot == number) ≡ true = grind (arith, nat_tests) in
        (Decides-int_eq z (pos 0)).0 (not_false _ (both _ _ test is))

pub fits-demand : (d : CvrpDraft) (number : ℕ) (z : ℤ) → CvrpFits d → IsNode d.nodes number → IsFromTo (pos 0) MAX_LOAD z → (is_depot d.depot number && not (int_eq z (pos 0))) ≡ false → CvrpFits (record d { nodes = with_demand d.nodes number z })
fits-demand d number z fits node within test =
    let i = number - 1 in
    let old = node_at d.nodes number in
    let new : Node = record old { demand = Some z } in
    let size = length-set d.nodes i new in
    record {
      capacity_fits = fits.capacity_fits;
      some_nodes = rw size fits.some_nodes;
      few_nodes = rw size fits.few_nodes;
      numbered = AreNumbered-set 1 i d.nodes new (bare_node 0) fits.numbered refl;
      nodes_fit = All-set NodeFits d.nodes i new (record { placed = (node_fits d.nodes number fits.nodes_fit node).placed; demanded = within }) fits.nodes_fit;
      depot_fits = depot_kept d.depot d.nodes (with_demand d.nodes number z) size fits.depot_fits;
      depot_empty = no_load d.depot d.nodes number z test node fits.depot_fits fits.depot_empty;
    }

empty_of : (demand : Option ℤ) → has_load demand ≡ false → IsEmpty demand
empty_of None h = tt
empty_of (Some z) h = (Decides-int_eq z (pos 0)).0 (not_false (int_eq z (pos 0)) h)
  where
    not_false : (b : Bool) → not b ≡ false → b ≡ true
    not_false true e = refl
    not_false false e = cc

pub fits-depot : (d : CvrpDraft) (number : ℕ) → CvrpFits d → IsNode d.nodes number → has_load (node_at d.nodes number).demand ≡ false → CvrpFits (record d { depot = Some number })
fits-depot d number fits node none =
    record {
      capacity_fits = fits.capacity_fits;
      some_nodes = fits.some_nodes;
      few_nodes = fits.few_nodes;
      numbered = fits.numbered;
      nodes_fit = fits.nodes_fit;
      depot_fits = node;
      depot_empty = empty_of (node_at d.nodes number).demand none;
    }

-- the stop of a node within the limits
placed_of : (point : Option Point) → IfSome point PointFits → PointFits (unwrap_or point (record { x = pos 0; y = pos 0 }))
placed_of None h = record { across = search rules; along = search rules }
placed_of (Some p) h = h

demand_of : (demand : Option ℤ) → IfSome demand (IsFromTo (pos 0) MAX_LOAD) → IsFromTo (pos 0) MAX_LOAD (unwrap_or demand (pos 0))
demand_of None h = (search rules, search rules)
demand_of (Some z) h = h

stop_fits : (n : Node) → NodeFits n → n.number ≤ 245 → StopFits (stop_of n)
stop_fits n fits small =
    let p = placed_of n.point fits.placed in
    record {
      numbered = omega arith;
      placed = record { across = p.across; along = p.along };
      demanded = demand_of n.demand fits.demanded;
      opens = search rules;
      order = search rules;
      closes = search rules;
      served = (search rules, search rules);
    }

stops_fit : (first depot : ℕ) (nodes : List Node) → AreNumbered first nodes → first + length nodes ≤ 246 → All NodeFits nodes → All StopFits (customers_of depot nodes)
stops_fit first depot [] h small fits = All-nil StopFits
stops_fit first depot (n ∷ nodes) h small fits =
    let rest = stops_fit (first + 1) depot nodes h.1 (omega arith) (All-tail NodeFits n nodes fits) in
    let head = stop_fits n (All-head NodeFits n nodes fits) (omega (arith, h.0)) in
    by_head (All StopFits) depot n nodes (λ e. rest) (λ e. All-cons StopFits (stop_of n) (customers_of depot nodes) head rest)

load_of : (demand : Option ℤ) → IsEmpty demand → unwrap_or demand (pos 0) ≡ pos 0
load_of None h = refl
load_of (Some z) h = h

pub fits-task : (d : CvrpDraft) (capacity : ℤ) (depot : ℕ) → CvrpFits d → d.capacity ≡ Some capacity → d.depot ≡ Some depot → TaskFits (record { style = style.Euclid; vehicles = length (customers_of depot d.nodes); capacity = capacity; depot = stop_of (node_at d.nodes depot); stops = customers_of depot d.nodes })
fits-task d capacity depot fits capacity_is depot_is =
    let node : IsNode d.nodes depot = rw depot_is at fits.depot_fits in
    let first = node.first in
    let last = node.last in
    let few = fits.few_nodes in
    let some : 2 ≤ length d.nodes = fits.some_nodes (omega arith) in
    let count = count-customers 1 depot d.nodes fits.numbered (omega arith) (omega arith) in
    let number = number-at 1 (depot - 1) d.nodes (bare_node 0) fits.numbered (omega arith) in
    let is : (node_at d.nodes depot).number ≡ depot = omega (arith, number) in
    let Differ_with : ℕ → Type 0 = λ x. AllDiffer (x ∷ numbers_of depot d.nodes) in
    let empty : IsEmpty (node_at d.nodes depot).demand = rw depot_is at fits.depot_empty in
    record {
      some_customers = omega (arith, count);
      few_customers = omega (arith, count);
      some_vehicles = omega (arith, count);
      few_vehicles = omega (arith, count);
      capacity_fits = rw capacity_is at fits.capacity_fits;
      depot_fits = stop_fits (node_at d.nodes depot) (node_fits d.nodes depot fits.nodes_fit node) (omega (arith, is));
      each_fits = stops_fit 1 depot d.nodes fits.numbered (omega arith) fits.nodes_fit;
      depot_empty = load_of (node_at d.nodes depot).demand empty;
      all_differ = subst Differ_with (sym is) (AllDiffer-cons depot (numbers_of depot d.nodes) (AllDiffer-customers 1 depot d.nodes fits.numbered) (IsAbsent-depot depot d.nodes));
    }
