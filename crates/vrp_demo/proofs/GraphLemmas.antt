-- The parts of the graph fit, and arcs without consumption form no cycle.
use Rattle.std.proofs.Common.{◌≡◌, ℕ, zero, suc, ◌+◌, ◌-◌, ◌<◌, ◌≤◌, ℤ, pos, Bool, true, false, List, [], ◌∷◌, length, map, get_or, refl, sym, ap, ◌∙◌, subst, arith, Option, Some, None, inl, inr}
use Rattle.std.specs.Prelude.{All, IfSome, if◌then◌else◌, nat_lt, ◌&&◌}
use Rattle.std.proofs.lemmas.Bool.{cases_lt}
use Rattle.std.specs.List.{range_with_len}
use Rattle.std.proofs.lemmas.Int.{ints}
use Rattle.std.proofs.lemmas.Bool.Decides.{nat_tests, Decides-int_eq}
use Rattle.std.proofs.lemmas.List.{length-map}
use Rattle.std.proofs.lemmas.List.Elements.{All-map, All-weaker}
use Rattle.std.proofs.lemmas.List.FromFn.{length-map-range_with_len, get_or-map-range_with_len}
use Rattle.path_graph.specs.declared.parts.Vertex.{Vertex}
use Rattle.path_graph.specs.declared.parts.GraphArc.{GraphArc}
use Rattle.path_graph.specs.Fit.{int_at, window_at, is_used_at, WindowFits, NeedFits, VertexFits, ArcFits, EndsFit, vertex_at, PartsFit}
use Rattle.path_graph.specs.Parts.{arc_at}
use Rattle.path_graph.specs.Free.{is_free, HasNoFreeCycle}
use Rattle.route_model.specs.Fit.{IsDeclared, GraphFits}
use Rattle.vrp_demo.specs.declared.stops.Stop.{Stop}
use Rattle.vrp_demo.specs.declared.arcs.Pair.{Pair}
use Rattle.vrp_demo.specs.Stops.{is_customer}
use Rattle.vrp_demo.specs.Arcs.{all_pairs, stop_in, arc_over, AreIn}
use Rattle.vrp_demo.specs.Network.{set_of, vertex_of, vertices, ends_of, graph_over}
use Rattle.vrp_demo.specs.Sound.{AreStops}
use Rattle.vrp_demo.proofs.PairLemmas.{PairFits, pairs_fit, few_pairs}
use Rattle.vrp_demo.proofs.StopLemmas.{past_customers}

pub six : (P : ℕ → Type 0) → P 0 → P 1 → P 2 → P 3 → P 4 → P 5 → (k : ℕ) → k < 6 → P k
six P a b c d e f zero h = a
six P a b c d e f (suc zero) h = b
six P a b c d e f (suc (suc zero)) h = c
six P a b c d e f (suc (suc (suc zero))) h = d
six P a b c d e f (suc (suc (suc (suc zero)))) h = e
six P a b c d e f (suc (suc (suc (suc (suc zero))))) h = f
six P a b c d e f (suc (suc (suc (suc (suc (suc k)))))) h = absurd (omega arith)

pub pairs_are_in : (size : ℕ) (stops : List Stop) → length stops ≡ size + 2 → All (AreIn stops) (all_pairs size)
pairs_are_in size stops count =
    All-weaker (PairFits size) (AreIn stops) (λ p fits. (omega (arith, fits.tail, count), omega (arith, fits.head, count))) (all_pairs size) (pairs_fit size)

-- vertices
pub vertex_count : (size : ℕ) → length (vertices size) ≡ size + 2
vertex_count size = length-map-range_with_len (vertex_of size) 0 (size + 2)

set_small : (size v : ℕ) (b : Bool) → is_customer size v ≡ b → IfSome (if b then Some (v - 1) else None) (λ s. s < size)
set_small size v true e = grind (arith, nat_tests)
set_small size v false e = tt

pub set_declared : (size v : ℕ) → IfSome (set_of size v) (λ s. s < size)
set_declared size v = set_small size v (is_customer size v) refl

below_512 : (size : ℕ) (set : Option ℕ) → size ≤ 100 → IfSome set (λ s. s < size) → IfSome set (λ s. s < 512)
below_512 size None small h = tt
below_512 size (Some s) small h = omega (arith, h)

vertex_fits : (size v : ℕ) → size ≤ 100 → VertexFits (ends_of size) (vertex_of size v)
vertex_fits size v small =
    let windows = (vertex_of size v).windows in
    record {
      set = below_512 size (set_of size v) small (set_declared size v);
      places = refl;
      windows = six (λ k. WindowFits (is_used_at (ends_of size) k) (window_at windows k)) (omega (arith, ints), omega (arith, ints), omega (arith, ints)) (refl, refl) (refl, refl) (refl, refl) (refl, refl) (refl, refl);
    }

vertex_is : (size v : ℕ) → v < size + 2 → vertex_at (vertices size) v ≡ vertex_of size v
vertex_is size v within = get_or-map-range_with_len (vertex_of size) 0 (size + 2) v v (record { set = None; windows = [] }) within (omega arith)

sink_free : (size : ℕ) → (vertex_at (vertices size) (size + 1)).set ≡ None
sink_free size =
    ap (λ (v : Vertex). v.set) (vertex_is size (size + 1) (omega arith))
    ∙ ap (λ (b : Bool). let s : Option ℕ = if b then Some (size + 1 - 1) else None in s) (past_customers size)

source_free : (size : ℕ) → (vertex_at (vertices size) 0).set ≡ None
source_free size = ap (λ (v : Vertex). v.set) (vertex_is size 0 (omega arith))

-- arcs
arc_fits : (size : ℕ) (stops : List Stop) (p : Pair) → AreStops size stops → PairFits size p → ArcFits (ends_of size) (size + 2) (arc_over stops p)
arc_fits size stops p sound fits =
    let tail = fits.tail in
    let head = fits.head in
    let some = fits.some in
    let demand = (sound.each p.head).demand in
    let needs = (arc_over stops p).needs in
    record {
      tail = omega arith;
      head = omega arith;
      not_in = λ e. absurd (omega (arith, e));
      not_out = λ e. absurd (omega (arith, e));
      places = refl;
      needs = six (λ k. NeedFits (is_used_at (ends_of size) k) (nat_lt k 2) (int_at needs k)) (omega (arith, ints), omega (arith, ints)) refl refl refl refl refl;
    }

pub ends_fit : (size : ℕ) → size ≤ 100 → EndsFit (ends_of size) (size + 2)
ends_fit size small =
    record {
      source = omega arith;
      sink = omega arith;
      different = λ e. absurd (omega (arith, e));
      paths = omega arith;
      most_paths = omega arith;
      some_main = omega arith;
      mains = omega arith;
      seconds = omega arith;
    }

pub graph_parts_fit : (size : ℕ) (stops : List Stop) → size ≤ 100 → AreStops size stops → PartsFit (ends_of size) (vertices size) (map (arc_over stops) (all_pairs size))
graph_parts_fit size stops small sound =
    let count = vertex_count size in
    record {
      some_vertices = omega (arith, count);
      few_vertices = omega (arith, count);
      few_arcs = omega (arith, length-map (all_pairs size) (arc_over stops), few_pairs size small);
      ends_fit = subst (EndsFit (ends_of size)) (sym count) (ends_fit size small);
      source_free = source_free size;
      sink_free = sink_free size;
      each_vertex = All-map (VertexFits (ends_of size)) (vertex_of size) (range_with_len 0 (size + 2)) (λ k d within. vertex_fits size (get_or (range_with_len 0 (size + 2)) k d) small);
      each_arc = subst (λ n. All (ArcFits (ends_of size) n) (map (arc_over stops) (all_pairs size))) (sym count) (arcs_fit (all_pairs size) (pairs_fit size));
    }
  where
    arcs_fit : (ps : List Pair) → All (PairFits size) ps → All (ArcFits (ends_of size) (size + 2)) (map (arc_over stops) ps)
    arcs_fit ps fit =
        All-map (ArcFits (ends_of size) (size + 2)) (arc_over stops) ps
        (All-weaker (PairFits size) (λ p. ArcFits (ends_of size) (size + 2) (arc_over stops p)) (λ p fits. arc_fits size stops p sound fits) ps fit)

-- an arc that consumes nothing goes to the sink, where no arc begins
record LeadsOn (size : ℕ) (arc : GraphArc) : Type 0 where
  pub tail : arc.tail ≤ size
  pub free : is_free arc ≡ true → size < arc.head

no_cycle : (size : ℕ) (arcs : List GraphArc) → All (LeadsOn size) arcs → HasNoFreeCycle arcs
no_cycle size arcs each [] cycle = absurd (omega (arith, cycle.some))
no_cycle size arcs each (a ∷ []) cycle =
    let leads = cycle.leads in
    let there : LeadsOn size (arc_at arcs a) = each a _ leads.0 in
    absurd (omega (arith, there.tail, there.free leads.1, leads.2, leads.3))
no_cycle size arcs each (a ∷ b ∷ rest) cycle =
    let leads = cycle.leads in
    let there : LeadsOn size (arc_at arcs a) = each a _ leads.0 in
    let next : LeadsOn size (arc_at arcs b) = each b _ leads.3.0 in
    absurd (omega (arith, there.free leads.1, next.tail, leads.3.2))

left_true : (a b : Bool) → (a && b) ≡ true → a ≡ true
left_true true b h = refl
left_true false b h = h

no_need : (n : ℕ) (rest : List ℤ) → 1 ≤ n → is_free (record { tail = 0; head = 0; needs = pos n ∷ rest }) ≡ true → ⊥
no_need n rest some free =
    let zero : pos n ≡ pos 0 = (Decides-int_eq (pos n) (pos 0)).0 (left_true _ _ free) in
    let none : n ≡ 0 = cc in
    absurd (omega arith)

leads_on : (size : ℕ) (stops : List Stop) (p : Pair) → AreStops size stops → PairFits size p → LeadsOn size (arc_over stops p)
leads_on size stops p sound fits =
    record {
      tail = fits.tail;
      free = λ free. elim (cases_lt size p.head) [
        | inl past ↦ past
        | inr within ↦ absurd (no_need (stop_in stops p.head).demand (pos 0 ∷ pos 0 ∷ pos 0 ∷ pos 0 ∷ pos 0 ∷ []) (sound.demands p.head fits.some within) free)
      ];
    }

pub graph_acyclic : (size : ℕ) (stops : List Stop) → AreStops size stops → HasNoFreeCycle (map (arc_over stops) (all_pairs size))
graph_acyclic size stops sound =
    no_cycle size (map (arc_over stops) (all_pairs size))
    (All-map (LeadsOn size) (arc_over stops) (all_pairs size)
    (All-weaker (PairFits size) (λ p. LeadsOn size (arc_over stops p)) (λ p fits. leads_on size stops p sound fits) (all_pairs size) (pairs_fit size)))

pub graph_fits : (size : ℕ) (stops : List Stop) → size ≤ 100 → AreStops size stops → GraphFits size (graph_over size stops)
graph_fits size stops small sound =
    record {
      graph = record { fits = graph_parts_fit size stops small sound; acyclic = graph_acyclic size stops sound };
      declared = All-map (IsDeclared size) (vertex_of size) (range_with_len 0 (size + 2)) (λ k d within. set_declared size (get_or (range_with_len 0 (size + 2)) k d));
    }
