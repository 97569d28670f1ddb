-- The parts of the model fit.
use Rattle.std.proofs.Common.{◌≡◌, ℕ, zero, suc, ◌+◌, ◌<◌, ◌≤◌, ◌^◌, List, [], ◌∷◌, length, map, get_or, refl, sym, ap, ◌∙◌, arith}
use Rattle.std.specs.Prelude.{All}
use Rattle.std.specs.Int.{abs_diff}
use Rattle.std.specs.List.{range_with_len}
use Rattle.std.proofs.lemmas.Int.{ints}
use Rattle.std.proofs.lemmas.List.{length-map}
use Rattle.std.proofs.lemmas.List.Elements.{All-nil, All-cons, All-map}
use Rattle.std.proofs.lemmas.List.Sums.{sum_by-le}
use Rattle.std.proofs.lemmas.List.FromFn.{length-map-range_with_len}
use Rattle.path_graph.specs.Parts.{GraphParts}
use Rattle.route_model.specs.declared.parts.Var.{Var}
use Rattle.route_model.specs.declared.parts.Row.{Row}
use Rattle.route_model.specs.Parts.{graph_in, maps_in}
use Rattle.route_model.specs.Fit.{VarFits, VarsFit, MapFits, GraphMapsFit, MapsFit, GraphFits, GraphsFit, ModelFits, cost_range_of, cost_range}
use Rattle.vrp_demo.specs.declared.stops.Stop.{Stop}
use Rattle.vrp_demo.specs.declared.arcs.Pair.{Pair}
use Rattle.vrp_demo.specs.Arcs.{all_pairs, stop_in, arc_over, variable_over}
use Rattle.vrp_demo.specs.Network.{graph_over}
use Rattle.vrp_demo.specs.Generated.{rows_over, maps_of, one_graph, model_over}
use Rattle.vrp_demo.specs.Sound.{StopFits, AreStops}
use Rattle.vrp_demo.proofs.PairLemmas.{few_pairs, all_of_range}
use Rattle.vrp_demo.proofs.GraphLemmas.{graph_fits}
use Rattle.vrp_demo.proofs.RowLemmas.{rows_fit}

-- two places of the grid are at most 198 steps apart
pub near : (a b : Stop) → StopFits a → StopFits b → abs_diff a.x b.x + abs_diff a.y b.y ≤ 198
near a b p q = omega (arith, p.x, p.y, q.x, q.y)

variable_fits : (size : ℕ) (stops : List Stop) (p : Pair) → AreStops size stops → VarFits (variable_over stops p)
variable_fits size stops p sound =
    let short = near (stop_in stops p.tail) (stop_in stops p.head) (sound.each p.tail) (sound.each p.head) in
    record {
      low = omega (arith, ints);
      sides = omega (arith, ints);
      high = omega (arith, ints);
      cost = (omega (arith, ints), omega (arith, ints, short));
    }

variables_fit : (size : ℕ) (stops : List Stop) → size ≤ 100 → AreStops size stops → VarsFit (map (variable_over stops) (all_pairs size))
variables_fit size stops small sound =
    record {
      few = omega (arith, length-map (all_pairs size) (variable_over stops), few_pairs size small);
      each = All-map VarFits (variable_over stops) (all_pairs size) (λ k d within. variable_fits size stops (get_or (all_pairs size) k d) sound);
    }

variable_cost : (size : ℕ) (stops : List Stop) (p : Pair) → AreStops size stops → cost_range_of (variable_over stops p) ≤ 198
variable_cost size stops p sound =
    let short = near (stop_in stops p.tail) (stop_in stops p.head) (sound.each p.tail) (sound.each p.head) in
    omega (arith, short)

pub costs_small : (size : ℕ) (stops : List Stop) → size ≤ 100 → AreStops size stops → cost_range (map (variable_over stops) (all_pairs size)) ≤ 2 ^ 40
costs_small size stops small sound =
    let vars = map (variable_over stops) (all_pairs size) in
    let each : All (λ (v : Var). cost_range_of v ≤ 198) vars =
    All-map (λ (v : Var). cost_range_of v ≤ 198) (variable_over stops) (all_pairs size) (λ k d within. variable_cost size stops (get_or (all_pairs size) k d) sound)
    in
    omega (arith, sum_by-le cost_range_of 198 vars each, length-map (all_pairs size) (variable_over stops), few_pairs size small)

-- each arc maps its own variable
map_fits : (count k : ℕ) → k < count → MapFits count (k ∷ [])
map_fits count k below =
    record {
      few = omega arith;
      each = All-cons (λ j. j < count) k [] below (All-nil (λ j. j < count));
      ascend = λ i d within. absurd (omega arith);
    }

maps_fit : (count : ℕ) (graph : GraphParts) → length graph.arcs ≡ count → MapsFit count (graph ∷ []) (maps_of (length graph.arcs) ∷ [])
maps_fit count graph long = record { graphs_mapped = refl; each = each }
  where
    of_graph : GraphMapsFit count graph (maps_of (length graph.arcs))
    of_graph =
        record {
          arcs = length-map-range_with_len (λ (k : ℕ). k ∷ []) 0 (length graph.arcs);
          each =
              All-map (MapFits count) (λ k. k ∷ []) (range_with_len 0 (length graph.arcs))
              (all_of_range (λ k. MapFits count (k ∷ [])) 0 (length graph.arcs) (λ k low below. map_fits count k (omega arith)));
        }

    each : (g : ℕ) → g < 1 → GraphMapsFit count (graph_in (graph ∷ []) g) (maps_in (maps_of (length graph.arcs) ∷ []) g)
    each zero within = of_graph
    each (suc g) within = absurd (omega arith)

graphs_fit : (size : ℕ) (graph : GraphParts) → GraphFits size graph → length graph.arcs ≤ 10100 → graph.ends.high ≤ 100 → GraphsFit size (graph ∷ [])
graphs_fit size graph fits few paths =
    record {
      few = omega arith;
      each = All-cons (GraphFits size) graph [] fits (All-nil (GraphFits size));
      few_arcs = omega arith;
      few_paths = omega arith;
    }

pub model_fits : (size : ℕ) (stops : List Stop) → size ≤ 100 → AreStops size stops → ModelFits (model_over size stops)
model_fits size stops small sound =
    let graph = graph_over size stops in
    let vars = length-map (all_pairs size) (variable_over stops) in
    let arcs = length-map (all_pairs size) (arc_over stops) in
    let few = few_pairs size small in
    let same : length graph.arcs ≡ length (map (variable_over stops) (all_pairs size)) = arcs ∙ sym vars in
    record {
      vars = variables_fit size stops small sound;
      rows = rows_fit size (length (map (variable_over stops) (all_pairs size))) graph.arcs small same (omega (arith, vars, few));
      few_sets = omega arith;
      graphs = graphs_fit size graph (graph_fits size stops small sound) (omega (arith, arcs, few)) small;
      maps = maps_fit (length (map (variable_over stops) (all_pairs size))) graph same;
    }

-- the model that is built
pub model_is : (size : ℕ) (stops : List Stop) (graph : GraphParts) (vars : List Var) (rows : List Row) → graph ≡ graph_over size stops → vars ≡ map (variable_over stops) (all_pairs size) → rows ≡ rows_over size graph.arcs → one_graph size graph vars rows ≡ model_over size stops
model_is size stops graph vars rows graph_is vars_are rows_are =
    (λ i. one_graph size graph (vars_are i) (rows_are i))
    ∙ ap (λ (g : GraphParts). one_graph size g (map (variable_over stops) (all_pairs size)) (rows_over size g.arcs)) graph_is
