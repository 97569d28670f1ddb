-- The model of a task keeps the limits of models.
use Rattle.std.proofs.Common.{◌≡◌, ◌≢◌, ℕ, zero, suc, ◌+◌, ◌-◌, ◌*◌, ◌<◌, ◌≤◌, pos, ◌≤ℤ◌, unsigned_abs, List, [], ◌∷◌, length, map, get_or, Bool, true, false, All, refl, sym, ◌∙◌, ap, arith, inl, inr, nat_lt, sum_by, mul-le-mul, ◌==◌}
use Rattle.std.specs.Prelude.{if◌then◌else◌}
use Rattle.std.specs.List.{range_with_len}
use Rattle.std.proofs.lemmas.Int.{ints}
use Rattle.std.proofs.lemmas.Bool.{cases_lt}
use Rattle.std.proofs.lemmas.Bool.Decides.{nat_tests}
use Rattle.std.proofs.lemmas.List.{length-map}
use Rattle.std.proofs.lemmas.List.Elements.{All-map, All-cons}
use Rattle.std.proofs.lemmas.List.Sums.{sum_by-cons}
use Rattle.std.proofs.lemmas.List.FromFn.{length-map-range_with_len, get_or-map-range_with_len}
use Rattle.path_graph.specs.declared.parts.GraphArc.{GraphArc}
use Rattle.path_graph.specs.Walk.{GraphParts}
use Rattle.route_model.specs.declared.parts.Var.{Var}
use Rattle.route_model.specs.declared.parts.RowTerm.{RowTerm}
use Rattle.route_model.specs.declared.parts.Row.{Row}
use Rattle.route_model.specs.Parts.{graph_in, maps_in}
use Rattle.route_model.specs.Fit.{ModelFits, VarsFit, VarFits, RowsFit, RowFits, TermFits, row_coef, MapFits, GraphMapsFit, GraphsFit, GraphFits, IsDeclared, cost_range_of, cost_range}
use Rattle.route_tasks.specs.declared.task.RouteTask.{RouteTask}
use Rattle.route_tasks.specs.Fit.{TaskFits}
use Rattle.route_tasks.specs.Places.{customers, pairs_before, pair_number, variable, or_depot, other}
use Rattle.route_tasks.specs.ModelOf.{vertex_of, arcs_of, graph_of, mapped_of, var_of, vars_of, term_of, terms_of, row_of, rows_of, model_of}
use Rattle.route_tasks.proofs.ListLemmas.{all_none, all_joined, all_range, sum_small}
use Rattle.route_tasks.proofs.PairLemmas.{pairs_size, few_pairs, variable_below, before_rises}
use Rattle.route_tasks.proofs.RangeLemmas.{before_more}
use Rattle.route_tasks.proofs.ArcLemmas.{IsArc, each_arc, few_arcs}
use Rattle.route_tasks.proofs.FitLemmas.{distance_small, set_is, parts_fit, no_free_cycle, widest}

-- variables
var_fits : (task : RouteTask) (low high : ℕ) → TaskFits task → VarFits (var_of task low high)
var_fits task low high fits =
    let far = distance_small task low high fits in
    record { low = omega (arith, ints); sides = (two_or_one (low == 0)).0; high = (two_or_one (low == 0)).1; cost = (omega (arith, ints), omega (arith, ints, far)) }
  where
    two_or_one : (b : Bool) → (pos 0 ≤ℤ (if b then pos 2 else pos 1)) × ((if b then pos 2 else pos 1) ≤ℤ pos 1000000)
    two_or_one true = (omega (arith, ints), omega (arith, ints))
    two_or_one false = (omega (arith, ints), omega (arith, ints))

each_var : (task : RouteTask) (P : Var → Type 0) → ((low high : ℕ) → P (var_of task low high)) → All P (vars_of task)
each_var task P h =
    all_joined P (λ low. map (var_of task low) (range_with_len (low + 1) (customers task - low))) (range_with_len 0 (customers task))
    (all_range (λ low. All P (map (var_of task low) (range_with_len (low + 1) (customers task - low)))) 0 (customers task) (λ low a b.
    All-map P (var_of task low) (range_with_len (low + 1) (customers task - low))
    (all_range (λ high. P (var_of task low high)) (low + 1) (customers task - low) (λ high c d. h low high))))

vars_fit : (task : RouteTask) → TaskFits task → VarsFit (vars_of task)
vars_fit task fits = record {
  few = omega (arith, pairs_size (customers task) (var_of task), few_pairs (customers task) fits.few_customers);
  each = each_var task VarFits (λ low high. var_fits task low high fits);
}

-- rows
pub other_place : (n i k : ℕ) → i ≤ n → k < n → (other i k ≤ n) × (i ≢ other i k)
other_place n i k p l = elim (cases_lt k i) [
  | inl less ↦ let e : other i k ≡ k = grind (arith, nat_tests) in (omega (arith, e, l), λ same. omega (arith, same, e, less))
  | inr least ↦ let e : other i k ≡ k + 1 = grind (arith, nat_tests) in (omega (arith, e, l), λ same. omega (arith, same, e, least))
]

abbrev pub term_at_other : ℕ → ℕ → ℕ → RowTerm
term_at_other n i k = term_of n i (other i k)

before_last : (n u v : ℕ) → u < v → v ≤ n → pairs_before n u + (n - u) ≤ pairs_before n v
before_last n u v l h = let more = before_more n u in let rises = before_rises n (u + 1) v (omega (arith, l)) in omega (arith, more, rises)

-- the variables of a customer's pairs ascend
variable_rises : (n i k : ℕ) → i ≤ n → k + 1 < n → variable n i (other i k) < variable n i (other i (k + 1))
variable_rises n i k p l = elim (cases_lt (k + 1) i) [
  | inl less ↦
      let first : variable n i (other i k) ≡ pair_number n k i = below k (omega (arith, less)) in
      let second : variable n i (other i (k + 1)) ≡ pair_number n (k + 1) i = below (k + 1) less in
      let rises = before_last n k (k + 1) (omega arith) (omega (arith, l)) in
      omega (arith, first, second, rises, less, p)
  | inr least ↦
      let second : variable n i (other i (k + 1)) ≡ pair_number n i (k + 2) = above (k + 1) least ∙ ap (λ v. pair_number n i v) (omega arith) in
      elim (cases_lt k i) [
        | inl less ↦
            let first : variable n i (other i k) ≡ pair_number n k i = below k less in
            let rises = before_last n k i less p in
            omega (arith, first, second, rises, less, least, p, l)
        | inr more ↦
            let first : variable n i (other i k) ≡ pair_number n i (k + 1) = above k more in
            omega (arith, first, second, more, l)
      ]
]
  where
    below : (j : ℕ) → j < i → variable n i (other i j) ≡ pair_number n j i
    below j less =
        let e : other i j ≡ j = grind (arith, nat_tests) in
        let no_less : nat_lt i j ≡ false = grind (arith, nat_tests) in
        ap (variable n i) e ∙ ap (λ b. if b then pair_number n i j else pair_number n j i) no_less

    above : (j : ℕ) → i ≤ j → variable n i (other i j) ≡ pair_number n i (j + 1)
    above j more =
        let e : other i j ≡ j + 1 = grind (arith, nat_tests) in
        let is_less : nat_lt i (j + 1) ≡ true = grind (arith, nat_tests) in
        ap (variable n i) e ∙ ap (λ b. if b then pair_number n i (j + 1) else pair_number n (j + 1) i) is_less

pub terms_size : (n i : ℕ) → length (terms_of n i) ≡ n
terms_size n i = length-map-range_with_len (term_at_other n i) 0 n

pub term_is : (n i k : ℕ) (d : RowTerm) → k < n → get_or (terms_of n i) k d ≡ term_at_other n i k
term_is n i k d l = get_or-map-range_with_len (term_at_other n i) 0 n k k d l (omega arith)

row_fits : (n i count : ℕ) → i ≤ n → pairs_before n n ≡ count → RowFits count (row_of n i)
row_fits n i count p size = record {
  sides = record { low_side = (omega (arith, ints), omega (arith, ints)); high_side = (omega (arith, ints), omega (arith, ints)); order = omega (arith, ints) };
  each = All-map (TermFits count) (term_at_other n i) (range_with_len 0 n) (all_range (λ k. TermFits count (term_at_other n i k)) 0 n (λ k low high.
      let there = other_place n i k p (omega (arith, high)) in
      record { var = omega (arith, size, variable_below n i (other i k) p there.0 there.1); coef = (omega (arith, ints), omega (arith, ints)) }));
  ascend = λ k d h.
      let within : k + 1 < n = omega (arith, h, terms_size n i) in
      let first = ap (λ (t : RowTerm). t.var) (term_is n i k d (omega (arith, within))) in
      let second = ap (λ (t : RowTerm). t.var) (term_is n i (k + 1) d within) in
      let rises = variable_rises n i k p within in
      omega (arith, first, second, rises);
}

-- no variable has a coefficient above n in a row, or above n × n in all
one_each : (n i j : ℕ) → row_coef j (terms_of n i) ≤ n
one_each n i j =
    let most = sum_small (λ (t : RowTerm). if t.var == j then unsigned_abs t.coef else 0) 1 (terms_of n i)
    (All-map (λ (t : RowTerm). (if t.var == j then unsigned_abs t.coef else 0) ≤ 1) (term_at_other n i) (range_with_len 0 n)
    (all_range (λ k. (if (term_at_other n i k).var == j then unsigned_abs (pos 1) else 0) ≤ 1) 0 n (λ k low high. one ((term_at_other n i k).var == j)))) in
    omega (arith, most, terms_size n i)
  where
    one : (b : Bool) → (if b then 1 else 0) ≤ 1
    one true = omega arith
    one false = omega arith

pub rows_size : (n : ℕ) → length (rows_of n) ≡ n
rows_size n = length-map-range_with_len (row_of n) 1 n

square_small : (n : ℕ) → n ≤ 244 → n * n ≤ 244 * 244
square_small n few = mul-le-mul few few

rows_sum : (n : ℕ) (f : Row → ℕ) → n ≤ 244 → ((i : ℕ) → f (row_of n i) ≤ n) → sum_by f (rows_of n) ≤ 244 * 244
rows_sum n f few each =
    let most = sum_small f n (rows_of n) (All-map (λ row. f row ≤ n) (row_of n) (range_with_len 1 n) (all_range (λ i. f (row_of n i) ≤ n) 1 n (λ i low high. each i))) in
    let product = ap (λ (k : ℕ). k * n) (rows_size n) in
    omega (arith, most, product, square_small n few)

rows_fit : (n count : ℕ) → n ≤ 244 → pairs_before n n ≡ count → RowsFit count (rows_of n)
rows_fit n count few size = record {
  few = omega (arith, rows_size n, few);
  each = All-map (RowFits count) (row_of n) (range_with_len 1 n) (all_range (λ i. RowFits count (row_of n i)) 1 n (λ i low high. row_fits n i count (omega (arith, high)) size));
  few_terms =
      let most = rows_sum n (λ (row : Row). length row.terms) few (λ i. omega (arith, terms_size n i)) in
      omega (arith, most);
  coefs = λ j h.
      let most = rows_sum n (λ (row : Row). row_coef j row.terms) few (λ i. one_each n i j) in
      omega (arith, most);
}

-- the graph and its maps
graph_fits : (task : RouteTask) → TaskFits task → GraphFits (customers task) (graph_of task)
graph_fits task fits = record {
  graph = record { fits = parts_fit task fits; acyclic = no_free_cycle task };
  declared = All-map (IsDeclared (customers task)) (vertex_of task) (range_with_len 0 (customers task + 2))
      (all_range (λ v. IsDeclared (customers task) (vertex_of task v)) 0 (customers task + 2) (λ v low high.
      set_is (customers task) v (λ s. s < customers task) (λ some most. omega (arith, some, most))));
}

graphs_fit : (task : RouteTask) → TaskFits task → GraphsFit (customers task) (graph_of task ∷ [])
graphs_fit task fits = record {
  few = omega arith;
  each = All-cons (GraphFits (customers task)) (graph_of task) [] (graph_fits task fits) (all_none (GraphFits (customers task)));
  few_arcs =
      let few = few_arcs task fits.some_customers in
      let most = widest (customers task) fits.few_customers in
      let sums = sum_by-cons (λ (g : GraphParts). length g.arcs) (graph_of task) [] in
      omega (arith, few, most, sums);
  few_paths =
      let sums = sum_by-cons (λ (g : GraphParts). g.ends.high) (graph_of task) [] in
      omega (arith, sums, fits.few_customers);
}

pub head_place : (n tail head : ℕ) → tail ≤ n → 1 ≤ head → head ≢ tail → (tail ≡ 0 → head ≤ n) → (or_depot n head ≤ n) × (tail ≢ or_depot n head)
head_place n tail head from some differ both = elim (cases_lt n head) [
  | inl past ↦ let e : or_depot n head ≡ 0 = grind (arith, nat_tests) in (omega (arith, e), λ same. let l = both (omega (arith, same, e)) in omega (arith, l, past))
  | inr within ↦ let e : or_depot n head ≡ head = grind (arith, nat_tests) in (omega (arith, e, within), λ same. differ (omega (arith, same, e)))
]

map_fits : (task : RouteTask) (arc : GraphArc) (count : ℕ) → IsArc task arc → pairs_before (customers task) (customers task) ≡ count → MapFits count (mapped_of (customers task) arc)
map_fits task arc count is size =
    let there = head_place (customers task) arc.tail arc.head is.from is.some is.differ is.not_both in
    let below = variable_below (customers task) arc.tail (or_depot (customers task) arc.head) is.from there.0 there.1 in
    record {
      few = omega arith;
      each = All-cons (λ j. j < count) (variable (customers task) arc.tail (or_depot (customers task) arc.head)) [] (omega (arith, below, size)) (all_none (λ j. j < count));
      ascend = λ k d h. absurd (omega (arith, h));
    }

maps_fit : (task : RouteTask) (count : ℕ) → pairs_before (customers task) (customers task) ≡ count → GraphMapsFit count (graph_of task) (map (mapped_of (customers task)) (arcs_of task))
maps_fit task count size = record {
  arcs = length-map (arcs_of task) (mapped_of (customers task));
  each = All-map (MapFits count) (mapped_of (customers task)) (arcs_of task) (λ a d l. map_fits task (get_or (arcs_of task) a d) count (each_arc task a d l) size);
}

pub model_fits : (task : RouteTask) → TaskFits task → ModelFits (model_of task)
model_fits task fits =
    let size = sym (pairs_size (customers task) (var_of task)) in
    record {
      vars = vars_fit task fits;
      rows = rows_fit (customers task) (length (vars_of task)) fits.few_customers size;
      few_sets = omega (arith, fits.few_customers);
      graphs = graphs_fit task fits;
      maps = record { graphs_mapped = refl; each = only };
    }
  where
    only : (g : ℕ) → g < 1 → GraphMapsFit (length (vars_of task)) (graph_in (graph_of task ∷ []) g) (maps_in (map (mapped_of (customers task)) (arcs_of task) ∷ []) g)
    only zero h = maps_fit task (length (vars_of task)) (sym (pairs_size (customers task) (var_of task)))
    only (suc g) h = absurd (omega (arith, h))

-- the costs are in range
pub costs_fit : (task : RouteTask) → TaskFits task → cost_range (vars_of task) ≤ 1099511627776
costs_fit task fits =
    let most = sum_small cost_range_of (2828427 * 2) (vars_of task) (each_var task (λ v. cost_range_of v ≤ 2828427 * 2) (λ low high. mul-le-mul (distance_small task low high fits) (two_or_one (low == 0)))) in
    let size = pairs_size (customers task) (var_of task) in
    let few = few_pairs (customers task) fits.few_customers in
    omega (arith, most, size, few)
  where
    two_or_one : (b : Bool) → unsigned_abs (if b then pos 2 else pos 1) ≤ 2
    two_or_one true = omega arith
    two_or_one false = omega arith

-- a model of parts that are each as they are to be
pub parts_are : (task : RouteTask) (vars : List Var) (rows : List Row) (sets : ℕ) (graphs : List GraphParts) (maps : List (List (List ℕ))) → vars ≡ vars_of task → rows ≡ rows_of (customers task) → sets ≡ customers task → graphs ≡ graph_of task ∷ [] → maps ≡ map (mapped_of (customers task)) (arcs_of task) ∷ []
    → (record { vars = vars; rows = rows; sets = sets; graphs = graphs; maps = maps }) ≡ model_of task
parts_are task vars rows sets graphs maps v r s g m = λ i. record { vars = v i; rows = r i; sets = s i; graphs = g i; maps = m i }
