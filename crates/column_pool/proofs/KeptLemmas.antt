-- What is found of a walk is what is kept of it.
use Rattle.std.proofs.Common.{◌≡◌, ℕ, ◌+◌, ◌^◌, ◌<◌, ◌≤◌, pos, ◌*ℤ◌, Option, List, [], ◌∷◌, ◌++◌, All, length, map, get_or, sym, ◌∙◌, ap, subst, arith, append_assoc}
use Rattle.std.specs.Prelude.{IfSome, slice_index}
use Rattle.std.specs.List.{range_with_len}
use Rattle.std.proofs.lemmas.List.{length-map}
use Rattle.std.proofs.lemmas.List.Elements.{All-from_get_or, All-map}
use Rattle.std.proofs.lemmas.List.Sums.{count_by-le-length}
use Rattle.std.proofs.lemmas.Simd.{map-map}
use Rattle.fixed_master.specs.declared.parts.Entry.{Entry}
use Rattle.path_graph.specs.First.{EachBelow}
use Rattle.path_graph.specs.Visits.{visit_count, visit_over, visits_along}
use Rattle.path_graph.specs.Walk.{GraphParts, IsFeasibleWalk, arc_at}
use Rattle.path_graph.specs.Within.{IsWithin}
use Rattle.path_graph.proofs.SumLemmas.{sum_below-same}
use Rattle.route_model.specs.declared.parts.Row.{Row}
use Rattle.route_model.specs.Fit.{ModelFits}
use Rattle.route_model.specs.Known.{AreMapped}
use Rattle.route_model.specs.Parts.{ModelParts, graph_in, row_at, var_at}
use Rattle.route_model.specs.Quantities.{is_mapped, uses_in}
use Rattle.route_model.proofs.KnownLemmas.{path_mapped}
use Rattle.multipliers.specs.Quantities.{cost_along, cut_at}
use Rattle.rank1_cuts.specs.declared.cut.Cut.{Cut}
use Rattle.rank1_cuts.specs.Visits.{coef_of}
use Rattle.multipliers.proofs.CutLemmas.{no_set_past}
use Rattle.column_pool.specs.Amounts.{cost_with, entries_with, sum_with}
use Rattle.column_pool.specs.Columns.{column_of, entries_from, first_entries}
use Rattle.column_pool.specs.declared.kept.KeptWalk.{KeptWalk}
use Rattle.column_pool.specs.Walks.{IsKept}
use Rattle.column_pool.proofs.ColumnLemmas.{column_entries_told, cut_amounts, listed, sum_with-same}
use Rattle.column_pool.proofs.CountLemmas.{list_told}
use Rattle.column_pool.proofs.NearLemmas.{cost_near, row_along_near}

pub walk_mapped : (m : ModelParts) (g : ℕ) (arcs : List ℕ) → ModelFits m → g < length m.graphs → IsFeasibleWalk (graph_in m.graphs g) arcs → AreMapped m.maps g arcs
walk_mapped m g arcs fits inside walk =
    path_mapped m (record { graph = g; count = 1; arcs = arcs }) fits (record { graph = inside; count = omega arith; walk = walk })

-- the uses of each variable are told
abbrev pub AreTold : ModelParts → ℕ → List ℕ → List ℕ → Type 0
AreTold m g arcs uses = EachBelow (length m.vars) (λ j. slice_index uses j ≡ uses_in m.maps j g arcs)

pub uses_few : (m : ModelParts) (g : ℕ) (arcs uses : List ℕ) → length uses ≡ length m.vars → AreTold m g arcs uses → length arcs ≤ 16777216 → EachBelow (length uses) (λ j. slice_index uses j ≤ 16777216)
uses_few m g arcs uses same told few j below =
    let inside : j < length m.vars = omega (arith, below, same) in
    omega (arith, told j inside, count_by-le-length (is_mapped m.maps j g) arcs, few)

pub cost_told : (m : ModelParts) (g : ℕ) (arcs uses : List ℕ) → AreTold m g arcs uses → cost_with (slice_index uses) m.vars ≡ cost_along m g arcs
cost_told m g arcs uses told =
    sum_below-same (length m.vars) (λ j. (var_at m.vars j).cost *ℤ pos (slice_index uses j)) (λ j. (var_at m.vars j).cost *ℤ pos (uses_in m.maps j g arcs))
    (λ j below. ap (λ (n : ℕ). (var_at m.vars j).cost *ℤ pos n) (told j below))

pub cost_with_near : (m : ModelParts) (g : ℕ) (arcs uses : List ℕ) → ModelFits m → g < length m.graphs → IsFeasibleWalk (graph_in m.graphs g) arcs → length arcs ≤ 16777216 → AreTold m g arcs uses
    → IsWithin (2 ^ 62) (cost_with (slice_index uses) m.vars)
cost_with_near m g arcs uses fits inside walk few told =
    subst (IsWithin (2 ^ 62)) (sym (cost_told m g arcs uses told)) (cost_near m g (graph_in m.graphs g).ends.source (graph_in m.graphs g).ends.sink arcs fits inside walk.walk few)

pub rows_with_near : (m : ModelParts) (g : ℕ) (arcs uses : List ℕ) → ModelFits m → g < length m.graphs → IsFeasibleWalk (graph_in m.graphs g) arcs → length arcs ≤ 16777216 → AreTold m g arcs uses
    → All (λ row. IsWithin (2 ^ 62) (sum_with (slice_index uses) row.terms)) m.rows
rows_with_near m g arcs uses fits inside walk few told =
    All-from_get_or (λ (row : Row). IsWithin (2 ^ 62) (sum_with (slice_index uses) row.terms)) m.rows (row_at [] 0)
    (λ i below.
    subst (IsWithin (2 ^ 62))
    (sym (sum_with-same (slice_index uses) (λ j. uses_in m.maps j g arcs) (length m.vars) (row_at m.rows i).terms told (λ k there. ((fits.rows.each i (row_at [] 0) below).each k _ there).var)))
    (row_along_near m i g (graph_in m.graphs g).ends.source (graph_in m.graphs g).ends.sink arcs fits inside below walk.walk few))

pub visits_declared : (m : ModelParts) (g : ℕ) (arcs : List ℕ) → ModelFits m → g < length m.graphs → All (λ visit. IfSome visit (λ s. s < m.sets)) (visits_along (graph_in m.graphs g) arcs)
visits_declared m g arcs fits inside =
    let graph : GraphParts = graph_in m.graphs g in
    All-map (λ (visit : Option ℕ). IfSome visit (λ s. s < m.sets)) (visit_over graph) arcs
    (λ k d below. no_set_past graph.vertices m.sets (arc_at graph.arcs (get_or arcs k d)).head (fits.graphs.each g _ inside).declared)

pub visits_few : (g : GraphParts) (arcs : List ℕ) → length (visits_along g arcs) ≡ length arcs
visits_few g arcs = length-map arcs (visit_over g)

-- three pushes, one after the other
pub entries_joined : (m : ModelParts) (uses counts : List ℕ) (visits : List (Option ℕ)) (e0 e1 e2 e3 : List Entry) (vars vars' rows' : ℕ) (rows : List Row) → e0 ≡ [] → e1 ≡ e0 ++ entries_from 0 (map (λ n. pos n) uses)
    → e2 ≡ e1 ++ entries_from vars (map (λ row. sum_with (slice_index uses) row.terms) rows) → e3 ≡ e2 ++ entries_from (vars' + rows') (map (λ n. pos n) counts)
    → vars ≡ length m.vars → rows ≡ m.rows → vars' ≡ length m.vars → rows' ≡ length m.rows → length counts ≡ m.sets → EachBelow m.sets (λ s. slice_index counts s ≡ visit_count s visits) → e3 ≡ entries_with m uses visits
entries_joined m uses counts visits e0 e1 e2 e3 vars vars' rows' rows none first second third is_vars is_rows is_vars' is_rows' same told =
    let one : e1 ≡ entries_from 0 (map (λ n. pos n) uses) = first ∙ ap (λ (es : List Entry). es ++ entries_from 0 (map (λ n. pos n) uses)) none in
    let two : e2 ≡ entries_from 0 (map (λ n. pos n) uses) ++ entries_from (length m.vars) (map (λ row. sum_with (slice_index uses) row.terms) m.rows) =
    second ∙ (λ i. one i ++ entries_from (is_vars i) (map (λ row. sum_with (slice_index uses) row.terms) (is_rows i))) in
    let sets : map (λ n. pos n) counts ≡ map (λ s. pos (visit_count s visits)) (range_with_len 0 m.sets) =
    ap (map (λ (n : ℕ). pos n)) (list_told (λ s. visit_count s visits) counts m.sets same told) ∙ map-map (λ (n : ℕ). pos n) (λ s. visit_count s visits) (range_with_len 0 m.sets) in
    third
    ∙ ((λ i. two i ++ entries_from (is_vars' i + is_rows' i) (sets i))
    ∙ append_assoc (entries_from 0 (map (λ n. pos n) uses)) (entries_from (length m.vars) (map (λ row. sum_with (slice_index uses) row.terms) m.rows))
    (entries_from (length m.vars + length m.rows) (map (λ s. pos (visit_count s visits)) (range_with_len 0 m.sets))))

-- the entries of a column, one after the other
pub column_joined : (m : ModelParts) (cuts : List Cut) (w : KeptWalk) (e1 e2 e3 : List Entry) (at : ℕ) → IsKept m w → at ≡ length m.vars + length m.rows + m.sets → e1 ≡ w.entries
    → e2 ≡ e1 ++ entries_from at (map (λ cut. pos (coef_of cut w.visits)) cuts) → e3 ≡ e2 ++ entries_from (at + length cuts + w.graph) (pos 1 ∷ []) → e3 ≡ (column_of m cuts w.graph w.arcs).entries
column_joined m cuts w e1 e2 e3 at kept is first second third =
    let visits : List (Option ℕ) = visits_along (graph_in m.graphs w.graph) w.arcs in
    let coefs : map (λ cut. pos (coef_of cut w.visits)) cuts ≡ cut_amounts m cuts w.graph w.arcs =
    ap (λ (vs : List (Option ℕ)). map (λ cut. pos (coef_of cut vs)) cuts) kept.visits ∙ sym (listed (λ cut. pos (coef_of cut visits)) cuts (cut_at [] 0)) in
    let two : e2 ≡ first_entries m w.graph w.arcs ++ entries_from at (cut_amounts m cuts w.graph w.arcs) = second ∙ (λ i. (first ∙ kept.entries) i ++ entries_from at (coefs i)) in
    third
    ∙ (ap (λ (es : List Entry). es ++ entries_from (at + length cuts + w.graph) (pos 1 ∷ [])) two ∙ sym (column_entries_told m cuts w.graph w.arcs at is kept.graph_there))
