-- The labels of one direction as a space: which labels are of it, their extensions, dominance and levels, as tests.
use Rattle.std.specs.Prelude.{◌≡◌, ◌==◌, ℕ, ◌<◌, ◌≤◌, ◌^◌, ◌+◌, nat_lt, not, ◌&&◌, ◌||◌, Bool, true, false, if◌then◌else◌, ℤ, pos, neg_ℤ, ◌+ℤ◌, ◌*ℤ◌, ◌≤ℤ◌, Option, None, Some, List, length, slice_index}
use lib.Signed.{le_z, lt_z}
use Rattle.path_graph.specs.declared.parts.Values.{Values}
use Rattle.path_graph.specs.declared.set_bits.SetBits.{SetBits}
use Rattle.path_graph.specs.Fit.{int_at, window_at, vertex_at}
use Rattle.path_graph.specs.Level.{level_of}
use Rattle.path_graph.specs.Parts.{arcs_from, arcs_into}
use Rattle.path_graph.specs.SetBits.{has_set, all_below, is_subset}
use Rattle.path_graph.specs.Within.{IsWithin}
use Rattle.label_space.specs.Rules.{Rules}
use Rattle.label_rules.specs.Labels.{Setting, Label, Direction, Forward, Backward, cut_at, state_at, entered, visit_of, values_over, extended, root}
use Rattle.label_rules.specs.Dominance.{excess, StatesFit}
use Rattle.label_rules.specs.Tables.{first_value, LiesInWindows}

-- the level of a label: forward that of its values at its vertex, backward the same negated; it rises over each extension
abbrev pub level : Direction → Setting → Label → ℤ
level Forward S l = level_of S.graph l.vertex l.values
level Backward S l = neg_ℤ (level_of S.graph l.vertex l.values)

-- how far the cost of a label may be from 0
abbrev pub cost_limit : Direction → Setting → Label → ℤ
cost_limit direction S l = pos (2 ^ 112) +ℤ (pos (2 ^ 73) *ℤ (level direction S l +ℤ pos (2 ^ 38)))

abbrev pub IsInRange : Direction → Setting → Label → Type 0
IsInRange direction S l = ((neg_ℤ (cost_limit direction S l)) ≤ℤ l.cost) × (l.cost ≤ℤ (cost_limit direction S l))

-- a label of the space lies in the windows of its vertex, its states are below the denominators, and 0 from the number of
-- cuts on, and its cost is in the range of its level
pub record IsLabel (direction : Direction) (S : Setting) (l : Label) : Type 0 where
  pub windows : LiesInWindows S l
  pub states : StatesFit S l
  pub unused : (i : ℕ) → i < 64 → length S.cuts ≤ i → state_at l i ≡ 0
  pub cost : IsInRange direction S l

-- the costs of a setting are in the ranges by which an extension changes a cost by at most 2^73
pub record CostsFit (S : Setting) : Type 0 where
  pub few : length S.cuts ≤ 64
  pub start : IsWithin (2 ^ 112) S.start
  pub arcs : (a : ℕ) → a < length S.graph.arcs → IsWithin (2 ^ 72 + 2 ^ 54) (S.arc_cost a)
  pub sets : (s : ℕ) → s < 512 → IsWithin (2 ^ 54) (S.set_cost s)
  pub weights : (i : ℕ) → i < length S.cuts → slice_index S.weights i ≤ 2 ^ 48

-- cells follow the vertex and the main values, and are below their number where these lie in the windows
abbrev pub CellsFit : Setting → ℕ → (ℕ → ℤ → ℤ → ℕ) → Type 0
CellsFit S cells cell_of = (l : Label) → LiesInWindows S l → cell_of l.vertex (int_at l.values.at 0) (int_at l.values.at 1) < cells

-- the tests
abbrev pub lies_at : Setting → Label → ℕ → Bool
lies_at S l k =
    let window = window_at (vertex_at S.graph.vertices l.vertex).windows k in
    le_z window.low (int_at l.values.at k) && le_z (int_at l.values.at k) window.high

abbrev pub lies_in_windows : Setting → Label → Bool
lies_in_windows S l = nat_lt l.vertex (length S.graph.vertices) && all_below (lies_at S l) 6

abbrev pub states_fit : Setting → Label → Bool
states_fit S l = all_below (λ i. nat_lt (state_at l i) (cut_at S i).den) (length S.cuts)

abbrev pub is_label : Direction → Setting → Label → Bool
is_label direction S l =
    lies_in_windows S l && (states_fit S l && (all_below (λ i. nat_lt i (length S.cuts) || (state_at l i == 0)) 64
    && (le_z (neg_ℤ (cost_limit direction S l)) l.cost && le_z l.cost (cost_limit direction S l))))

abbrev pub window_takes : Direction → Setting → Values → ℕ → ℕ → Bool
window_takes Forward S value a k = le_z (int_at (values_over Forward S value a).at k) (window_at (vertex_at S.graph.vertices (entered Forward S a)).windows k).high
window_takes Backward S value a k = le_z (window_at (vertex_at S.graph.vertices (entered Backward S a)).windows k).low (int_at (values_over Backward S value a).at k)

abbrev pub is_remembered : SetBits → Option ℕ → Bool
is_remembered memory None = false
is_remembered memory (Some s) = has_set memory s

abbrev pub can_extend : Direction → Setting → Label → ℕ → Bool
can_extend direction S l a =
    not (S.is_shut a) && (all_below (window_takes direction S l.values a) 6 && not (is_remembered l.memory (visit_of direction S a).set))

abbrev pub needs_dominator : Direction → Setting → Option ℤ → Label → Bool
needs_dominator Forward S None l = true
needs_dominator Backward S None l = true
needs_dominator Forward S (Some t) l = le_z (first_value l) t && not (l.vertex == S.graph.ends.sink)
needs_dominator Backward S (Some t) l = lt_z t (first_value l) && not (l.vertex == S.graph.ends.source)

-- the extension over an arc, where it is defined and needs a dominator
abbrev pub extension : Direction → Setting → Option ℤ → Label → ℕ → Option Label
extension direction S threshold l a =
    if can_extend direction S l a && needs_dominator direction S threshold (extended direction S l a) then Some (extended direction S l a) else None

abbrev pub is_no_worse : Direction → ℤ → ℤ → Bool
is_no_worse Forward x y = le_z x y
is_no_worse Backward x y = le_z y x

abbrev pub dominates : Direction → Setting → Label → Label → Bool
dominates direction S a b =
    (a.vertex == b.vertex) && (all_below (λ k. is_no_worse direction (int_at a.values.at k) (int_at b.values.at k)) 6
    && (is_subset a.memory b.memory && le_z (a.cost +ℤ excess S a b) b.cost))

-- the arcs on from a vertex, in order
abbrev pub onward : Direction → Setting → ℕ → List ℕ
onward Forward S v = arcs_from S.graph.arcs v
onward Backward S v = arcs_into S.graph.arcs v

-- the space; a threshold leaves out the extensions that need no dominator
abbrev pub rules : Direction → Setting → Option ℤ → ℕ → (ℕ → ℤ → ℤ → ℕ) → Rules Label
rules direction S threshold cells cell_of = record {
  fits = is_label direction S;
  root = root direction S;
  cells = cells;
  cell = λ l. cell_of l.vertex (int_at l.values.at 0) (int_at l.values.at 1);
  degree = λ l. length (onward direction S l.vertex);
  level = level direction S;
  extend = λ l k. extension direction S threshold l (slice_index (onward direction S l.vertex) k);
  dominates = dominates direction S;
}
