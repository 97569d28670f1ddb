-- What is wanted of the words behind the first word of a line.
use Rattle.std.specs.Prelude.{ℕ, ◌+◌, ◌-◌, ℤ, pos, neg_ℤ, unsigned_abs, int_lt, List, length, codes, Bool, true, false, ◌==◌, ◌||◌, ◌&&◌, not, nat_lt, is_some, if◌then◌else◌, Option, None, Some, sum_by, option_map, slice_get}
use Rattle.std.specs.Str.{bytes_eq}
use Rattle.path_graph.specs.declared.parts.Window.{Window}
use Rattle.path_graph.specs.declared.parts.Vertex.{Vertex}
use Rattle.path_graph.specs.declared.parts.GraphArc.{GraphArc}
use Rattle.path_graph.specs.declared.parts.Ends.{Ends}
use Rattle.path_graph.specs.Fit.{is_used_at}
use Rattle.path_graph.specs.Walk.{positions}
use Rattle.route_model.specs.declared.parts.Var.{Var}
use Rattle.route_model.specs.declared.parts.RowTerm.{RowTerm}
use Rattle.route_model.specs.declared.parts.Row.{Row}
use Rattle.path_graph.specs.declared.limits.TheConstants.{MAX_VERTICES, MAX_PATHS, MAX_SETS, MAX_AMOUNT}
use Rattle.route_model.specs.declared.limits.TheConstants.{MAX_TERMS, MAX_MAPPED, MAX_VALUE, MAX_COST, MAX_COEF, MAX_SIDE, MAX_COEF_SUM}
use Rattle.route_model.specs.Fit.{row_coef, total_coef}
use Rattle.line_text.specs.declared.fault.Kind.TheVariants as fault
use Rattle.model_text.specs.declared.draft.Section.{Section}
use Rattle.line_text.specs.Words.{Wants, ◌>>=◌, ◌>>◌, give, fault_if, word, limited_word, known_word, number_in, natural_in, known_below, for_each, to_the_end}

-- `var LOW HIGH COST`
abbrev pub var_wanted : Wants Var
var_wanted = do
  low ← number_in (pos 0) MAX_VALUE
  high ← number_in (pos 0) MAX_VALUE
  fault_if fault.Box (int_lt high low)
  cost ← number_in (neg_ℤ (pos MAX_COST)) (pos MAX_COST)
  give (record { low = low; high = high; cost = cost })

-- a side of a row; `*` is open
abbrev pub side_wanted : Wants (Option ℤ)
side_wanted = do
  w ← word
  if bytes_eq w (codes "*") then give None else do
    side ← limited_word (neg_ℤ (pos MAX_SIDE)) (pos MAX_SIDE) w
    give (Some side)

-- the high side is below the low one, where both are there
abbrev pub are_reversed : Option ℤ → Option ℤ → Bool
are_reversed (Some low) (Some high) = int_lt high low
are_reversed _ _ = false

-- the last of the things before, if there is one, and a number that is above the last
abbrev pub last_of : {A : Type 0} → List A → Option A
last_of xs = slice_get xs (length xs - 1)

abbrev pub is_above : Option ℕ → ℕ → Bool
is_above None n = true
is_above (Some last) n = nat_lt last n

-- VARIABLE COEFFICIENT of a row, after the terms of the row that stand before; the terms of all rows are at most MAX_TERMS,
-- and the absolute coefficients of a variable over all rows sum to at most MAX_COEF_SUM
abbrev pub term_wanted : List Var → List Row → List RowTerm → Wants RowTerm
term_wanted vars rows terms = do
  var ← known_below (length vars)
  fault_if fault.Order (not (is_above (option_map (λ t. t.var) (last_of terms)) var))
  coef ← number_in (neg_ℤ (pos MAX_COEF)) (pos MAX_COEF)
  fault_if fault.TooMany (not (nat_lt (sum_by (λ row. length row.terms) rows + length terms) MAX_TERMS))
  fault_if fault.TooMany (nat_lt MAX_COEF_SUM (total_coef rows var + row_coef var terms + unsigned_abs coef))
  give (record { var = var; coef = coef })

-- `row LOW HIGH`, then pairs VARIABLE COEFFICIENT
abbrev pub row_wanted : List Var → List Row → Wants Row
row_wanted vars rows = do
  low ← side_wanted
  high ← side_wanted
  fault_if fault.Box (are_reversed low high)
  terms ← to_the_end (term_wanted vars rows)
  give (record { low = low; high = high; terms = terms })

-- `sets NUMBER`
abbrev pub sets_wanted : Wants ℕ
sets_wanted = natural_in 0 MAX_SETS

-- `graph VERTICES SOURCE SINK LOWPATHS HIGHPATHS MAINS SECONDARIES`; the high path counts of all graphs sum to at most MAX_PATHS
abbrev pub graph_wanted : List Section → Wants (ℕ × Ends)
graph_wanted sections = do
  count ← natural_in 2 MAX_VERTICES
  source ← known_below count
  sink ← known_below count
  fault_if fault.Ends (sink == source)
  low ← natural_in 0 MAX_PATHS
  high ← natural_in 0 MAX_PATHS
  fault_if fault.Box (nat_lt high low)
  fault_if fault.TooMany (nat_lt MAX_PATHS (sum_by (λ s. s.ends.high) sections + high))
  mains ← natural_in 1 2
  seconds ← natural_in 0 4
  give (count, record { source = source; sink = sink; low = low; high = high; mains = mains; seconds = seconds })

-- SET, or `-` for none
abbrev pub set_wanted : ℕ → Wants (Option ℕ)
set_wanted sets = do
  w ← word
  if bytes_eq w (codes "-") then give None else do
    set ← known_word sets w
    give (Some set)

-- LOW HIGH of a window
abbrev pub window_wanted : Wants Window
window_wanted = do
  low ← number_in (neg_ℤ MAX_AMOUNT) MAX_AMOUNT
  high ← number_in (neg_ℤ MAX_AMOUNT) MAX_AMOUNT
  fault_if fault.Window (int_lt high low)
  give (record { low = low; high = high })

-- the window at a position; one that has no resource takes no word
abbrev pub window_at : Ends → ℕ → Wants Window
window_at ends k = if is_used_at ends k then window_wanted else give (record { low = pos 0; high = pos 0 })

-- `vertex SET`, then LOW HIGH for each resource; the vertex gets the next number, and the source and the sink are in no set
abbrev pub vertex_wanted : ℕ → Section → Wants Vertex
vertex_wanted sets s = do
  set ← set_wanted sets
  fault_if fault.Ends (is_some set && (length s.vertices == s.ends.source || length s.vertices == s.ends.sink))
  windows ← for_each (window_at s.ends) positions
  give (record { set = set; windows = windows })

-- the consumption at a position; the main ones, at positions 0 and 1, are not negative
abbrev pub need_wanted : ℕ → Wants ℤ
need_wanted k = do
  need ← number_in (neg_ℤ MAX_AMOUNT) MAX_AMOUNT
  fault_if fault.MainNegative (nat_lt k 2 && int_lt need (pos 0))
  give need

abbrev pub need_at : Ends → ℕ → Wants ℤ
need_at ends k = if is_used_at ends k then need_wanted k else give (pos 0)

-- a mapped variable of an arc, after those before it, of which there are at most MAX_MAPPED
abbrev pub mapped_wanted : ℕ → List ℕ → Wants ℕ
mapped_wanted vars mapped = do
  var ← known_below vars
  fault_if fault.Order (not (is_above (last_of mapped) var))
  fault_if fault.TooMany (not (nat_lt (length mapped) MAX_MAPPED))
  give var

-- `arc TAIL HEAD`, then a consumption for each resource, then the mapped variables; none leads out of the sink or into the source
abbrev pub arc_wanted : ℕ → Section → Wants (GraphArc × List ℕ)
arc_wanted vars s = do
  tail ← known_below (length s.vertices)
  fault_if fault.Ends (tail == s.ends.sink)
  head ← known_below (length s.vertices)
  fault_if fault.Ends (head == s.ends.source)
  needs ← for_each (need_at s.ends) positions
  mapped ← to_the_end (mapped_wanted vars)
  give (record { tail = tail; head = head; needs = needs }, mapped)
