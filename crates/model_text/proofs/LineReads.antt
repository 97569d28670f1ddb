-- The lines of a model: one judgement for each kind of line, that its words are read as a thing exactly where they are its words.
use Rattle.std.proofs.Common.{◌≡◌, ℕ, ◌+◌, ◌≤◌, ◌<◌, ℤ, pos, neg_ℤ, unsigned_abs, ◌≤ℤ◌, Bool, true, false, not, List, [], ◌∷◌, ◌++◌, length, refl, ap, sym, ◌∙◌, arith, Option, None, Some}
use Rattle.std.specs.Prelude.{IfSome, ◌==◌, ◌&&◌, int_lt, ◌||◌, is_some, nat_lt, codes, decimal, option_map, sum_by, if◌then◌else◌}
use Rattle.std.specs.Fmt.{signed_decimal}
use Rattle.std.specs.List.{flat_map}
use Rattle.std.proofs.lemmas.Bool.Decides.{nat_tests}
use Rattle.path_graph.specs.declared.parts.Window.{Window}
use Rattle.path_graph.specs.declared.parts.Vertex.{Vertex}
use Rattle.path_graph.specs.declared.parts.GraphArc.{GraphArc}
use Rattle.path_graph.specs.declared.parts.Ends.{Ends}
use Rattle.path_graph.specs.Within.{IsWithin}
use Rattle.path_graph.specs.Fit.{is_used_at, WindowFits, NeedFits}
use Rattle.path_graph.specs.Walk.{positions}
use Rattle.route_model.specs.declared.parts.Var.{Var}
use Rattle.route_model.specs.declared.parts.RowTerm.{RowTerm}
use Rattle.route_model.specs.declared.parts.Row.{Row}
use Rattle.route_model.specs.Fit.{VarFits, SidesFit, row_coef, total_coef}
use Rattle.line_text.specs.declared.fault.Kind.TheVariants as fault
use Rattle.line_text.specs.Words.{give}
use Rattle.line_text.proofs.PrintedWordLemmas.{printed_name}
use Rattle.line_text.proofs.Judgement.{Reads, Any, Anything, AtEnd, given, next, last, unless, same_as, by_test, constant}
use Rattle.line_text.proofs.NumberReads.{IsIn, number_in-reads, natural_in-reads, known_below-reads, limited_one, known_one, one_word, unless_name, or_name, not_name}
use Rattle.line_text.proofs.ListReads.{EachAfter, to_the_end-reads, for_each-reads, words_at, AllAt}
use Rattle.model_text.specs.declared.draft.Section.{Section}
use Rattle.model_text.specs.LineWords.{var_wanted, side_wanted, are_reversed, last_of, is_above, term_wanted, row_wanted, sets_wanted, graph_wanted, set_wanted, window_wanted, window_at, vertex_wanted, need_wanted, need_at, mapped_wanted, arc_wanted}
use Rattle.model_text.specs.ModelText.{side_word, term_words, set_word, window_words}
use Rattle.model_text.specs.Totals.{path_total}

not_below : (a b : ℤ) → int_lt a b ≡ false → b ≤ℤ a
not_below a b h = grind (arith, nat_tests, h)

at_least : (a b : ℤ) → b ≤ℤ a → int_lt a b ≡ false
at_least a b h = grind (arith, nat_tests, h)

le_trans : (a b c : ℤ) → a ≤ℤ b → b ≤ℤ c → a ≤ℤ c
le_trans a b c l h = grind (arith, l, h)

-- `var LOW HIGH COST`
pub var-reads : Reads var_wanted Any (λ v. signed_decimal v.low ∷ signed_decimal v.high ∷ signed_decimal v.cost ∷ []) VarFits Anything
var-reads =
    same_as
    (next (λ v. v.low) (number_in-reads (pos 0) (pos 1000000) (refl, refl)) (λ low l.
    next (λ v. v.high) (number_in-reads (pos 0) (pos 1000000) (refl, refl)) (λ high h.
    unless fault.Box (int_lt high low) (λ v. v.low ≤ℤ v.high) (λ v k none. rw (k.0.1, k.1) (not_below high low none)) (λ v k sides. rw (← k.0.1, ← k.1) (at_least v.high v.low sides)) (λ none.
    last (λ v. v.cost) (λ cost. record { low = low; high = high; cost = cost }) (number_in-reads (neg_ℤ (pos 1000000000)) (pos 1000000000) (refl, refl)) (λ cost c. (((tt, refl), refl), refl)) (λ v k. rw (← k.0.1, ← k.1) refl)))))
    (λ v k h. (refl, record { low = h.0.0; sides = h.1.1.0; high = h.1.0.1; cost = h.1.1.1 }))
    (λ v k h. ((h.low, le_trans v.low v.high (pos 1000000) h.sides h.high), ((le_trans (pos 0) v.low v.high h.low h.sides, h.high), (h.sides, h.cost))))

-- a side of a row
side_form : (side : Option ℤ) → or_name (codes "*") signed_decimal side ∷ [] ≡ side_word side ∷ []
side_form None = refl
side_form (Some z) = refl

pub side-reads : Reads side_wanted Any (λ side. side_word side ∷ []) (λ side. IfSome side (IsWithin 1000000000000)) Anything
side-reads =
    same_as (one_word (unless_name (codes "*") (printed_name (codes "*") refl refl refl) refl (λ z h e. not_name (codes "*") refl (neg_ℤ (pos 1000000000000)) (pos 1000000000000) z (refl, refl) h e) (limited_one (neg_ℤ (pos 1000000000000)) (pos 1000000000000) (refl, refl))))
    (λ side k h. (side_form side, h))
    (λ side k h. h)

-- VARIABLE COEFFICIENT, after the terms before
abbrev pub TermMay : List Var → List Row → List RowTerm → RowTerm → Type 0
TermMay vars rows terms t =
    (t.var < length vars) × (is_above (option_map (λ (u : RowTerm). u.var) (last_of terms)) t.var ≡ true) × IsWithin 1000000 t.coef
    × (sum_by (λ (row : Row). length row.terms) rows + length terms < 1000000)
    × (total_coef rows t.var + row_coef t.var terms + unsigned_abs t.coef ≤ 1048576)

not_true : (b : Bool) → not b ≡ false → b ≡ true
not_true true h = refl
not_true false h = cc

true_not : (b : Bool) → b ≡ true → not b ≡ false
true_not true h = refl
true_not false h = cc

term-reads : (vars : List Var) (rows : List Row) → length vars ≤ 30000 → (terms : List RowTerm) → Reads (term_wanted vars rows terms) Any term_words (TermMay vars rows terms) Anything
term-reads vars rows few_vars terms =
    same_as
    (next (λ t. t.var) (known_below-reads (length vars) (omega (arith, few_vars))) (λ var v.
    unless fault.Order (not (is_above (option_map (λ t. t.var) (last_of terms)) var)) (λ t. is_above (option_map (λ (u : RowTerm). u.var) (last_of terms)) t.var ≡ true) (λ t k none. rw k.1 (not_true _ none)) (λ t k above. rw (← k.1) (true_not _ above)) (λ above.
    next (λ t. t.coef) (number_in-reads (neg_ℤ (pos 1000000)) (pos 1000000) (refl, refl)) (λ coef c.
    unless fault.TooMany (not (nat_lt (sum_by (λ (row : Row). length row.terms) rows + length terms) 1000000)) (λ t. sum_by (λ (row : Row). length row.terms) rows + length terms < 1000000) (λ t k none. grind (arith, nat_tests, none)) (λ t k few. grind (arith, nat_tests, few)) (λ few.
    unless fault.TooMany (nat_lt 1048576 (total_coef rows var + row_coef var terms + unsigned_abs coef)) (λ t. total_coef rows t.var + row_coef t.var terms + unsigned_abs t.coef ≤ 1048576) (λ t k none. rw (k.0.1, k.1) (grind (arith, nat_tests, none))) (λ t k small. rw (← k.0.1, ← k.1) (grind (arith, nat_tests, small))) (λ small.
    given (record { var = var; coef = coef }) ((tt, refl), refl) (λ t k. rw (← k.0.1, ← k.1) refl)))))))
    (λ t k h. (refl, (h.0, h.1.0, h.1.1.0, h.1.1.1.0, h.1.1.1.1.0)))
    (λ t k h. (h.0, (h.1, (h.2, (h.3, (h.4, tt))))))

-- `row LOW HIGH`, then the terms
sides_fit : (low high : Option ℤ) → IfSome low (IsWithin 1000000000000) → IfSome high (IsWithin 1000000000000) → are_reversed low high ≡ false → SidesFit low high
sides_fit None None l h none = record { low_side = l; high_side = h; order = tt }
sides_fit None (Some high) l h none = record { low_side = l; high_side = h; order = tt }
sides_fit (Some low) None l h none = record { low_side = l; high_side = h; order = tt }
sides_fit (Some low) (Some high) l h none = record { low_side = l; high_side = h; order = not_below high low none }

not_reversed : (low high : Option ℤ) → SidesFit low high → are_reversed low high ≡ false
not_reversed None None fit = refl
not_reversed None (Some high) fit = refl
not_reversed (Some low) None fit = refl
not_reversed (Some low) (Some high) fit = at_least high low fit.order

pub row-reads : (vars : List Var) (rows : List Row) → length vars ≤ 30000 → Reads (row_wanted vars rows) Any (λ row. side_word row.low ∷ side_word row.high ∷ flat_map term_words row.terms) (λ row. SidesFit row.low row.high × EachAfter (TermMay vars rows) [] row.terms) AtEnd
row-reads vars rows few_vars =
    same_as
    (next (λ row. row.low) side-reads (λ low l.
    next (λ row. row.high) side-reads (λ high h.
    unless fault.Box (are_reversed low high) (λ row. are_reversed row.low row.high ≡ false) (λ row k none. rw (k.0.1, k.1) none) (λ row k none. rw (← k.0.1, ← k.1) none) (λ none.
    last (λ row. row.terms) (λ terms. record { low = low; high = high; terms = terms }) (to_the_end-reads (term_wanted vars rows) (λ t. omega arith) (term-reads vars rows few_vars)) (λ terms t. (((tt, refl), refl), refl)) (λ row k. rw (← k.0.1, ← k.1) refl)))))
    (λ row k h. (refl, (sides_fit row.low row.high h.0 h.1.0 h.1.1.0, h.1.1.1)))
    (λ row k h. (h.0.low_side, (h.0.high_side, (not_reversed row.low row.high h.0, h.1))))

-- `sets NUMBER`
pub sets-reads : Reads sets_wanted Any (λ sets. decimal sets ∷ []) (λ sets. sets ≤ 512) Anything
sets-reads = same_as (natural_in-reads 0 512 refl) (λ n k h. (refl, h.1)) (λ n k h. (omega arith, h))

-- `graph VERTICES SOURCE SINK ..`: source and sink are below the count that stands before them
pub record EndsMay (paths : ℕ) (g : ℕ × Ends) : Type 0 where
  pub source : g.1.source < g.0
  pub sink : g.1.sink < g.0
  pub apart : (g.1.sink == g.1.source) ≡ false
  pub low : g.1.low ≤ g.1.high
  pub high : g.1.high ≤ 4096
  pub sum : paths + g.1.high ≤ 4096
  pub mains : (1 ≤ g.1.mains) × (g.1.mains ≤ 2)
  pub seconds : g.1.seconds ≤ 4

pub graph-reads : (sections : List Section) → Reads (graph_wanted sections) Any (λ g. decimal g.0 ∷ decimal g.1.source ∷ decimal g.1.sink ∷ decimal g.1.low ∷ decimal g.1.high ∷ decimal g.1.mains ∷ decimal g.1.seconds ∷ []) (λ g. ((2 ≤ g.0) × (g.0 ≤ 1024)) × EndsMay (path_total sections) g) Anything
graph-reads sections =
    next (λ g. g.0) (natural_in-reads 2 1024 refl) (λ count c.
    same_as
    (next (λ g. g.1.source) (known_below-reads count (omega (arith, c.1))) (λ source s.
    next (λ g. g.1.sink) (known_below-reads count (omega (arith, c.1))) (λ sink t.
    unless fault.Ends (sink == source) (λ g. (g.1.sink == g.1.source) ≡ false) (λ g k none. rw (k.0.1, k.1) none) (λ g k none. rw (← k.0.1, ← k.1) none) (λ apart.
    next (λ g. g.1.low) (natural_in-reads 0 4096 refl) (λ low l.
    next (λ g. g.1.high) (natural_in-reads 0 4096 refl) (λ high h.
    unless fault.Box (nat_lt high low) (λ g. g.1.low ≤ g.1.high) (λ g k none. rw (k.0.1, k.1) (above low high none)) (λ g k sides. rw (← k.0.1, ← k.1) (above_test _ _ sides)) (λ sides.
    unless fault.TooMany (nat_lt 4096 (path_total sections + high)) (λ g. path_total sections + g.1.high ≤ 4096) (λ g k none. rw k.1 (above (path_total sections + high) 4096 none)) (λ g k room. rw (← k.1) (above_test _ _ room)) (λ room.
    next (λ g. g.1.mains) (natural_in-reads 1 2 refl) (λ mains m.
    last (λ g. g.1.seconds) (λ seconds. (count, record { source = source; sink = sink; low = low; high = high; mains = mains; seconds = seconds })) (natural_in-reads 0 4 refl) (λ seconds n. (((((((tt, refl), refl), refl), refl), refl), refl), refl)) (λ g k. rw (← k.0.0.0.0.0.1, ← k.0.0.0.0.1, ← k.0.0.0.1, ← k.0.0.1, ← k.0.1, ← k.1) refl))))))))))
    (λ g k h. (refl, record { source = rw k.1 h.0; sink = rw k.1 h.1.0; apart = h.1.1.0; low = h.1.1.1.1.1.0; high = h.1.1.1.1.0.1; sum = h.1.1.1.1.1.1.0; mains = h.1.1.1.1.1.1.1.0; seconds = h.1.1.1.1.1.1.1.1.1 }))
    (λ g k h. (rw (← k.1) h.source, (rw (← k.1) h.sink, (h.apart, ((omega arith, at_most_4096 _ _ h.low h.high), ((omega arith, h.high), (h.low, (h.sum, (h.mains, (omega arith, h.seconds)))))))))))
  where
    above : (a b : ℕ) → nat_lt b a ≡ false → a ≤ b
    above a b h = grind (arith, nat_tests, h)

    above_test : (a b : ℕ) → a ≤ b → nat_lt b a ≡ false
    above_test a b h = grind (arith, nat_tests, h)

    at_most_4096 : (a b : ℕ) → a ≤ b → b ≤ 4096 → a ≤ 4096
    at_most_4096 a b h k = omega (arith, h, k)

-- the set of a vertex
set_form : (set : Option ℕ) → or_name (codes "-") decimal set ∷ [] ≡ set_word set ∷ []
set_form None = refl
set_form (Some n) = refl

not_dash : (n : ℕ) → n ≤ 512 → decimal n ≡ codes "-" → ⊥
not_dash n few e = not_name (codes "-") refl (pos 0) (pos 512) (pos n) (refl, refl) (grind arith, grind (arith, few)) e

pub set-reads : (sets : ℕ) → sets ≤ 512 → Reads (set_wanted sets) Any (λ set. set_word set ∷ []) (λ set. IfSome set (λ n. n < sets)) Anything
set-reads sets few =
    same_as
    (one_word (unless_name (codes "-") (printed_name (codes "-") refl refl refl) refl (λ n h e. not_dash n (omega (arith, few, h)) e) (known_one sets (omega (arith, few)))))
    (λ set k h. (set_form set, h))
    (λ set k h. h)

-- a window at a position
pub window-reads : Reads window_wanted Any window_words (WindowFits true) Anything
window-reads =
    same_as
    (next (λ w. w.low) (number_in-reads (neg_ℤ (pos 100000000)) (pos 100000000) (refl, refl)) (λ low l.
    next (λ w. w.high) (number_in-reads (neg_ℤ (pos 100000000)) (pos 100000000) (refl, refl)) (λ high h.
    unless fault.Window (int_lt high low) (λ w. w.low ≤ℤ w.high) (λ w k none. rw (k.0.1, k.1) (not_below high low none)) (λ w k sides. rw (← k.0.1, ← k.1) (at_least w.high w.low sides)) (λ none.
    given (record { low = low; high = high }) ((tt, refl), refl) (λ w k. rw (← k.0.1, ← k.1) refl)))))
    (λ w k h. (refl, (h.0.0, h.1.1.0, h.1.0.1)))
    (λ w k h. ((h.0, le_trans w.low w.high (pos 100000000) h.1 h.2), ((le_trans (neg_ℤ (pos 100000000)) w.low w.high h.0 h.1, h.2), (h.1, tt))))

abbrev no_window : Window
no_window = record { low = pos 0; high = pos 0 }

none_is : (w : Window) → w.low ≡ pos 0 → w.high ≡ pos 0 → w ≡ no_window
none_is w low high =
    let first : w ≡ record { low = pos 0; high = w.high } = ap (λ l. record w { low = l }) low in
    first ∙ ap (λ (h : ℤ). record no_window { high = h }) high

pub window_at-reads : (ends : Ends) (k : ℕ) → Reads (window_at ends k) Any (λ w. if is_used_at ends k then window_words w else []) (WindowFits (is_used_at ends k)) Anything
window_at-reads ends k = window_or_none (is_used_at ends k)
  where
    window_or_none : (b : Bool) → Reads (if b then window_wanted else give (record { low = pos 0; high = pos 0 })) Any (λ w. if b then window_words w else []) (WindowFits b) Anything
    window_or_none true = window-reads
    window_or_none false = same_as (constant no_window) (λ w k e. (refl, (ap (λ (v : Window). v.low) e, ap (λ (v : Window). v.high) e))) (λ w k h. none_is w h.0 h.1)

-- `vertex SET`, then a window for each position that is used
pub record VertexMay (sets : ℕ) (s : Section) (v : Vertex) : Type 0 where
  pub set : IfSome v.set (λ n. n < sets)
  pub ends : (is_some v.set && (length s.vertices == s.ends.source || length s.vertices == s.ends.sink)) ≡ false
  pub windows : AllAt (λ k. WindowFits (is_used_at s.ends k)) positions v.windows

pub vertex-reads : (sets : ℕ) (s : Section) → sets ≤ 512 → Reads (vertex_wanted sets s) Any (λ v. set_word v.set ∷ words_at (λ k w. if is_used_at s.ends k then window_words w else []) positions v.windows) (VertexMay sets s) Anything
vertex-reads sets s few =
    same_as
    (next (λ v. v.set) (set-reads sets few) (λ set n.
    unless fault.Ends (is_some set && (length s.vertices == s.ends.source || length s.vertices == s.ends.sink)) (λ v. (is_some v.set && (length s.vertices == s.ends.source || length s.vertices == s.ends.sink)) ≡ false) (λ v k none. rw k.1 none) (λ v k none. rw (← k.1) none) (λ none.
    last (λ v. v.windows) (λ windows. record { set = set; windows = windows }) (for_each-reads (window_at s.ends) (window_at-reads s.ends) positions) (λ windows w. ((tt, refl), refl)) (λ v k. rw (← k.1) refl))))
    (λ v k h. (refl, record { set = h.0; ends = h.1.0; windows = h.1.1 }))
    (λ v k h. (h.set, (h.ends, h.windows)))

-- a consumption at a position
pub need-reads : (k : ℕ) → Reads (need_wanted k) Any (λ q. signed_decimal q ∷ []) (NeedFits true (nat_lt k 2)) Anything
need-reads k =
    same_as
    (next (λ q. q) (number_in-reads (neg_ℤ (pos 100000000)) (pos 100000000) (refl, refl)) (λ need n.
    unless fault.MainNegative (nat_lt k 2 && int_lt need (pos 0)) (λ q. (nat_lt k 2 && int_lt q (pos 0)) ≡ false) (λ q known none. rw known.1 none) (λ q known none. rw (← known.1) none) (λ none.
    given need (tt, refl) (λ q known. sym known.1))))
    (λ q known h. (refl, to (nat_lt k 2) q h.0 h.1.0))
    (λ q known h. let parts = from (nat_lt k 2) q h in (parts.0, (parts.1, tt)))
  where
    to : (main : Bool) (q : ℤ) → IsIn (neg_ℤ (pos 100000000)) (pos 100000000) q → (main && int_lt q (pos 0)) ≡ false → NeedFits true main q
    to true q fits none = (not_below q (pos 0) none, fits.1)
    to false q fits none = (fits.0, fits.1)

    from : (main : Bool) (q : ℤ) → NeedFits true main q → IsIn (neg_ℤ (pos 100000000)) (pos 100000000) q × ((main && int_lt q (pos 0)) ≡ false)
    from true q fits = let low = fits.0 in ((grind (arith, low), fits.1), at_least q (pos 0) low)
    from false q fits = ((fits.0, fits.1), refl)

pub need_at-reads : (ends : Ends) (k : ℕ) → Reads (need_at ends k) Any (λ q. if is_used_at ends k then signed_decimal q ∷ [] else []) (NeedFits (is_used_at ends k) (nat_lt k 2)) Anything
need_at-reads ends k = by_test (is_used_at ends k) (need-reads k) (constant (pos 0))

-- a mapped variable, after those before
abbrev pub MappedMay : ℕ → List ℕ → ℕ → Type 0
MappedMay vars mapped j = (j < vars) × (is_above (last_of mapped) j ≡ true) × (length mapped < 16)

pub mapped-reads : (vars : ℕ) → vars ≤ 30000 → (mapped : List ℕ) → Reads (mapped_wanted vars mapped) Any (λ j. decimal j ∷ []) (MappedMay vars mapped) Anything
mapped-reads vars few mapped =
    same_as
    (next (λ j. j) (known_below-reads vars (omega (arith, few))) (λ var v.
    unless fault.Order (not (is_above (last_of mapped) var)) (λ j. is_above (last_of mapped) j ≡ true) (λ j k none. rw k.1 (not_true _ none)) (λ j k above. rw (← k.1) (true_not _ above)) (λ above.
    unless fault.TooMany (not (nat_lt (length mapped) 16)) (λ j. length mapped < 16) (λ j k none. grind (arith, nat_tests, none)) (λ j k room. grind (arith, nat_tests, room)) (λ room.
    given var (tt, refl) (λ j k. sym k.1)))))
    (λ j k h. (refl, (h.0, h.1.0, h.1.1.0)))
    (λ j k h. (h.0, (h.1, (h.2, tt))))

-- `arc TAIL HEAD`, a consumption for each position that is used, and the mapped variables
pub record ArcMay (vars count : ℕ) (ends : Ends) (a : GraphArc × List ℕ) : Type 0 where
  pub tail : a.0.tail < count
  pub not_out : (a.0.tail == ends.sink) ≡ false
  pub head : a.0.head < count
  pub not_in : (a.0.head == ends.source) ≡ false
  pub needs : AllAt (λ k. NeedFits (is_used_at ends k) (nat_lt k 2)) positions a.0.needs
  pub mapped : EachAfter (MappedMay vars) [] a.1

pub arc-reads : (vars : ℕ) (s : Section) → vars ≤ 30000 → length s.vertices ≤ 1024 → Reads (arc_wanted vars s) Any (λ a. decimal a.0.tail ∷ decimal a.0.head ∷ words_at (λ k q. if is_used_at s.ends k then signed_decimal q ∷ [] else []) positions a.0.needs ++ flat_map (λ j. decimal j ∷ []) a.1) (ArcMay vars (length s.vertices) s.ends) AtEnd
arc-reads vars s few_vars few =
    same_as
    (next (λ a. a.0.tail) (known_below-reads (length s.vertices) (omega (arith, few))) (λ tail t.
    unless fault.Ends (tail == s.ends.sink) (λ a. (a.0.tail == s.ends.sink) ≡ false) (λ a k none. rw k.1 none) (λ a k none. rw (← k.1) none) (λ not_out.
    next (λ a. a.0.head) (known_below-reads (length s.vertices) (omega (arith, few))) (λ head h.
    unless fault.Ends (head == s.ends.source) (λ a. (a.0.head == s.ends.source) ≡ false) (λ a k none. rw k.1 none) (λ a k none. rw (← k.1) none) (λ not_in.
    next (λ a. a.0.needs) (for_each-reads (need_at s.ends) (need_at-reads s.ends) positions) (λ needs n.
    last (λ a. a.1) (λ mapped. (record { tail = tail; head = head; needs = needs }, mapped)) (to_the_end-reads (mapped_wanted vars) (λ j. omega arith) (mapped-reads vars few_vars)) (λ mapped m. ((((tt, refl), refl), refl), refl)) (λ a k. rw (← k.0.0.1, ← k.0.1, ← k.1) refl)))))))
    (λ a k h. (refl, record { tail = h.0; not_out = h.1.0; head = h.1.1.0; not_in = h.1.1.1.0; needs = h.1.1.1.1.0; mapped = h.1.1.1.1.1 }))
    (λ a k h. (h.tail, (h.not_out, (h.head, (h.not_in, (h.needs, h.mapped))))))
