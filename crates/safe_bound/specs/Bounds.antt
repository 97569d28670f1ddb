-- The bound of a place and the limit of a walk, from the sum of the terms and a least reduced cost for each graph.
use Rattle.std.specs.Prelude.{◌≡◌, ℕ, zero, suc, ℤ, pos, ◌+ℤ◌, ◌-ℤ◌, ◌≤ℤ◌, ◌<ℤ◌, int_le, Bool, true, false, not, ◌&&◌, ◌||◌, ◌==◌, if◌then◌else◌, Option, None, Some, List, length, slice_index_or}
use Rattle.std.specs.Int.{int_max}
use Rattle.path_graph.specs.Bounds.{IsAtLeast}
use Rattle.path_graph.specs.First.{EachBelow, IsFirstFault}
use Rattle.path_graph.specs.Sums.{sum_below}
use Rattle.rank1_cuts.specs.declared.cut.Cut.{Cut}
use Rattle.route_model.specs.declared.multipliers.Mult.{Mult}
use Rattle.route_model.specs.declared.places.Span.{Span}
use Rattle.route_model.specs.declared.plan.Plan.{Plan}
use Rattle.route_model.specs.Parts.{ModelParts, taken_at}
use Rattle.route_model.specs.Places.{ends_at_zero, span_at}
use Rattle.route_model.specs.Terms.{or_zero, sides_of, term}
use Rattle.multipliers.specs.Quantities.{reduced_cost, scaled}
use Rattle.safe_bound.specs.declared.bounds.Bound.{Bound}
use Rattle.safe_bound.specs.declared.bounds.Bound.TheVariants.{Value, NoPaths}

-- the least of a graph; none where it is said to have no walk
abbrev pub least_at : List (Option ℤ) → ℕ → Option ℤ
least_at leasts g = slice_index_or leasts g None

-- no walk of the plan has a reduced cost below the least of its graph
abbrev pub AreLeasts : ModelParts → List Cut → Mult → List (Option ℤ) → Plan → Type 0
AreLeasts m cuts mult leasts plan =
    EachBelow (length plan.paths) (λ i. IsAtLeast (least_at leasts (taken_at plan.paths i).graph) (reduced_cost m cuts mult (taken_at plan.paths i).graph (taken_at plan.paths i).arcs))

-- what a graph adds: the term of its least over the box of its path count, 0 for none
abbrev pub graph_term : Option ℤ → Span → ℤ
graph_term None span = pos 0
graph_term (Some least) span = or_zero (term least (sides_of span))

-- a graph whose least is none may have no path; where it must have one, the place has no solution
abbrev pub is_possible : Option ℤ → Span → Bool
is_possible None span = int_le span.low (pos 0)
is_possible (Some least) span = true

-- the test passes at each number below n
abbrev pub passes_below : ℕ → (ℕ → Bool) → Bool
passes_below zero test = true
passes_below (suc n) test = passes_below n test && test n

-- the terms of the n graphs but one
abbrev pub terms_but : ℕ → List Span → List (Option ℤ) → ℕ → ℤ
terms_but n spans leasts but = sum_below n (λ g. if g == but then pos 0 else graph_term (least_at leasts g) (span_at spans g))

-- no graph but one shows that the place has no solution
abbrev pub are_possible_but : ℕ → List Span → List (Option ℤ) → ℕ → Bool
are_possible_but n spans leasts but = passes_below n (λ g. (g == but) || is_possible (least_at leasts g) (span_at spans g))

-- the bound of n graphs: the sum of all terms; none where a graph shows that the place has no solution
abbrev pub bound_of : ℕ → List Span → List (Option ℤ) → ℤ → Option ℤ
bound_of n spans leasts base =
    if passes_below n (λ g. is_possible (least_at leasts g) (span_at spans g))
    then Some (base +ℤ sum_below n (λ g. graph_term (least_at leasts g) (span_at spans g)))
    else None

-- what is told of the bound: its value, or else the first graph that has no walk and must have a path
abbrev pub IsBound : List Span → List (Option ℤ) → ℤ → Bound → Type 0
IsBound spans leasts base (Value b) = bound_of (length spans) spans leasts base ≡ Some b
IsBound spans leasts base (NoPaths g) = IsFirstFault (length spans) (λ h. is_possible (least_at leasts h) (span_at spans h) ≡ true) g

-- the bound is at most the scaled cost, and there is one
abbrev pub IsUnder : Bound → ℤ → Type 0
IsUnder (Value b) cost = b ≤ℤ scaled cost
IsUnder (NoPaths g) cost = ⊥

-- no plan with this bound costs less than z
abbrev pub Closes : Bound → ℤ → Type 0
Closes (Value b) z = scaled (z -ℤ pos 1) <ℤ b
Closes (NoPaths g) z = Unit {0}

-- how many paths there may be beside one
abbrev pub others : Span → Span
others span = record { low = int_max span.low (pos 1) -ℤ pos 1; high = span.high -ℤ pos 1 }

-- whether there is none
abbrev pub is_none : Option ℤ → Bool
is_none None = true
is_none (Some least) = false

-- every walk of graph g is above the limit: another graph shows that the place has no solution, or g has no walk, or it
-- may have no path
abbrev pub all_above : ℕ → List Span → List (Option ℤ) → ℕ → Bool
all_above n spans leasts g = not (are_possible_but n spans leasts g) || (is_none (least_at leasts g) || ends_at_zero (span_at spans g))

-- the limit of a walk of graph g against z: the greatest reduced cost that it may have in a solution that costs less
abbrev pub limit_of : ℕ → List Span → List (Option ℤ) → ℤ → ℕ → ℤ → Option ℤ
limit_of n spans leasts base g z =
    if all_above n spans leasts g
    then None
    else Some (scaled (z -ℤ pos 1) -ℤ base -ℤ terms_but n spans leasts g -ℤ graph_term (least_at leasts g) (others (span_at spans g)))
