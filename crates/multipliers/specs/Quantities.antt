-- The quantities of a model with cuts: what a walk and a plan have of each, where it must lie, and what a multiplier on it
-- is worth.
use Rattle.std.specs.Prelude.{ℕ, ℤ, pos, neg_ℤ, ◌-ℤ◌, ◌*ℤ◌, Option, IsSome, List, [], ◌++◌, length, map, All, slice_index, slice_index_or}
use Rattle.std.specs.List.{range_with_len}
use Rattle.path_graph.specs.Fit.{int_at}
use Rattle.path_graph.specs.Sums.{sum_below, sum_over}
use Rattle.path_graph.specs.Visits.{visits_along}
use Rattle.rank1_cuts.specs.declared.cut.Cut.{Cut}
use Rattle.rank1_cuts.specs.Fit.{right_side_of}
use Rattle.rank1_cuts.specs.Visits.{coef_of}
use Rattle.route_model.specs.declared.limits.TheConstants.{SCALE}
use Rattle.route_model.specs.declared.multipliers.Mult.{Mult}
use Rattle.route_model.specs.declared.multipliers.Quantity.{Quantity}
use Rattle.route_model.specs.declared.multipliers.Quantity.TheVariants.{Var as OfVar, Row as OfRow, Set as OfSet, Cut as OfCut, Paths as OfPaths}
use Rattle.route_model.specs.declared.parts.RowTerm.{RowTerm}
use Rattle.route_model.specs.declared.places.Boxes.{Boxes}
use Rattle.route_model.specs.declared.plan.Plan.{Plan}
use Rattle.route_model.specs.Parts.{ModelParts, graph_in, var_at, row_at, term_at}
use Rattle.route_model.specs.Places.{span_at}
use Rattle.route_model.specs.Quantities.{uses_in, visits_in, is_of}
use Rattle.route_model.specs.Terms.{Sides, or_zero, sides_of, sides_of_row, term, up_to}

-- a cut by number; nothing is said of a number past the end
abbrev pub cut_at : List Cut → ℕ → Cut
cut_at cuts c = slice_index_or cuts c (record { den = 0; sets = []; memory = record { bits = [] } })

-- the quantities in order: the variables, the rows, the packing sets, the cuts, the path counts
abbrev pub quantities : ModelParts → List Cut → List Quantity
quantities m cuts =
    map (λ j. OfVar j) (range_with_len 0 (length m.vars))
    ++ (map (λ i. OfRow i) (range_with_len 0 (length m.rows))
    ++ (map (λ s. OfSet s) (range_with_len 0 m.sets)
    ++ (map (λ c. OfCut c) (range_with_len 0 (length cuts))
    ++ map (λ g. OfPaths g) (range_with_len 0 (length m.graphs)))))

-- what a walk, by its graph and arcs, costs, and its part of the sum of a row
abbrev pub cost_along : ModelParts → ℕ → List ℕ → ℤ
cost_along m g arcs = sum_below (length m.vars) (λ j. (var_at m.vars j).cost *ℤ pos (uses_in m.maps j g arcs))

abbrev pub row_along : ModelParts → List RowTerm → ℕ → List ℕ → ℤ
row_along m terms g arcs = sum_below (length terms) (λ k. (term_at terms k).coef *ℤ pos (uses_in m.maps (term_at terms k).var g arcs))

-- what a walk has of a quantity: its uses of a variable, its sum of a row, its visits to a set, its coefficient of a cut,
-- and 1 of the path count of its graph
abbrev pub amount : ModelParts → List Cut → Quantity → ℕ → List ℕ → ℤ
amount m cuts (OfVar j) g arcs = pos (uses_in m.maps j g arcs)
amount m cuts (OfRow i) g arcs = row_along m (row_at m.rows i).terms g arcs
amount m cuts (OfSet s) g arcs = pos (visits_in m.graphs s g arcs)
amount m cuts (OfCut c) g arcs = pos (coef_of (cut_at cuts c) (visits_along (graph_in m.graphs g) arcs))
amount m cuts (OfPaths h) g arcs = pos (is_of h g arcs)

-- a signed number of each walk, summed over the paths of a plan, counts included
abbrev pub plan_sum : (ℕ → List ℕ → ℤ) → Plan → ℤ
plan_sum of_walk plan = sum_over (λ t. pos t.count *ℤ of_walk t.graph t.arcs) plan.paths

-- what a plan has of a quantity
abbrev pub amount_in : ModelParts → List Cut → Quantity → Plan → ℤ
amount_in m cuts q plan = plan_sum (amount m cuts q) plan

-- where a quantity must lie: the box of a variable or path count, the sides of a row, 0..1 for a set, 0..right side for a
-- cut
abbrev pub box_at : ModelParts → List Cut → Boxes → Quantity → Sides
box_at m cuts boxes (OfVar j) = sides_of (span_at boxes.vars j)
box_at m cuts boxes (OfRow i) = sides_of_row (row_at m.rows i)
box_at m cuts boxes (OfSet s) = up_to 1
box_at m cuts boxes (OfCut c) = up_to (right_side_of (cut_at cuts c))
box_at m cuts boxes (OfPaths g) = sides_of (span_at boxes.paths g)

-- the multiplier on a quantity
abbrev pub mult_at : Mult → Quantity → ℤ
mult_at mult (OfVar j) = int_at mult.vars j
mult_at mult (OfRow i) = int_at mult.rows i
mult_at mult (OfSet s) = int_at mult.sets s
mult_at mult (OfCut c) = neg_ℤ (pos (slice_index mult.cuts c))
mult_at mult (OfPaths g) = int_at mult.paths g

-- the term of a quantity; none where its multiplier needs an open side
abbrev pub term_of : ModelParts → List Cut → Boxes → Mult → Quantity → Option ℤ
term_of m cuts boxes mult q = term (mult_at mult q) (box_at m cuts boxes q)

-- the terms of these quantities are defined: no multiplier needs an open side
abbrev pub HaveTerms : ModelParts → List Cut → Boxes → Mult → List Quantity → Type 0
HaveTerms m cuts boxes mult qs = All (λ q. IsSome (term_of m cuts boxes mult q)) qs

abbrev pub AreDefined : ModelParts → List Cut → Boxes → Mult → Type 0
AreDefined m cuts boxes mult = HaveTerms m cuts boxes mult (quantities m cuts)

-- the sum of all terms
abbrev pub base : ModelParts → List Cut → Boxes → Mult → ℤ
base m cuts boxes mult = sum_over (λ q. or_zero (term_of m cuts boxes mult q)) (quantities m cuts)

-- costs at the scale of multipliers
abbrev pub scaled : ℤ → ℤ
scaled cost = SCALE *ℤ cost

-- the sum of multiplier × quantity, for what is had of each quantity
abbrev pub weighted : ModelParts → List Cut → Mult → (Quantity → ℤ) → ℤ
weighted m cuts mult had = sum_over (λ q. mult_at mult q *ℤ had q) (quantities m cuts)

-- the reduced cost of a walk
abbrev pub reduced_cost : ModelParts → List Cut → Mult → ℕ → List ℕ → ℤ
reduced_cost m cuts mult g arcs = scaled (cost_along m g arcs) -ℤ weighted m cuts mult (λ q. amount m cuts q g arcs)
