-- What multipliers make of boxes: the sum of the terms, and the reduced costs of arcs, of visits and of the beginnings of
-- paths.
use Rattle.std.specs.Prelude.{◌≡◌, ℕ, ℤ, pos, neg_ℤ, ◌+ℤ◌, ◌-ℤ◌, ◌*ℤ◌, ◌==◌, Option, None, Some, if◌then◌else◌, List, [], ◌∷◌, ◌++◌, length, map, IsSome, slice_index, slice_index_or}
use Rattle.path_graph.specs.First.{IsFirstFault}
use Rattle.path_graph.specs.Fit.{int_at}
use Rattle.path_graph.specs.Sums.{sum_below, sum_over}
use Rattle.path_graph.specs.Visits.{visit_over, visits_along}
use Rattle.rank1_cuts.specs.declared.cut.Cut.{Cut}
use Rattle.rank1_cuts.specs.Visits.{coef_of}
use Rattle.route_model.specs.declared.multipliers.Mult.{Mult}
use Rattle.route_model.specs.declared.multipliers.MultFault.{MultFault}
use Rattle.route_model.specs.declared.multipliers.MultFault.TheVariants.{OpenSide, Memory}
use Rattle.route_model.specs.declared.multipliers.Priced.{Priced}
use Rattle.route_model.specs.declared.multipliers.Quantity.{Quantity}
use Rattle.route_model.specs.declared.multipliers.Quantity.TheVariants.{Row as OfRow}
use Rattle.route_model.specs.declared.parts.RowTerm.{RowTerm}
use Rattle.route_model.specs.declared.places.Boxes.{Boxes}
use Rattle.route_model.specs.Parts.{ModelParts, graph_in, mapped_vars, var_at, row_at, term_at}
use Rattle.multipliers.specs.Quantities.{AreDefined, HaveTerms, base, cut_at, quantities, scaled, term_of}

-- the coefficient of a variable in a row
abbrev pub coef_in : List RowTerm → ℕ → ℤ
coef_in terms j = sum_below (length terms) (λ k. if (term_at terms k).var == j then (term_at terms k).coef else pos 0)

-- what the multipliers of the rows take from a unit of a variable
abbrev pub rows_worth : ModelParts → Mult → ℕ → ℤ
rows_worth m mult j = sum_below (length m.rows) (λ i. int_at mult.rows i *ℤ coef_in (row_at m.rows i).terms j)

-- the reduced cost of a unit of a variable
abbrev pub reduced_unit : ModelParts → Mult → ℕ → ℤ
reduced_unit m mult j = scaled (var_at m.vars j).cost -ℤ int_at mult.vars j -ℤ rows_worth m mult j

-- that of an arc: of the variables that it maps
abbrev pub arc_cost : ModelParts → Mult → ℕ → ℕ → ℤ
arc_cost m mult g a = sum_over (reduced_unit m mult) (mapped_vars m.maps g a)

-- the multiplier that a visit meets
abbrev pub visit_mult : Mult → Option ℕ → ℤ
visit_mult mult None = pos 0
visit_mult mult (Some s) = int_at mult.sets s

-- the reduced cost of a path before its first arc
abbrev pub start_cost : Mult → ℕ → ℤ
start_cost mult g = neg_ℤ (int_at mult.paths g)

-- that of arcs, with the visits of their heads, and that of the cuts along them
abbrev pub arcs_cost : ModelParts → Mult → ℕ → List ℕ → ℤ
arcs_cost m mult g arcs = sum_over (λ a. arc_cost m mult g a -ℤ visit_mult mult (visit_over (graph_in m.graphs g) a)) arcs

abbrev pub cuts_cost : ModelParts → List Cut → Mult → ℕ → List ℕ → ℤ
cuts_cost m cuts mult g arcs = sum_below (length cuts) (λ c. pos (slice_index mult.cuts c) *ℤ pos (coef_of (cut_at cuts c) (visits_along (graph_in m.graphs g) arcs)))

-- the first quantity, in their order, whose multiplier needs an open side
pub record IsFirstOpen (m : ModelParts) (cuts : List Cut) (boxes : Boxes) (mult : Mult) (q : Quantity) : Type 0 where
  pub before : List Quantity
  pub after : List Quantity
  pub order : quantities m cuts ≡ before ++ q ∷ after
  pub defined : HaveTerms m cuts boxes mult before
  pub open_side : term_of m cuts boxes mult q ≡ None

abbrev pub IsMultFault : ModelParts → List Cut → Boxes → Mult → MultFault → Type 0
IsMultFault m cuts boxes mult (OpenSide q) = IsFirstOpen m cuts boxes mult q
IsMultFault m cuts boxes mult Memory = Unit {0}

-- the first row whose multiplier needs an open side
abbrev pub IsOpenRow : ModelParts → List Cut → Boxes → Mult → ℕ → Type 0
IsOpenRow m cuts boxes mult i = IsFirstFault (length m.rows) (λ k. IsSome (term_of m cuts boxes mult (OfRow k))) i

-- every term is defined, and these are their sum and the reduced costs of arcs, visits and starts
pub record IsPriced (m : ModelParts) (cuts : List Cut) (boxes : Boxes) (mult : Mult) (p : Priced) : Type 0 where
  pub defined : AreDefined m cuts boxes mult
  pub base : p.base ≡ base m cuts boxes mult
  pub arcs : p.arcs ≡ map (map (sum_over (reduced_unit m mult))) m.maps
  pub visits : p.visits ≡ map neg_ℤ mult.sets
  pub starts : p.starts ≡ map neg_ℤ mult.paths

-- what priced numbers make of a visit, and of arcs of a graph from the start of a path on, cuts aside
abbrev pub visit_cost : List ℤ → Option ℕ → ℤ
visit_cost visits None = pos 0
visit_cost visits (Some s) = int_at visits s

abbrev pub priced_walk : ModelParts → Priced → ℕ → List ℕ → ℤ
priced_walk m p g arcs =
    int_at p.starts g +ℤ sum_over (λ a. int_at (slice_index_or p.arcs g []) a +ℤ visit_cost p.visits (visit_over (graph_in m.graphs g) a)) arcs
