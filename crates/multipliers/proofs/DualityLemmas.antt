-- Weak duality: the terms of any multipliers and the reduced costs of the walks bound the cost of a solution.
use Rattle.std.proofs.Common.{◌≡◌, ℕ, zero, suc, ◌<◌, ◌≤◌, ℤ, pos, negsuc, ◌+ℤ◌, ◌*ℤ◌, ◌≤ℤ◌, List, length, Option, None, Some, All, get_or, refl, sym, ◌∙◌, ap, subst, arith}
use Rattle.std.specs.Prelude.{option_map, IfSome, IsSome}
use Rattle.std.specs.List.{range_with_len}
use Rattle.std.proofs.lemmas.Int.{ints}
use Rattle.std.proofs.lemmas.List.Elements.{All-append, All-map}
use Rattle.std.proofs.lemmas.List.FromFn.{length-range_with_len, get_or-range_with_len}
use lib.IntN.{zero-*ℤ}
use Rattle.path_graph.specs.Sums.{sum_below}
use Rattle.rank1_cuts.specs.declared.cut.Cut.{Cut}
use Rattle.rank1_cuts.specs.Fit.{CutFits, right_side_of}
use Rattle.rank1_cuts.specs.Visits.{coef_of}
use Rattle.route_model.specs.declared.parts.RowTerm.{RowTerm}
use Rattle.route_model.specs.declared.plan.Plan.{Plan}
use Rattle.path_graph.specs.First.{EachBelow}
use Rattle.route_model.specs.Fit.{ModelFits}
use Rattle.route_model.specs.Parts.{ModelParts, graph_in, var_at, row_at, term_at}
use Rattle.route_model.specs.Quantities.{quantity, uses_in, visits_in, is_of, visits_of, row_sum, cost_of}
use Rattle.route_model.specs.Solution.{IsBetween}
use Rattle.route_model.specs.declared.places.Boxes.{Boxes}
use Rattle.route_model.specs.declared.multipliers.Mult.{Mult}
use Rattle.route_model.specs.declared.multipliers.Quantity.{Quantity}
use Rattle.route_model.specs.declared.multipliers.Quantity.TheVariants.{Var as OfVar, Row as OfRow, Set as OfSet, Cut as OfCut, Paths as OfPaths}
use Rattle.multipliers.specs.Quantities.{plan_sum, AreDefined, amount, amount_in, base, box_at, cost_along, cut_at, mult_at, quantities, reduced_cost, row_along, scaled, term_of, weighted}
use Rattle.route_model.specs.Terms.{Sides, or_zero, sides_of, term, up_to}
use Rattle.route_model.specs.declared.places.Span.{Span}
use Rattle.route_model.specs.Places.{IsInSpan, SolvesWithin}
use Rattle.path_graph.specs.Visits.{visits_along}
use Rattle.path_graph.proofs.IntLemmas.{pos_mul-≤, negsuc_mul-≤, put_back}
use Rattle.path_graph.proofs.SumLemmas.{sum_over-≤}
use Rattle.multipliers.proofs.PlanSumLemmas.{plan_sum-scale, plan_sum-add, plan_sum-over, plan_sum-below, plan_sum-pos}
use Rattle.multipliers.proofs.CutLemmas.{cut_kept}

-- sums of multiples of quantities, as costs and rows are
pub below_quantity : (a : ℕ → ℤ) (f : ℕ → ℕ → List ℕ → ℕ) (n : ℕ) (plan : Plan) → sum_below n (λ j. a j *ℤ pos (quantity (f j) plan)) ≡ plan_sum (λ g arcs. sum_below n (λ j. a j *ℤ pos (f j g arcs))) plan
below_quantity a f n plan =
    (λ i. sum_below n (λ j. a j *ℤ sym (plan_sum-pos (f j) plan) i)) ∙ plan_sum-below a (λ j g arcs. pos (f j g arcs)) n plan

pub cost_of-is : (m : ModelParts) (plan : Plan) → cost_of m plan ≡ plan_sum (cost_along m) plan
cost_of-is m plan = below_quantity (λ j. (var_at m.vars j).cost) (λ j. uses_in m.maps j) (length m.vars) plan

pub row_sum-is : (m : ModelParts) (terms : List RowTerm) (plan : Plan) → row_sum m plan terms ≡ plan_sum (row_along m terms) plan
row_sum-is m terms plan = below_quantity (λ k. (term_at terms k).coef) (λ k. uses_in m.maps (term_at terms k).var) (length terms) plan

-- the cost of a plan is what the multipliers say of its quantities, and the reduced_cost costs of its walks
pub scaled_cost : (m : ModelParts) (cuts : List Cut) (mult : Mult) (plan : Plan)
    → scaled (cost_of m plan) ≡ weighted m cuts mult (λ q. amount_in m cuts q plan) +ℤ plan_sum (reduced_cost m cuts mult) plan
scaled_cost m cuts mult plan =
    let had : ℕ → List ℕ → ℤ = λ g arcs. weighted m cuts mult (λ q. amount m cuts q g arcs) in
    ap scaled (cost_of-is m plan)
    ∙ (sym (plan_sum-scale (pos 65536) (cost_along m) plan)
    ∙ ((λ i. plan_sum (λ g arcs. put_back (had g arcs) (scaled (cost_along m g arcs)) i) plan)
    ∙ (plan_sum-add had (reduced_cost m cuts mult) plan
    ∙ ap (λ (z : ℤ). z +ℤ plan_sum (reduced_cost m cuts mult) plan) (sym (plan_sum-over (mult_at mult) (amount m cuts) (quantities m cuts) plan)))))

-- a defined term is at most the multiplier times a number between the sides
at_low : (n : ℕ) (low : Option ℤ) (x : ℤ) → IfSome low (λ l. l ≤ℤ x) → IsSome (option_map (λ l. pos n *ℤ l) low) → or_zero (option_map (λ l. pos n *ℤ l) low) ≤ℤ (pos n *ℤ x)
at_low n None x h none = cc
at_low n (Some l) x h defined = pos_mul-≤ n l x h

at_high : (n : ℕ) (high : Option ℤ) (x : ℤ) → IfSome high (λ h. x ≤ℤ h) → IsSome (option_map (λ h. negsuc n *ℤ h) high) → or_zero (option_map (λ h. negsuc n *ℤ h) high) ≤ℤ (negsuc n *ℤ x)
at_high n None x h none = cc
at_high n (Some l) x h defined = negsuc_mul-≤ n x l h

pub term-≤ : (k x : ℤ) (sides : Sides) → IsBetween sides.low sides.high x → IsSome (term k sides) → or_zero (term k sides) ≤ℤ (k *ℤ x)
term-≤ (pos zero) x sides between defined = omega (arith, ints, zero-*ℤ x)
term-≤ (pos (suc n)) x sides between defined = at_low (suc n) sides.low x between.0 defined
term-≤ (negsuc n) x sides between defined = at_high n sides.high x between.1 defined

-- a term over a box is defined, and at most the multiplier times a number in the box
pub defined_in : (k low high : ℤ) → IsSome (term k (record { low = Some low; high = Some high }))
defined_in (pos zero) low high = refl
defined_in (pos (suc n)) low high = refl
defined_in (negsuc n) low high = refl

pub term_in : (k x : ℤ) (span : Span) → IsInSpan span x → or_zero (term k (sides_of span)) ≤ℤ (k *ℤ x)
term_in k x span inside = term-≤ k x (sides_of span) inside (defined_in k span.low span.high)

-- what holds of each quantity of each kind holds of all quantities
pub All-range : (P : ℕ → Type 0) (n : ℕ) → EachBelow n P → All P (range_with_len 0 n)
All-range P n each k d below =
    let inside : k < n = omega (arith, length-range_with_len 0 n) in
    let is : k ≡ get_or (range_with_len 0 n) k d = omega (arith, get_or-range_with_len 0 n k d inside) in
    subst P is (each k inside)

pub all_quantities : (m : ModelParts) (cuts : List Cut) (P : Quantity → Type 0)
    → EachBelow (length m.vars) (λ j. P (OfVar j)) → EachBelow (length m.rows) (λ i. P (OfRow i)) → EachBelow m.sets (λ s. P (OfSet s))
    → EachBelow (length cuts) (λ c. P (OfCut c)) → EachBelow (length m.graphs) (λ g. P (OfPaths g)) → All P (quantities m cuts)
all_quantities m cuts P vars rows sets cut paths =
    let kind = λ (f : ℕ → Quantity) (n : ℕ) (each : EachBelow n (λ k. P (f k))). All-map P f (range_with_len 0 n) (All-range (λ k. P (f k)) n each) in
    All-append P _ _ (kind (λ j. OfVar j) (length m.vars) vars)
    (All-append P _ _ (kind (λ i. OfRow i) (length m.rows) rows)
    (All-append P _ _ (kind (λ s. OfSet s) m.sets sets)
    (All-append P _ _ (kind (λ c. OfCut c) (length cuts) cut)
    (kind (λ g. OfPaths g) (length m.graphs) paths))))

-- each quantity of a solution lies in its box: one line for each kind
abbrev IsIn : Sides → ℤ → Type 0
IsIn sides x = IsBetween sides.low sides.high x

at_most : (n k : ℕ) → k ≤ n → IsIn (up_to n) (pos k)
at_most n k h = (omega (arith, ints), omega (arith, ints))

pub all_lie : (m : ModelParts) (cuts : List Cut) (boxes : Boxes) (plan : Plan) → ModelFits m → All CutFits cuts → SolvesWithin m boxes plan
    → All (λ q. IsIn (box_at m cuts boxes q) (amount_in m cuts q plan)) (quantities m cuts)
all_lie m cuts boxes plan fits cut_fits s =
    let box = box_at m cuts boxes in
    let counted = λ (sides : Sides) (f : ℕ → List ℕ → ℕ) (h : IsIn sides (pos (quantity f plan))). subst (IsIn sides) (sym (plan_sum-pos f plan)) h in
    let coef = λ (c g : ℕ) (arcs : List ℕ). coef_of (cut_at cuts c) (visits_along (graph_in m.graphs g) arcs) in
    all_quantities m cuts (λ q. IsIn (box q) (amount_in m cuts q plan))
    (λ j l. counted (box (OfVar j)) (uses_in m.maps j) (s.vars j l))
    (λ i l. subst (IsIn (box (OfRow i))) (row_sum-is m (row_at m.rows i).terms plan) (s.solution.rows i l))
    (λ k l. counted (box (OfSet k)) (visits_in m.graphs k) (at_most 1 (visits_of m plan k) (s.solution.sets k l)))
    (λ c l. counted (box (OfCut c)) (coef c) (at_most (right_side_of (cut_at cuts c)) (quantity (coef c) plan) (cut_kept m (cut_at cuts c) plan fits (cut_fits c _ l) s.solution)))
    (λ g l. counted (box (OfPaths g)) (is_of g) (s.paths g l))

-- the terms and the reduced_cost costs are at most the cost
pub weak_duality : (m : ModelParts) (cuts : List Cut) (boxes : Boxes) (mult : Mult) (plan : Plan)
    → ModelFits m → All CutFits cuts → SolvesWithin m boxes plan → AreDefined m cuts boxes mult
    → (base m cuts boxes mult +ℤ plan_sum (reduced_cost m cuts mult) plan) ≤ℤ scaled (cost_of m plan)
weak_duality m cuts boxes mult plan fits cut_fits s defined =
    let lie = all_lie m cuts boxes plan fits cut_fits s in
    let terms = sum_over-≤ (λ q. or_zero (term_of m cuts boxes mult q)) (λ q. mult_at mult q *ℤ amount_in m cuts q plan) (quantities m cuts)
    (λ k d l. let q = get_or (quantities m cuts) k d in term-≤ (mult_at mult q) (amount_in m cuts q plan) (box_at m cuts boxes q) (lie k d l) (defined k d l)) in
    joined (base m cuts boxes mult) (weighted m cuts mult (λ q. amount_in m cuts q plan)) (plan_sum (reduced_cost m cuts mult) plan) (scaled (cost_of m plan)) terms (scaled_cost m cuts mult plan)
  where
    joined : (b w r c : ℤ) → b ≤ℤ w → c ≡ w +ℤ r → (b +ℤ r) ≤ℤ c
    joined b w r c h e = omega (arith, ints)
