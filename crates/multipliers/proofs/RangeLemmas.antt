-- How far reduced costs along arcs are from 0, and the ranges of priced numbers.
use Rattle.std.proofs.Common.{◌≡◌, ℕ, zero, suc, ◌+◌, ◌*◌, ◌^◌, ◌<◌, ◌≤◌, ℤ, pos, neg_ℤ, ◌+ℤ◌, ◌-ℤ◌, ◌*ℤ◌, ◌≤ℤ◌, Bool, true, false, Option, None, Some, List, [], ◌∷◌, ◌++◌, length, All, unsigned_abs, refl, ◌∙◌, ap, mul-le-mul, mul-le-mul_left, mul-le-mul_right, ◌-◌, arith}
use Rattle.std.specs.Prelude.{IfSome, if◌then◌else◌, slice_index}
use Rattle.std.proofs.lemmas.Int.{ints}
use lib.IntN.{+ℤ_idr}
use Rattle.path_graph.specs.First.{EachBelow}
use Rattle.path_graph.specs.Fit.{int_at}
use Rattle.path_graph.specs.Sums.{sum_below}
use Rattle.path_graph.specs.Visits.{visit_over, visits_along}
use Rattle.path_graph.specs.Walk.{GraphParts, IsGraph, Leads, Passes, root_of, values_at_end}
use Rattle.path_graph.specs.Within.{IsWithin}
use Rattle.path_graph.proofs.LevelLemmas.{level_at_end, level_within}
use Rattle.path_graph.proofs.SumLemmas.{sum_over-append, within_abs}
use Rattle.path_graph.proofs.VisitLemmas.{visits_along-append}
use Rattle.path_graph.proofs.WalkLemmas.{end_within, leads_split, root_is_within, within_at_end}
use Rattle.rank1_cuts.specs.declared.cut.Cut.{Cut}
use Rattle.rank1_cuts.specs.Visits.{coef_of, rises, rises_from, state_after, state_from}
use Rattle.rank1_cuts.proofs.VisitsLemmas.{rises_from-more}
use Rattle.route_model.specs.declared.multipliers.Mult.{Mult}
use Rattle.route_model.specs.Fit.{ModelFits}
use Rattle.route_model.specs.Parts.{ModelParts, graph_in}
use Rattle.multipliers.specs.Priced.{arc_cost, arcs_cost, cuts_cost, start_cost, visit_mult}
use Rattle.multipliers.specs.Promise.{ArcsAddLittle, PartialWalksStayNear}
use Rattle.multipliers.specs.Quantities.{cut_at}
use Rattle.multipliers.specs.Ranges.{CutsFit, MultFits}
use Rattle.multipliers.proofs.CutLemmas.{no_set_past}
use Rattle.multipliers.proofs.NearLemmas.{arc_near}
use Rattle.multipliers.proofs.PricedLemmas.{reduced_along}

-- a visit meets a multiplier within 2^48 of 0
visit_near : (m : ModelParts) (mult : Mult) (visit : Option ℕ) → MultFits m mult → IfSome visit (λ s. s < m.sets) → IsWithin (2 ^ 48) (visit_mult mult visit)
visit_near m mult None mults declared = (omega (arith, ints), omega (arith, ints))
visit_near m mult (Some s) mults declared = mults.each_set s (pos 0) (omega (arith, mults.sets, declared))

-- one arc with its visit, and arcs that are there
abbrev one_arc : ModelParts → Mult → ℕ → ℕ → ℤ
one_arc m mult g a = arc_cost m mult g a -ℤ visit_mult mult (visit_over (graph_in m.graphs g) a)

one_near : (m : ModelParts) (mult : Mult) (g a : ℕ) → ModelFits m → MultFits m mult → g < length m.graphs → a < length (graph_in m.graphs g).arcs → IsWithin (2 ^ 72 + 2 ^ 53 + 2 ^ 48) (one_arc m mult g a)
one_near m mult g a fits mults inside below =
    let arc = arc_near m mult g a fits mults inside below in
    let visit = visit_near m mult (visit_over (graph_in m.graphs g) a) mults (no_set_past (graph_in m.graphs g).vertices m.sets _ (fits.graphs.each g _ inside).declared) in
    joined (arc_cost m mult g a) (visit_mult mult (visit_over (graph_in m.graphs g) a)) arc visit
  where
    joined : (x y : ℤ) → IsWithin (2 ^ 72 + 2 ^ 53) x → IsWithin (2 ^ 48) y → IsWithin (2 ^ 72 + 2 ^ 53 + 2 ^ 48) (x -ℤ y)
    joined x y h k = (omega (arith, ints, h.0, k.1), omega (arith, ints, h.1, k.0))

arcs_stay : (m : ModelParts) (mult : Mult) (g v w : ℕ) (arcs : List ℕ) → ModelFits m → MultFits m mult → g < length m.graphs → Leads (graph_in m.graphs g) v arcs w
    → IsWithin (length arcs * (2 ^ 72 + 2 ^ 53 + 2 ^ 48)) (arcs_cost m mult g arcs)
arcs_stay m mult g v w [] fits mults inside leads = (omega (arith, ints), omega (arith, ints))
arcs_stay m mult g v w (a ∷ arcs) fits mults inside leads =
    let here = one_near m mult g a fits mults inside leads.0 in
    let rest = arcs_stay m mult g _ w arcs fits mults inside leads.2 in
    joined (length arcs) (one_arc m mult g a) (arcs_cost m mult g arcs) here rest
  where
    joined : (n : ℕ) (x y : ℤ) → IsWithin (2 ^ 72 + 2 ^ 53 + 2 ^ 48) x → IsWithin (n * (2 ^ 72 + 2 ^ 53 + 2 ^ 48)) y → IsWithin (suc n * (2 ^ 72 + 2 ^ 53 + 2 ^ 48)) (x +ℤ y)
    joined n x y h k = (omega (arith, ints, h.0, k.0), omega (arith, ints, h.1, k.1))

-- the coefficient of a cut is at most the number of visits
coef_most : (cut : Cut) (state : ℕ) (visits : List (Option ℕ)) → rises_from cut state visits ≤ length visits
coef_most cut state [] = omega arith
coef_most cut state (visit ∷ visits) = either (rises cut state visit) (coef_most cut (state_after cut state visit) visits)
  where
    either : (b : Bool) → rises_from cut (state_after cut state visit) visits ≤ length visits → (if b then 1 else 0) + rises_from cut (state_after cut state visit) visits ≤ suc (length visits)
    either true h = omega (arith, h)
    either false h = omega (arith, h)

-- multiples of numbers, each multiplier at most 2^48
sum_upto : (n k : ℕ) (y : List ℕ) (c : ℕ → ℕ) → All (λ (x : ℕ). x ≤ 2 ^ 48) y → n ≤ length y → EachBelow n (λ i. c i ≤ k)
    → (pos 0 ≤ℤ sum_below n (λ i. pos (slice_index y i) *ℤ pos (c i))) × (sum_below n (λ i. pos (slice_index y i) *ℤ pos (c i)) ≤ℤ pos (n * (2 ^ 48 * k)))
sum_upto zero k y c small few each = (omega (arith, ints), omega (arith, ints))
sum_upto (suc n) k y c small few each =
    let before = sum_upto n k y c small (omega (arith, few)) (λ i l. each i (omega (arith, l))) in
    let times : slice_index y n * c n ≤ 2 ^ 48 * k = mul-le-mul (small n 0 (omega (arith, few))) (each n (omega arith)) in
    joined (sum_below n (λ i. pos (slice_index y i) *ℤ pos (c i))) (slice_index y n * c n) (2 ^ 48 * k) before times
  where
    joined : (s : ℤ) (x t : ℕ) → (pos 0 ≤ℤ s) × (s ≤ℤ pos (n * t)) → x ≤ t → (pos 0 ≤ℤ (s +ℤ pos x)) × ((s +ℤ pos x) ≤ℤ pos (suc n * t))
    joined s x t h l = (omega (arith, ints, h.0), omega (arith, ints, h.1, l))

-- multiples of numbers of which each rises by at most 1
sum_rises : (n : ℕ) (y : List ℕ) (c d : ℕ → ℕ) → All (λ (x : ℕ). x ≤ 2 ^ 48) y → n ≤ length y → EachBelow n (λ i. (c i ≤ d i) × (d i ≤ c i + 1))
    → (sum_below n (λ i. pos (slice_index y i) *ℤ pos (c i)) ≤ℤ sum_below n (λ i. pos (slice_index y i) *ℤ pos (d i)))
    × (sum_below n (λ i. pos (slice_index y i) *ℤ pos (d i)) ≤ℤ (sum_below n (λ i. pos (slice_index y i) *ℤ pos (c i)) +ℤ pos (n * 2 ^ 48)))
sum_rises zero y c d small few each = (omega (arith, ints), omega (arith, ints))
sum_rises (suc n) y c d small few each =
    let before = sum_rises n y c d small (omega (arith, few)) (λ i l. each i (omega (arith, l))) in
    let here = each n (omega arith) in
    let weight : slice_index y n ≤ 2 ^ 48 = small n 0 (omega (arith, few)) in
    let low : slice_index y n * c n ≤ slice_index y n * d n = mul-le-mul_left (slice_index y n) here.0 in
    let high : slice_index y n * d n ≤ slice_index y n * (c n + 1) = mul-le-mul_left (slice_index y n) here.1 in
    joined (sum_below n (λ i. pos (slice_index y i) *ℤ pos (c i))) (sum_below n (λ i. pos (slice_index y i) *ℤ pos (d i))) (slice_index y n) (c n) (slice_index y n * c n) (slice_index y n * d n) before weight low high refl
  where
    joined : (s t : ℤ) (w k x z : ℕ) → (s ≤ℤ t) × (t ≤ℤ (s +ℤ pos (n * 2 ^ 48))) → w ≤ 2 ^ 48 → x ≤ z → z ≤ w * (k + 1) → x ≡ w * k → ((s +ℤ pos x) ≤ℤ (t +ℤ pos z)) × ((t +ℤ pos z) ≤ℤ ((s +ℤ pos x) +ℤ pos (suc n * 2 ^ 48)))
    joined s t w k x z h l a b e = (omega (arith, ints, h.0, a), omega (arith, ints, h.1, l, b, e))

-- the reduced cost of one arc more, which is the last
more_arcs : (m : ModelParts) (mult : Mult) (g a : ℕ) (arcs : List ℕ) → arcs_cost m mult g (arcs ++ a ∷ []) ≡ arcs_cost m mult g arcs +ℤ one_arc m mult g a
more_arcs m mult g a arcs =
    sum_over-append (one_arc m mult g) arcs (a ∷ []) ∙ ap (λ (z : ℤ). arcs_cost m mult g arcs +ℤ z) (+ℤ_idr (one_arc m mult g a))

more_coef : (cut : Cut) (g : GraphParts) (a : ℕ) (arcs : List ℕ) → (coef_of cut (visits_along g arcs) ≤ coef_of cut (visits_along g (arcs ++ a ∷ []))) × (coef_of cut (visits_along g (arcs ++ a ∷ [])) ≤ coef_of cut (visits_along g arcs) + 1)
more_coef cut g a arcs =
    let visits : List (Option ℕ) = visits_along g arcs in
    let is = ap (coef_of cut) (visits_along-append g arcs (a ∷ [])) ∙ rises_from-more cut 0 visits (visit_over g a) in
    either (rises cut (state_from cut 0 visits) (visit_over g a)) is
  where
    either : (b : Bool) {n k : ℕ} → k ≡ n + (if b then 1 else 0) → (n ≤ k) × (k ≤ n + 1)
    either true e = (omega (arith, e), omega (arith, e))
    either false e = (omega (arith, e), omega (arith, e))

pub arcs_add_little : (m : ModelParts) (cuts : List Cut) (mult : Mult) → ModelFits m → MultFits m mult → CutsFit cuts mult → ArcsAddLittle m cuts mult
arcs_add_little m cuts mult fits mults cuts_fit g v w a arcs inside leads =
    let graph : GraphParts = graph_in m.graphs g in
    let split = leads_split graph v arcs (a ∷ []) w leads in
    let long = reduced_along m cuts mult g v w (arcs ++ a ∷ []) fits inside leads in
    let short = reduced_along m cuts mult g v split.0 arcs fits inside split.1 in
    let one = one_near m mult g a fits mults inside split.2.0 in
    let rise = sum_rises (length cuts) mult.cuts (λ c. coef_of (cut_at cuts c) (visits_along graph arcs)) (λ c. coef_of (cut_at cuts c) (visits_along graph (arcs ++ a ∷ [])))
    cuts_fit.each_mult (omega (arith, cuts_fit.count)) (λ c l. more_coef (cut_at cuts c) graph a arcs) in
    joined (length cuts) _ _ (start_cost mult g) (arcs_cost m mult g arcs) _ (one_arc m mult g a) (cuts_cost m cuts mult g arcs) (cuts_cost m cuts mult g (arcs ++ a ∷ []))
    cuts_fit.few long short (more_arcs m mult g a arcs) one rise
  where
    joined : (n : ℕ) (long short start some more one before after : ℤ) → n ≤ 64 → long ≡ start +ℤ (more +ℤ after) → short ≡ start +ℤ (some +ℤ before) → more ≡ some +ℤ one → IsWithin (2 ^ 72 + 2 ^ 53 + 2 ^ 48) one
        → (before ≤ℤ after) × (after ≤ℤ (before +ℤ pos (n * 2 ^ 48))) → unsigned_abs (long -ℤ short) < 2 ^ 72 + 2 ^ 55
    joined n long short start some more one before after few e f h near rise =
        let low : neg_ℤ (pos (2 ^ 72 + 2 ^ 55 - 1)) ≤ℤ (long -ℤ short) = omega (arith, ints, e, f, h, near.0, rise.0) in
        let high : (long -ℤ short) ≤ℤ pos (2 ^ 72 + 2 ^ 55 - 1) = omega (arith, ints, few, e, f, h, near.1, rise.1) in
        let near_all = within_abs (2 ^ 72 + 2 ^ 55 - 1) (long -ℤ short) (low, high) in
        omega (arith, near_all)

-- a partial walk has at most 2^39 arcs
walk_arcs : (g : GraphParts) (xs : List ℕ) (w : ℕ) → IsGraph g → Leads g g.ends.source xs w → Passes g (root_of g) xs → length xs ≤ 2 ^ 39
walk_arcs g xs w graph h p =
    let source = graph.fits.ends_fit.source in
    let root = root_is_within g graph in
    let first = level_within g g.ends.source (root_of g) graph source root in
    let last = level_within g w (values_at_end g (root_of g) xs) graph (end_within g g.ends.source xs w graph source h) (within_at_end g g.ends.source (root_of g) xs w h p root) in
    omega (arith, ints, level_at_end g g.ends.source (root_of g) xs w graph h, first.0, last.1)

length-visits : (g : GraphParts) (arcs : List ℕ) → length (visits_along g arcs) ≡ length arcs
length-visits g [] = refl
length-visits g (a ∷ arcs) = ap suc (length-visits g arcs)

pub partial_walks_stay_near : (m : ModelParts) (cuts : List Cut) (mult : Mult) → ModelFits m → MultFits m mult → CutsFit cuts mult → PartialWalksStayNear m cuts mult
partial_walks_stay_near m cuts mult fits mults cuts_fit g w arcs value inside partial =
    let graph : GraphParts = graph_in m.graphs g in
    let few = walk_arcs graph arcs w (fits.graphs.each g _ inside).graph partial.leads partial.passes in
    let is = reduced_along m cuts mult g graph.ends.source w arcs fits inside partial.leads in
    let start = mults.each_path g (pos 0) (omega (arith, mults.paths, inside)) in
    let stay = arcs_stay m mult g graph.ends.source w arcs fits mults inside partial.leads in
    let count = length-visits graph arcs in
    let sum = sum_upto (length cuts) (length arcs) mult.cuts (λ c. coef_of (cut_at cuts c) (visits_along graph arcs)) cuts_fit.each_mult (omega (arith, cuts_fit.count))
    (λ c l. omega (arith, count, coef_most (cut_at cuts c) 0 (visits_along graph arcs))) in
    let most : length cuts * (2 ^ 48 * length arcs) ≤ 64 * (2 ^ 48 * length arcs) = mul-le-mul_right (2 ^ 48 * length arcs) cuts_fit.few in
    joined (length arcs) (length cuts * (2 ^ 48 * length arcs)) _ (int_at mult.paths g) (arcs_cost m mult g arcs) (cuts_cost m cuts mult g arcs) few is start stay sum most
  where
    joined : (n k : ℕ) (all path some cut : ℤ) → n ≤ 2 ^ 39 → all ≡ neg_ℤ path +ℤ (some +ℤ cut) → IsWithin (2 ^ 48) path → IsWithin (n * (2 ^ 72 + 2 ^ 53 + 2 ^ 48)) some → (pos 0 ≤ℤ cut) × (cut ≤ℤ pos k) → k ≤ 64 * (2 ^ 48 * n) → unsigned_abs all < 2 ^ 112
    joined n k all path some cut few e start near sum most =
        let low : neg_ℤ (pos (2 ^ 112 - 1)) ≤ℤ all = omega (arith, ints, few, e, start.1, near.0, sum.0) in
        let high : all ≤ℤ pos (2 ^ 112 - 1) = omega (arith, ints, few, e, start.0, near.1, sum.1, most) in
        let near_all = within_abs (2 ^ 112 - 1) all (low, high) in
        omega (arith, near_all)
