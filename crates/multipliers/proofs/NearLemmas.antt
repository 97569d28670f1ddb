-- How far reduced costs of units and arcs are from 0: what the limit on the coefficients of a variable is for.
use Rattle.std.proofs.Common.{◌≡◌, ℕ, zero, suc, ◌+◌, ◌*◌, ◌^◌, ◌<◌, ◌≤◌, ◌==◌, ℤ, pos, neg_ℤ, ◌+ℤ◌, ◌-ℤ◌, Bool, true, false, List, [], ◌∷◌, All, length, map, take, get_or, unsigned_abs, mul-add, ap, subst, sym, ◌∙◌, arith}
use Rattle.std.specs.Prelude.{if◌then◌else◌}
use Rattle.std.proofs.lemmas.Int.{ints}
use Rattle.std.proofs.lemmas.List.{take_all}
use Rattle.std.proofs.lemmas.List.Elements.{All-map}
use Rattle.std.proofs.lemmas.List.Sums.{sum_by_more}
use Rattle.path_graph.specs.Fit.{int_at}
use Rattle.path_graph.specs.Within.{IsWithin}
use Rattle.path_graph.proofs.SumLemmas.{abs_within, product_within}
use Rattle.route_model.specs.declared.parts.Row.{Row}
use Rattle.route_model.specs.declared.parts.RowTerm.{RowTerm}
use Rattle.route_model.specs.Fit.{MapFits, ModelFits, row_coef, total_coef}
use Rattle.route_model.specs.Parts.{ModelParts, graph_in, mapped_vars, row_at, term_at, var_at}
use Rattle.route_model.specs.declared.multipliers.Mult.{Mult}
use Rattle.multipliers.specs.Priced.{arc_cost, coef_in, reduced_unit}
use Rattle.multipliers.specs.Quantities.{scaled}
use Rattle.multipliers.specs.Ranges.{MultFits}
use Rattle.path_graph.specs.Sums.{sum_over}
use Rattle.multipliers.proofs.ArcLemmas.{all_maps_fit}
use Rattle.multipliers.proofs.UnitLemmas.{coef_below, worth_below}

-- the coefficient of a variable in a row is within its absolute coefficients
coef_near : (terms : List RowTerm) (n j : ℕ) → n ≤ length terms → IsWithin (row_coef j (take n terms)) (coef_below terms n j)
coef_near terms zero j few = (omega (arith, ints), omega (arith, ints))
coef_near terms (suc n) j few =
    let before = coef_near terms n j (omega arith) in
    let t : RowTerm = term_at terms n in
    let next : suc n ≡ n + 1 = omega arith in
    let more = sum_by_more (λ (u : RowTerm). if u.var == j then unsigned_abs u.coef else 0) terms n (term_at [] 0) (omega arith) in
    subst (λ (k : ℕ). IsWithin (row_coef j (take k terms)) (coef_below terms (suc n) j)) (sym next)
    (subst (λ (k : ℕ). IsWithin k (coef_below terms (suc n) j)) (sym more) (either (t.var == j) (row_coef j (take n terms)) (coef_below terms n j) t.coef before))
  where
    either : (b : Bool) (k : ℕ) (s c : ℤ) → IsWithin k s → IsWithin (k + (if b then unsigned_abs c else 0)) (s +ℤ (if b then c else pos 0))
    either true k s c h = let near = abs_within (unsigned_abs c) c (omega arith) in (omega (arith, ints, h.0, near.0), omega (arith, ints, h.1, near.1))
    either false k s c h = (omega (arith, ints, h.0), omega (arith, ints, h.1))

pub row_near : (terms : List RowTerm) (j : ℕ) → IsWithin (row_coef j terms) (coef_in terms j)
row_near terms j = subst (λ (xs : List RowTerm). IsWithin (row_coef j xs) (coef_in terms j)) (take_all (length terms) terms (omega arith)) (coef_near terms (length terms) j (omega arith))

-- what the rows take from a unit
worth_near : (mults : List ℤ) (rows : List Row) (n j : ℕ) → length mults ≡ length rows → All (IsWithin (2 ^ 48)) mults → n ≤ length rows → IsWithin (2 ^ 48 * total_coef (take n rows) j) (worth_below mults rows n j)
worth_near mults rows zero j same range few = (omega (arith, ints), omega (arith, ints))
worth_near mults rows (suc n) j same range few =
    let before = worth_near mults rows n j same range (omega arith) in
    let next : suc n ≡ n + 1 = omega arith in
    let coef : ℕ = row_coef j (row_at rows n).terms in
    let more : total_coef (take (n + 1) rows) j ≡ total_coef (take n rows) j + coef = sum_by_more (λ (r : Row). row_coef j r.terms) rows n (row_at [] 0) (omega arith) in
    let here = product_within (2 ^ 48) coef (int_at mults n) (coef_in (row_at rows n).terms j) (range n (pos 0) (omega arith)) (row_near (row_at rows n).terms j) in
    let whole : 2 ^ 48 * total_coef (take (suc n) rows) j ≡ 2 ^ 48 * total_coef (take n rows) j + 2 ^ 48 * coef =
    ap (λ (k : ℕ). 2 ^ 48 * total_coef (take k rows) j) next ∙ (ap (λ (k : ℕ). 2 ^ 48 * k) more ∙ mul-add (2 ^ 48) (total_coef (take n rows) j) coef) in
    subst (λ (k : ℕ). IsWithin k (worth_below mults rows (suc n) j)) (sym whole) (added (2 ^ 48 * total_coef (take n rows) j) (2 ^ 48 * coef) _ _ before here)
  where
    added : (a b : ℕ) (x y : ℤ) → IsWithin a x → IsWithin b y → IsWithin (a + b) (x +ℤ y)
    added a b x y h k = (omega (arith, ints, h.0, k.0), omega (arith, ints, h.1, k.1))

-- the scaled cost of a variable less its multiplier
own_near : (cost mult : ℤ) → IsWithin 1000000000 cost → IsWithin (2 ^ 48) mult → IsWithin (2 ^ 49) (scaled cost -ℤ mult)
own_near cost mult small range = (omega (arith, ints, small.0, range.1), omega (arith, ints, small.1, range.0))

pub unit_near : (m : ModelParts) (mult : Mult) (j : ℕ) → ModelFits m → MultFits m mult → j < length m.vars → IsWithin (2 ^ 68 + 2 ^ 49) (reduced_unit m mult j)
unit_near m mult j fits mults below =
    let own = own_near (var_at m.vars j).cost (int_at mult.vars j) (fits.vars.each j _ below).cost (mults.each_var j (pos 0) (omega (arith, mults.vars))) in
    let part = worth_near mult.rows m.rows (length m.rows) j mults.rows mults.each_row (omega arith) in
    let all = ap (λ (rows : List Row). total_coef rows j) (take_all (length m.rows) m.rows (omega arith)) in
    let coefs = fits.rows.coefs j below in
    let most : 2 ^ 48 * total_coef (take (length m.rows) m.rows) j ≤ 2 ^ 48 * 1048576 = omega (arith, all, coefs) in
    (omega (arith, ints, own.0, part.1, most), omega (arith, ints, own.1, part.0, most))

-- the units of the variables of an arc, of which there are at most 16
pub sum_near : (f : ℕ → ℤ) (n : ℕ) (xs : List ℕ) → All (λ x. IsWithin n (f x)) xs → IsWithin (length xs * n) (sum_over f xs)
sum_near f n [] each = (omega (arith, ints), omega (arith, ints))
sum_near f n (x ∷ xs) each =
    let here = each 0 x (omega arith) in
    let rest = sum_near f n xs (λ k d l. each (suc k) d (omega arith)) in
    (omega (arith, ints, here.0, rest.0), omega (arith, ints, here.1, rest.1))

vars_near : (m : ModelParts) (mult : Mult) (vars : List ℕ) → ModelFits m → MultFits m mult → MapFits (length m.vars) vars → IsWithin (2 ^ 72 + 2 ^ 53) (sum_over (reduced_unit m mult) vars)
vars_near m mult vars fits mults map_fits =
    let near = sum_near (reduced_unit m mult) (2 ^ 68 + 2 ^ 49) vars (λ k v there. unit_near m mult (get_or vars k v) fits mults (map_fits.each k v there)) in
    let most : length vars * (2 ^ 68 + 2 ^ 49) ≤ 2 ^ 72 + 2 ^ 53 = omega (arith, map_fits.few) in
    (omega (arith, ints, near.0, most), omega (arith, ints, near.1, most))

pub arc_near : (m : ModelParts) (mult : Mult) (g a : ℕ) → ModelFits m → MultFits m mult → g < length m.graphs → a < length (graph_in m.graphs g).arcs → IsWithin (2 ^ 72 + 2 ^ 53) (arc_cost m mult g a)
arc_near m mult g a fits mults inside below =
    let maps = fits.maps.each g inside in
    let map_fits = maps.each a [] (omega (arith, maps.arcs, below)) in
    vars_near m mult (mapped_vars m.maps g a) fits mults map_fits

pub arcs_near : (m : ModelParts) (mult : Mult) → ModelFits m → MultFits m mult → All (All (IsWithin (2 ^ 72 + 2 ^ 53))) (map (map (sum_over (reduced_unit m mult))) m.maps)
arcs_near m mult fits mults =
    All-map (All (IsWithin (2 ^ 72 + 2 ^ 53))) (map (sum_over (reduced_unit m mult))) m.maps
    (λ g d below. All-map (IsWithin (2 ^ 72 + 2 ^ 53)) (sum_over (reduced_unit m mult)) (get_or m.maps g d)
    (λ a e inside. vars_near m mult (get_or (get_or m.maps g d) a e) fits mults (all_maps_fit m fits g d below a e inside)))

-- multipliers turned round
pub turned_near : (mults : List ℤ) → All (IsWithin (2 ^ 48)) mults → All (IsWithin (2 ^ 48)) (map neg_ℤ mults)
turned_near mults each = All-map (IsWithin (2 ^ 48)) neg_ℤ mults (λ k d below. let near = each k d below in (omega (arith, ints, near.1), omega (arith, ints, near.0)))
