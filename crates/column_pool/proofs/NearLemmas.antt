-- How far the cost and the sums of rows of a walk are from 0.
use Rattle.std.proofs.Common.{ℕ, ◌*◌, ◌^◌, ◌<◌, ◌≤◌, ℤ, pos, ◌*ℤ◌, List, [], length, get_or, sym, subst, arith}
use Rattle.std.proofs.lemmas.Int.{ints}
use Rattle.std.proofs.Math.Nat.{mul-le-mul_right}
use Rattle.std.proofs.lemmas.List.Sums.{get_or-le-sum_by}
use Rattle.path_graph.specs.First.{EachBelow}
use Rattle.path_graph.specs.Sums.{sum_below, sum_over}
use Rattle.path_graph.specs.Walk.{Leads}
use Rattle.path_graph.specs.Within.{IsWithin}
use Rattle.route_model.specs.declared.parts.Row.{Row}
use Rattle.route_model.specs.Fit.{ModelFits, row_coef}
use Rattle.route_model.specs.Parts.{ModelParts, graph_in, mapped_vars, row_at, var_at}
use Rattle.route_model.specs.Quantities.{uses_in}
use Rattle.route_model.proofs.KnownLemmas.{leads_below}
use Rattle.multipliers.specs.Priced.{coef_in}
use Rattle.multipliers.specs.Quantities.{cost_along, row_along}
use Rattle.multipliers.proofs.NearLemmas.{row_near, sum_near}
use Rattle.multipliers.proofs.PricedLemmas.{row_over, uses_over}

wider : (a b : ℕ) (z : ℤ) → a ≤ b → IsWithin a z → IsWithin b z
wider a b z more near = (omega (arith, ints, near.0, more), omega (arith, ints, near.1, more))

-- numbers of variables that are near add up, over the uses of a walk, to 16 times as much for each arc
pub uses_near : (m : ModelParts) (u : ℕ → ℤ) (b g v w : ℕ) (arcs : List ℕ) → ModelFits m → g < length m.graphs → Leads (graph_in m.graphs g) v arcs w → EachBelow (length m.vars) (λ j. IsWithin b (u j))
    → IsWithin (length arcs * (16 * b)) (sum_below (length m.vars) (λ j. u j *ℤ pos (uses_in m.maps j g arcs)))
uses_near m u b g v w arcs fits inside leads near =
    subst (IsWithin (length arcs * (16 * b))) (sym (uses_over m u g v w arcs fits inside leads))
    (sum_near (λ a. sum_over u (mapped_vars m.maps g a)) (16 * b) arcs (λ k d below. arc (get_or arcs k d) (leads_below (graph_in m.graphs g) v arcs w leads k d below)))
  where
    arc : (a : ℕ) → a < length (graph_in m.graphs g).arcs → IsWithin (16 * b) (sum_over u (mapped_vars m.maps g a))
    arc a below =
        let maps = fits.maps.each g inside in
        let map_fits = maps.each a [] (omega (arith, maps.arcs)) in
        wider (length (mapped_vars m.maps g a) * b) (16 * b) (sum_over u (mapped_vars m.maps g a)) (mul-le-mul_right b map_fits.few)
        (sum_near u b (mapped_vars m.maps g a) (λ k d there. near (get_or (mapped_vars m.maps g a) k d) (map_fits.each k d there)))

pub cost_near : (m : ModelParts) (g v w : ℕ) (arcs : List ℕ) → ModelFits m → g < length m.graphs → Leads (graph_in m.graphs g) v arcs w → length arcs ≤ 16777216 → IsWithin (2 ^ 62) (cost_along m g arcs)
cost_near m g v w arcs fits inside leads few =
    let most : length arcs * (16 * 1000000000) ≤ 2 ^ 62 = omega (arith, few) in
    wider (length arcs * (16 * 1000000000)) (2 ^ 62) (cost_along m g arcs) most
    (uses_near m (λ j. (var_at m.vars j).cost) 1000000000 g v w arcs fits inside leads (λ j below. (fits.vars.each j _ below).cost))

pub row_along_near : (m : ModelParts) (i g v w : ℕ) (arcs : List ℕ) → ModelFits m → g < length m.graphs → i < length m.rows → Leads (graph_in m.graphs g) v arcs w → length arcs ≤ 16777216
    → IsWithin (2 ^ 62) (row_along m (row_at m.rows i).terms g arcs)
row_along_near m i g v w arcs fits inside there leads few =
    let terms = (row_at m.rows i).terms in
    let most : length arcs * (16 * 1048576) ≤ 2 ^ 62 = omega (arith, few) in
    subst (IsWithin (2 ^ 62)) (sym (row_over m terms g arcs (fits.rows.each i _ there).each))
    (wider (length arcs * (16 * 1048576)) (2 ^ 62) (sum_below (length m.vars) (λ j. coef_in terms j *ℤ pos (uses_in m.maps j g arcs))) most
    (uses_near m (coef_in terms) 1048576 g v w arcs fits inside leads
    (λ j below.
    let part : row_coef j terms ≤ 1048576 = omega (arith, get_or-le-sum_by (λ (r : Row). row_coef j r.terms) m.rows i (row_at [] 0) there, fits.rows.coefs j below) in
    wider (row_coef j terms) 1048576 (coef_in terms j) part (row_near terms j))))
