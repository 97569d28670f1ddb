-- Over an extension the level rises and the cost changes little, so costs keep the range of their level.
use Rattle.std.proofs.Common.{◌≡◌, ℕ, zero, suc, ◌+◌, ◌*◌, ◌^◌, ◌-◌, ◌<◌, ◌≤◌, Bool, true, false, ℤ, pos, neg_ℤ, ◌+ℤ◌, ◌-ℤ◌, ◌*ℤ◌, ◌≤ℤ◌, Option, None, Some, length, ◌∙◌, ap, arith}
use Rattle.std.specs.Prelude.{IfSome, map, replicate, slice_index}
use Rattle.std.specs.List.{range_with_len}
use Rattle.std.proofs.lemmas.Int.{ints}
use Rattle.std.proofs.lemmas.List.{get_or-append_right}
use Rattle.std.proofs.lemmas.List.FromFn.{length-map-range_with_len}
use Rattle.path_graph.specs.declared.limits.TheConstants.{MAX_SETS}
use Rattle.path_graph.specs.Level.{level_of}
use Rattle.path_graph.specs.Sums.{sum_below}
use Rattle.path_graph.specs.Walk.{root_of}
use Rattle.path_graph.specs.Rest.{end_of}
use Rattle.path_graph.specs.Within.{IsWithin}
use Rattle.path_graph.proofs.LevelLemmas.{level_rises, level_falls, level_within}
use Rattle.path_graph.proofs.WalkLemmas.{root_is_within}
use Rattle.path_graph.proofs.RestLemmas.{end_is_within}
use Rattle.rank1_cuts.specs.Visits.{rises, state_after}
use Rattle.label_rules.specs.Labels.{Backward, Direction, Forward, Label, Setting, SettingFits, charge, cut_at, entered, extended, left, one_if, risen, root, state_at, visit_cost, visit_of}
use Rattle.label_rules.specs.SpaceLaws.{CostChangeLaw, LevelRisesLaw}
use Rattle.label_rules.specs.Spaces.{CostsFit, IsInRange, level}
use Rattle.label_rules.proofs.LabelLemmas.{set_small}
use Rattle.label_rules.proofs.CostLemmas.{zeros_at}

pub level_law : LevelRisesLaw
level_law Forward S l a fits there from =
    let g = S.graph in
    let rises_by = level_rises g a l.values fits.graph there in
    let here = ap (λ (v : ℕ). level_of g v l.values) from in
    omega (arith, ints, rises_by, here)
level_law Backward S l a fits there from =
    let g = S.graph in
    let falls_by = level_falls g a l.values fits.graph there in
    let here = ap (λ (v : ℕ). level_of g v l.values) from in
    omega (arith, ints, falls_by, here)

-- weights that count or not, of so many cuts
one_if-≤ : (b : Bool) → one_if b ≤ 1
one_if-≤ true = omega arith
one_if-≤ false = omega arith

charge_within : (S : Setting) (i : ℕ) (b : Bool) → slice_index S.weights i ≤ 2 ^ 48 → (pos 0 ≤ℤ charge S i (one_if b)) × (charge S i (one_if b) ≤ℤ (pos (2 ^ 48)))
charge_within S i true light = (omega (arith, ints), omega (arith, ints, light))
charge_within S i false light = (omega (arith, ints), omega (arith, ints))

charges_within : (S : Setting) (n : ℕ) (test : ℕ → Bool) → ((i : ℕ) → i < n → slice_index S.weights i ≤ 2 ^ 48)
    → (pos 0 ≤ℤ sum_below n (λ i. charge S i (one_if (test i)))) × (sum_below n (λ i. charge S i (one_if (test i))) ≤ℤ (pos (n * 2 ^ 48)))
charges_within S zero test light = (omega (arith, ints), omega (arith, ints))
charges_within S (suc n) test light =
    let before = charges_within S n test (λ i l. light i (omega arith)) in
    let here = charge_within S n (test n) (light n (omega arith)) in
    (omega (arith, ints, before.0, here.0), omega (arith, ints, before.1, here.1))

risen_within : (S : Setting) (l : Label) (set : Option ℕ) → CostsFit S → (pos 0 ≤ℤ risen S l set) × (risen S l set ≤ℤ (pos (2 ^ 54)))
risen_within S l set costs =
    let all = charges_within S (length S.cuts) (λ i. rises (cut_at S i) (state_at l i) set) costs.weights in
    let few = costs.few in
    (all.0, omega (arith, ints, all.1, few))

visit_within : (S : Setting) (set : Option ℕ) → CostsFit S → IfSome set (λ s. s < MAX_SETS) → IsWithin (2 ^ 54) (visit_cost S set)
visit_within S None costs small = (omega (arith, ints), omega (arith, ints))
visit_within S (Some s) costs small = costs.sets s small

sum_within : (cost arc visit weight : ℤ) → IsWithin (2 ^ 72 + 2 ^ 54) arc → IsWithin (2 ^ 54) visit → pos 0 ≤ℤ weight → weight ≤ℤ (pos (2 ^ 54))
    → IsWithin (2 ^ 73) ((((cost +ℤ arc) +ℤ visit) +ℤ weight) -ℤ cost)
sum_within cost arc visit weight a v low high = (omega (arith, ints, a.0, v.0, low), omega (arith, ints, a.1, v.1, high))

pub cost_change : CostChangeLaw
cost_change direction S l a fits costs there =
    let set = (visit_of direction S a).set in
    let weight = risen_within S l set costs in
    sum_within l.cost (S.arc_cost a) (visit_cost S set) (risen S l set) (costs.arcs a there)
    (visit_within S set costs (set_small S.graph (entered direction S a) fits.graph)) weight.0 weight.1

-- so a cost in the range of its level stays in range
range_kept : (x y low high : ℤ) → IsWithin (2 ^ 73) (y -ℤ x) → (low +ℤ pos 1) ≤ℤ high
    → (neg_ℤ (pos (2 ^ 112) +ℤ (pos (2 ^ 73) *ℤ (low +ℤ pos (2 ^ 38))))) ≤ℤ x → x ≤ℤ (pos (2 ^ 112) +ℤ (pos (2 ^ 73) *ℤ (low +ℤ pos (2 ^ 38))))
    → ((neg_ℤ (pos (2 ^ 112) +ℤ (pos (2 ^ 73) *ℤ (high +ℤ pos (2 ^ 38))))) ≤ℤ y) × (y ≤ℤ (pos (2 ^ 112) +ℤ (pos (2 ^ 73) *ℤ (high +ℤ pos (2 ^ 38)))))
range_kept x y low high change up below above = (omega (arith, ints, change.0, up, below), omega (arith, ints, change.1, up, above))

pub extended_in_range : (direction : Direction) (S : Setting) (l : Label) (a : ℕ) → SettingFits S → CostsFit S → a < length S.graph.arcs → left direction S a ≡ l.vertex
    → IsInRange direction S l → IsInRange direction S (extended direction S l a)
extended_in_range direction S l a fits costs there from range =
    range_kept l.cost (extended direction S l a).cost (level direction S l) (level direction S (extended direction S l a))
    (cost_change direction S l a fits costs there) (level_law direction S l a fits there from) range.0 range.1

start_range : (x low : ℤ) → IsWithin (2 ^ 112) x → (neg_ℤ (pos (2 ^ 38))) ≤ℤ low
    → ((neg_ℤ (pos (2 ^ 112) +ℤ (pos (2 ^ 73) *ℤ (low +ℤ pos (2 ^ 38))))) ≤ℤ x) × (x ≤ℤ (pos (2 ^ 112) +ℤ (pos (2 ^ 73) *ℤ (low +ℤ pos (2 ^ 38)))))
start_range x low start least = (omega (arith, ints, start.0, least), omega (arith, ints, start.1, least))

pub root_in_range : (direction : Direction) (S : Setting) → SettingFits S → CostsFit S → IsInRange direction S (root direction S)
root_in_range Forward S fits costs =
    let g = S.graph in
    let here = level_within g g.ends.source (root_of g) fits.graph fits.graph.fits.ends_fit.source (root_is_within g fits.graph) in
    start_range S.start (level Forward S (root Forward S)) costs.start here.0
root_in_range Backward S fits costs =
    let g = S.graph in
    let here = level_within g g.ends.sink (end_of g) fits.graph fits.graph.fits.ends_fit.sink (end_is_within g fits.graph) in
    start_range (pos 0) (level Backward S (root Backward S)) (omega (arith, ints), omega (arith, ints)) (let high = here.1 in omega (arith, ints, high))

-- states beyond the cuts stay 0
pub extended_unused : (direction : Direction) (S : Setting) (l : Label) (a i : ℕ) → length S.cuts ≤ i → state_at (extended direction S l a) i ≡ 0
extended_unused direction S l a i past =
    let f : ℕ → ℕ = λ k. state_after (cut_at S k) (state_at l k) (visit_of direction S a).set in
    let n : ℕ = length S.cuts in
    let size = length-map-range_with_len f 0 n in
    get_or-append_right (map f (range_with_len 0 n)) (replicate (64 - n) 0) n i 0 size past
    ∙ zeros_at (64 - n) (i - n)
