-- The costs of labels that come over choices from the root: a cost changes little with each level, and there are few levels.
use Rattle.std.proofs.Common.{◌≡◌, ℕ, zero, suc, ◌+◌, ◌*◌, ◌^◌, ◌<◌, ◌≤◌, Bool, true, false, ℤ, pos, neg_ℤ, ◌+ℤ◌, ◌-ℤ◌, ◌*ℤ◌, ◌≤ℤ◌, Option, None, Some, List, [], ◌∷◌, length, refl, sym, ◌∙◌, ap, subst, arith}
use Rattle.std.specs.Prelude.{IfSome, nat_le, slice_index}
use Rattle.std.specs.Int.{int_max}
use Rattle.std.proofs.lemmas.Int.{clamps, ints}
use Rattle.path_graph.specs.declared.limits.TheConstants.{MAX_SETS}
use Rattle.path_graph.specs.Sums.{sum_below}
use Rattle.path_graph.specs.Within.{AreWithin, IsWithin}
use Rattle.path_graph.proofs.IndexLemmas.{from_at, into_at}
use Rattle.path_graph.proofs.IntLemmas.{pos_mul-≤}
use Rattle.path_graph.specs.Fit.{int_at, vertex_at, window_at}
use Rattle.path_graph.specs.Level.{level_of}
use Rattle.path_graph.specs.Walk.{arc_at, over_of}
use Rattle.path_graph.proofs.LevelLemmas.{level_rises, level_within}
use Rattle.rank1_cuts.specs.Visits.{rises}
use Rattle.label_space.specs.Rules.{Extends, Rules}
use Rattle.label_core.specs.Walks.{Reaches}
use Rattle.label_rules.specs.declared.label.Label.{Label}
use Rattle.label_rules.specs.Labels.{Backward, Direction, Forward, Setting, SettingFits, charge, cut_at, entered, extended, left, one_if, risen, root, state_at, visit_cost, visit_of}
use Rattle.label_rules.specs.Joins.{Joins, join_cost, reached}
use Rattle.label_rules.specs.Spaces.{CostsFit, level, onward, rules}
use Rattle.label_rules.specs.Tables.{LiesInWindows}
use Rattle.label_rules.proofs.LabelLemmas.{set_small}
use Rattle.label_rules.proofs.LevelLemmas.{level_law}
use Rattle.label_rules.proofs.TestLemmas.{extension_is}

-- weights that count or not, of so many cuts
charge_at_most : (S : Setting) (i : ℕ) (b : Bool) → slice_index S.weights i ≤ 2 ^ 48 → (pos 0 ≤ℤ charge S i (one_if b)) × (charge S i (one_if b) ≤ℤ (pos (2 ^ 48)))
charge_at_most S i true light = (omega (arith, ints), omega (arith, ints, light))
charge_at_most S i false light = (omega (arith, ints), omega (arith, ints))

charges_at_most : (S : Setting) (n : ℕ) (test : ℕ → Bool) → ((i : ℕ) → i < n → slice_index S.weights i ≤ 2 ^ 48)
    → (pos 0 ≤ℤ sum_below n (λ i. charge S i (one_if (test i)))) × (sum_below n (λ i. charge S i (one_if (test i))) ≤ℤ (pos (n * 2 ^ 48)))
charges_at_most S zero test light = (omega (arith, ints), omega (arith, ints))
charges_at_most S (suc n) test light =
    let before = charges_at_most S n test (λ i l. light i (omega arith)) in
    let here = charge_at_most S n (test n) (light n (omega arith)) in
    (omega (arith, ints, before.0, here.0), omega (arith, ints, before.1, here.1))

risen_at_most : (S : Setting) (l : Label) (set : Option ℕ) → CostsFit S → (pos 0 ≤ℤ risen S l set) × (risen S l set ≤ℤ (pos (2 ^ 54)))
risen_at_most S l set costs =
    let all = charges_at_most S (length S.cuts) (λ i. rises (cut_at S i) (state_at l i) set) costs.weights in
    let few = costs.few in
    (all.0, omega (arith, ints, all.1, few))

visit_near : (S : Setting) (set : Option ℕ) → CostsFit S → IfSome set (λ s. s < MAX_SETS) → IsWithin (2 ^ 54) (visit_cost S set)
visit_near S None costs small = (omega (arith, ints), omega (arith, ints))
visit_near S (Some s) costs small = costs.sets s small

sum_near : (cost arc visit weight : ℤ) → IsWithin (2 ^ 72 + 2 ^ 54) arc → IsWithin (2 ^ 54) visit → pos 0 ≤ℤ weight → weight ≤ℤ (pos (2 ^ 54))
    → IsWithin (2 ^ 72 + 2 ^ 56) ((((cost +ℤ arc) +ℤ visit) +ℤ weight) -ℤ cost)
sum_near cost arc visit weight a v low high = (omega (arith, ints, a.0, v.0, low), omega (arith, ints, a.1, v.1, high))

-- an extension changes the cost by little more than 2^72
step_near : (direction : Direction) (S : Setting) (l : Label) (a : ℕ) → SettingFits S → CostsFit S → a < length S.graph.arcs → IsWithin (2 ^ 72 + 2 ^ 56) ((extended direction S l a).cost -ℤ l.cost)
step_near direction S l a fits costs there =
    let set = (visit_of direction S a).set in
    let weight = risen_at_most S l set costs in
    sum_near l.cost (S.arc_cost a) (visit_cost S set) (risen S l set) (costs.arcs a there)
    (visit_near S set costs (set_small S.graph (entered direction S a) fits.graph)) weight.0 weight.1

-- the arc of a choice
choice_at : (direction : Direction) (S : Setting) (v k : ℕ) → k < length (onward direction S v)
    → (slice_index (onward direction S v) k < length S.graph.arcs) × (left direction S (slice_index (onward direction S v) k) ≡ v)
choice_at Forward S v k l = from_at S.graph.arcs v k l
choice_at Backward S v k l = into_at S.graph.arcs v k l

-- so much a level
abbrev pub Rises : ℤ → ℤ → Type 0
Rises cost levels = ((neg_ℤ (pos (2 ^ 72 + 2 ^ 56) *ℤ levels)) ≤ℤ cost) × (cost ≤ℤ (pos (2 ^ 72 + 2 ^ 56) *ℤ levels))

none_rise : (x y : ℤ) → Rises (x -ℤ x) (y -ℤ y)
none_rise x y = (omega (arith, ints), omega (arith, ints))

more_rise : (x y z low mid high : ℤ) → IsWithin (2 ^ 72 + 2 ^ 56) (y -ℤ x) → (low +ℤ pos 1) ≤ℤ mid → Rises (z -ℤ y) (high -ℤ mid) → Rises (z -ℤ x) (high -ℤ low)
more_rise x y z low mid high step up rest = (omega (arith, ints, step.0, up, rest.0), omega (arith, ints, step.1, up, rest.1))

module _ (direction : Direction) (S : Setting) (threshold : Option ℤ) (cells : ℕ) (cell_of : ℕ → ℤ → ℤ → ℕ) (fits : SettingFits S) (costs : CostsFit S) where
  abbrev r : Rules Label
  r = rules direction S threshold cells cell_of

  along : (l : Label) (choices : List ℕ) (m : Label) → Reaches r l choices m → Rises (m.cost -ℤ l.cost) (level direction S m -ℤ level direction S l)
  along l [] m h = subst (λ (x : Label). Rises (x.cost -ℤ l.cost) (level direction S x -ℤ level direction S l)) h (none_rise l.cost (level direction S l))
  along l (k ∷ choices) m h =
      let a : ℕ = slice_index (onward direction S l.vertex) k in
      let at = choice_at direction S l.vertex k h.1.0 in
      let is = extension_is direction S threshold l a h.0 h.1.1 in
      let n : Label = extended direction S l a in
      let rest = along n choices m (subst (λ (x : Label). Reaches r x choices m) (sym is.is) h.2) in
      more_rise l.cost n.cost m.cost (level direction S l) (level direction S n) (level direction S m)
      (step_near direction S l a fits costs at.0) (level_law direction S l a fits at.0 at.1) rest

level_near : (direction : Direction) (S : Setting) (l : Label) → SettingFits S → LiesInWindows S l → IsWithin (2 ^ 38) (level direction S l)
level_near Forward S l fits lies = level_within S.graph l.vertex l.values fits.graph lies.vertex lies.values
level_near Backward S l fits lies =
    let w = level_within S.graph l.vertex l.values fits.graph lies.vertex lies.values in
    (let high = w.1 in omega (arith, ints, high), let low = w.0 in omega (arith, ints, low))

near_sum : (cost start low high : ℤ) → IsWithin (2 ^ 48) start → IsWithin (2 ^ 38) low → IsWithin (2 ^ 38) high → Rises (cost -ℤ start) (high -ℤ low) → IsWithin (2 ^ 112) cost
near_sum cost start low high near first last by = (omega (arith, ints, near.0, first.0, first.1, last.0, last.1, by.0), omega (arith, ints, near.1, first.0, first.1, last.0, last.1, by.1))

root_near : (direction : Direction) (S : Setting) → IsWithin (2 ^ 48) S.start → IsWithin (2 ^ 48) (root direction S).cost
root_near Forward S near = near
root_near Backward S near = (omega (arith, ints), omega (arith, ints))

-- the cost of a label that comes over choices from the root
pub reached_near : (direction : Direction) (S : Setting) (threshold : Option ℤ) (cells : ℕ) (cell_of : ℕ → ℤ → ℤ → ℕ) (choices : List ℕ) (l : Label) → SettingFits S → CostsFit S
    → IsWithin (2 ^ 48) S.start → LiesInWindows S (root direction S) → LiesInWindows S l → Reaches (rules direction S threshold cells cell_of) (root direction S) choices l → IsWithin (2 ^ 112) l.cost
reached_near direction S threshold cells cell_of choices l fits costs start first last h =
    near_sum l.cost (root direction S).cost (level direction S (root direction S)) (level direction S l) (root_near direction S start)
    (level_near direction S (root direction S) fits first) (level_near direction S l fits last)
    (along direction S threshold cells cell_of fits costs (root direction S) choices l h)

-- how far a label that comes over choices is from the root
pub reached_rises : (direction : Direction) (S : Setting) (threshold : Option ℤ) (cells : ℕ) (cell_of : ℕ → ℤ → ℤ → ℕ) (choices : List ℕ) (l : Label) → SettingFits S → CostsFit S
    → Reaches (rules direction S threshold cells cell_of) (root direction S) choices l → Rises (l.cost -ℤ (root direction S).cost) (level direction S l -ℤ level direction S (root direction S))
reached_rises direction S threshold cells cell_of choices l fits costs h = along direction S threshold cells cell_of fits costs (root direction S) choices l h

-- where labels join, the level at the tail is below that at the head
over_at_most : (x q low b : ℤ) → low ≤ℤ b → (x +ℤ q) ≤ℤ b → int_max low (x +ℤ q) ≤ℤ b
over_at_most x q low b l h = omega (arith, ints, clamps, l, h)

join_levels : (S : Setting) (f : Label) (a : ℕ) (b : Label) → SettingFits S → LiesInWindows S b → Joins S f a b → (level Forward S f +ℤ pos 1) ≤ℤ (level_of S.graph b.vertex b.values)
join_levels S f a b fits lies joins =
    let g = S.graph in
    let arc = arc_at g.arcs a in
    let up = level_rises g a f.values fits.graph joins.there in
    let tail = ap (λ (v : ℕ). level_of g v f.values) joins.leaves in
    let head = ap (λ (v : ℕ). level_of g v b.values) joins.enters in
    let window = λ (k : ℕ). window_at (vertex_at g.vertices arc.head).windows k in
    let lies_head = subst (λ (v : ℕ). AreWithin (vertex_at g.vertices v).windows b.values) (sym joins.enters) lies.values in
    let first = over_at_most (int_at f.values.at 0) (int_at arc.needs 0) (window 0).low (int_at b.values.at 0) (lies_head 0 (omega arith)).0 (joins.values 0 (omega arith)) in
    let second = over_at_most (int_at f.values.at 1) (int_at arc.needs 1) (window 1).low (int_at b.values.at 1) (lies_head 1 (omega arith)).0 (joins.values 1 (omega arith)) in
    let over = over_of g f.values a in
    let sums = pos_mul-≤ (length g.vertices) (int_at over.at 0 +ℤ int_at over.at 1) (int_at b.values.at 0 +ℤ int_at b.values.at 1) (omega (arith, ints, first, second)) in
    omega (arith, ints, up, tail, head, sums)

-- so a join of labels that come over choices costs little too
join_sum : (front rest arc weight start first last tail head : ℤ) → IsWithin (2 ^ 48) start → IsWithin (2 ^ 38) first → IsWithin (2 ^ 38) last → IsWithin (2 ^ 72 + 2 ^ 54) arc
    → pos 0 ≤ℤ weight → weight ≤ℤ (pos (2 ^ 54)) → (tail +ℤ pos 1) ≤ℤ head → Rises (front -ℤ start) (tail -ℤ first) → Rises (rest -ℤ pos 0) (neg_ℤ head -ℤ neg_ℤ last)
    → IsWithin (2 ^ 112) (((front +ℤ rest) +ℤ arc) +ℤ weight)
join_sum front rest arc weight start first last tail head s f l a none most up x y =
    (omega (arith, ints, s.0, f.0, l.1, a.0, none, up, x.0, y.0), omega (arith, ints, s.1, f.0, l.1, a.1, most, up, x.1, y.1))

reached_at_most : (S : Setting) (f b : Label) → CostsFit S → (pos 0 ≤ℤ sum_below (length S.cuts) (λ i. charge S i (reached S f b i))) × (sum_below (length S.cuts) (λ i. charge S i (reached S f b i)) ≤ℤ (pos (2 ^ 54)))
reached_at_most S f b costs =
    let all = charges_at_most S (length S.cuts) (λ i. nat_le (cut_at S i).den (state_at f i + state_at b i)) costs.weights in
    let few = costs.few in
    (all.0, omega (arith, ints, all.1, few))

pub join_near : (S : Setting) (f : Label) (a : ℕ) (b : Label) → SettingFits S → CostsFit S → IsWithin (2 ^ 48) S.start → LiesInWindows S (root Forward S) → LiesInWindows S (root Backward S)
    → LiesInWindows S b → Rises (f.cost -ℤ (root Forward S).cost) (level Forward S f -ℤ level Forward S (root Forward S))
    → Rises (b.cost -ℤ (root Backward S).cost) (level Backward S b -ℤ level Backward S (root Backward S)) → Joins S f a b → IsWithin (2 ^ 112) (join_cost S f a b)
join_near S f a b fits costs start first last lies front rest joins =
    let weight = reached_at_most S f b costs in
    join_sum f.cost b.cost (S.arc_cost a) (sum_below (length S.cuts) (λ i. charge S i (reached S f b i))) S.start
    (level Forward S (root Forward S)) (level_of S.graph (root Backward S).vertex (root Backward S).values) (level Forward S f) (level_of S.graph b.vertex b.values)
    start (level_near Forward S (root Forward S) fits first) (level_within S.graph (root Backward S).vertex (root Backward S).values fits.graph last.vertex last.values)
    (costs.arcs a joins.there) weight.0 weight.1 (join_levels S f a b fits lies joins) front rest
