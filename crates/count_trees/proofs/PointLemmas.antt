-- The plan that counts leave, and the first box that is no point.
use Rattle.std.proofs.Common.{◌≡◌, ℕ, ◌+◌, ◌^◌, ◌<◌, ◌≤◌, List, [], ◌∷◌, ◌++◌, All, length, take, get_or, unsigned_abs, refl, sym, ap, subst, ◌∙◌, arith}
use Rattle.std.specs.Prelude.{filter, nat_lt}
use Rattle.std.proofs.lemmas.Int.{ints}
use Rattle.std.proofs.Math.ListN.{get_or-map}
use Rattle.std.proofs.lemmas.List.{length-map, length-take, map-append, take_all, take_more}
use Rattle.std.proofs.lemmas.List.Elements.{All-filter, All-nil, All-cons, All-head, All-tail, filter-append}
use Rattle.std.proofs.lemmas.List.Sums.{count_by-le-length, length-filter}
use Rattle.route_model.specs.declared.places.Span.{Span}
use Rattle.route_model.specs.declared.plan.Taken.{Taken}
use Rattle.route_model.specs.Verdicts.{IsCounted}
use Rattle.proof_rules.specs.Counts.{Walk, plan_of, with_counts}
use Rattle.proof_rules.specs.Nodes.{lows}
use Rattle.walk_list.specs.declared.walks.ListedWalk.{ListedWalk}
use Rattle.walk_list.specs.Walks.{walk_said, walks_said}
use Rattle.count_trees.specs.Points.{taken_if}
use Rattle.cert_check.specs.Reads.{IsCountBox}

pub walks_more : (walks : List ListedWalk) (k : ℕ) (d : ListedWalk) → k < length walks → walks_said (take (k + 1) walks) ≡ walks_said (take k walks) ++ walk_said (get_or walks k d) ∷ []
walks_more walks k d below = ap walks_said (take_more walks k d below) ∙ map-append walk_said (take k walks) (get_or walks k d ∷ [])

taken_size : {X Y : Type 0} (xs : List X) (ys : List Y) (k : ℕ) → length ys ≡ length xs → length (take k ys) ≡ length (take k xs)
taken_size xs ys k size = omega (arith, length-take k xs, length-take k ys, size)

-- walks that are read off a list, as they are said
pub each_said : (P : Walk → Type 0) (walks : List ListedWalk) (k : ℕ) (w : ListedWalk) → k < length walks → w ≡ get_or walks k w → All P (walks_said walks) → P (walk_said w)
each_said P walks k w below is all =
    let inside : k < length (walks_said walks) = omega (arith, below, length-map walks walk_said) in
    subst P (get_or-map walk_said walks k w ∙ ap walk_said (sym is)) (all k (walk_said w) inside)

-- walks with counts, one more at the end
counts_push : (ws : List Walk) (ns : List ℕ) (w : Walk) (n : ℕ) → length ns ≡ length ws
    → with_counts (ws ++ w ∷ []) (ns ++ n ∷ []) ≡ with_counts ws ns ++ record { graph = w.graph; count = n; arcs = w.arcs } ∷ []
counts_push [] [] w n size = refl
counts_push [] (i ∷ ns) w n size = absurd (omega (arith, size))
counts_push (v ∷ ws) [] w n size = absurd (omega (arith, size))
counts_push (v ∷ ws) (i ∷ ns) w n size =
    let one : Taken = record { graph = v.graph; count = i; arcs = v.arcs } in
    ap (λ (ts : List Taken). one ∷ ts) (counts_push ws ns w n (omega (arith, size)))

pub plan_more : (walks : List ListedWalk) (boxes : List Span) (k : ℕ) (d : ListedWalk) (e : Span) (paths new : List Taken) (count : ℕ) → k < length walks → length boxes ≡ length walks
    → paths ≡ (plan_of (walks_said (take k walks)) (lows (take k boxes))).paths → new ≡ paths ++ taken_if (walk_said (get_or walks k d)) count → count ≡ unsigned_abs (get_or boxes k e).low
    → new ≡ (plan_of (walks_said (take (k + 1) walks)) (lows (take (k + 1) boxes))).paths
plan_more walks boxes k d e paths new count below size before made is =
    let w : Walk = walk_said (get_or walks k d) in
    let ws : List Walk = walks_said (take k walks) in
    let ns : List ℕ = lows (take k boxes) in
    let low : Span → ℕ = λ b. unsigned_abs b.low in
    let more_boxes : lows (take (k + 1) boxes) ≡ ns ++ count ∷ [] =
    ap lows (take_more boxes k e (omega (arith, below, size))) ∙ (map-append low (take k boxes) (get_or boxes k e ∷ []) ∙ ap (λ (n : ℕ). ns ++ n ∷ []) (sym is)) in
    let sizes : length ns ≡ length ws = length-map (take k boxes) low ∙ (taken_size walks boxes k size ∙ sym (length-map (take k walks) walk_said)) in
    let all : with_counts (walks_said (take (k + 1) walks)) (lows (take (k + 1) boxes)) ≡ with_counts ws ns ++ record { graph = w.graph; count = count; arcs = w.arcs } ∷ [] =
    (λ i. with_counts (walks_more walks k d below i) (more_boxes i)) ∙ counts_push ws ns w count sizes in
    let kept : filter (λ (t : Taken). nat_lt 0 t.count) (with_counts (walks_said (take (k + 1) walks)) (lows (take (k + 1) boxes))) ≡ filter (λ (t : Taken). nat_lt 0 t.count) (with_counts ws ns) ++ taken_if w count =
    ap (filter (λ (t : Taken). nat_lt 0 t.count)) all ∙ filter-append (λ (t : Taken). nat_lt 0 t.count) (with_counts ws ns) (record { graph = w.graph; count = count; arcs = w.arcs } ∷ []) in
    made ∙ (ap (λ (ts : List Taken). ts ++ taken_if w count) before ∙ sym kept)

-- it can be judged
few_counts : (ws : List Walk) (ns : List ℕ) → length (with_counts ws ns) ≤ length ws
few_counts [] ns = omega arith
few_counts (w ∷ ws) [] = omega arith
few_counts (w ∷ ws) (n ∷ ns) = omega (arith, few_counts ws ns)

abbrev IsFew : Taken → Type 0
IsFew t = t.count ≤ 4096

low_few : (b : Span) → IsCountBox b → unsigned_abs b.low ≤ 4096
low_few b fits = omega (arith, ints, fits.low, fits.order, fits.high)

each_few : (ws : List Walk) (boxes : List Span) → All IsCountBox boxes → All IsFew (with_counts ws (lows boxes))
each_few [] boxes each = All-nil IsFew
each_few (w ∷ ws) [] each = All-nil IsFew
each_few (w ∷ ws) (b ∷ boxes) each =
    All-cons IsFew (record { graph = w.graph; count = unsigned_abs b.low; arcs = w.arcs }) (with_counts ws (lows boxes)) (low_few b (All-head IsCountBox b boxes each))
    (each_few ws boxes (All-tail IsCountBox b boxes each))

pub plan_counted : (walks : List ListedWalk) (boxes : List Span) → length walks ≤ 2 ^ 31 → All IsCountBox boxes → IsCounted (plan_of (walks_said walks) (lows boxes))
plan_counted walks boxes few each =
    let ws : List Walk = walks_said walks in
    let all : List Taken = with_counts ws (lows boxes) in
    record {
      few = omega (arith, few, length-map walks walk_said, few_counts ws (lows boxes), length-filter (λ (t : Taken). nat_lt 0 t.count) all, count_by-le-length (λ (t : Taken). nat_lt 0 t.count) all);
      each = All-filter (λ (t : Taken). nat_lt 0 t.count) IsFew all (each_few ws boxes each);
    }

pub plan_whole : (walks : List ListedWalk) (boxes : List Span) (k : ℕ) (paths : List Taken) → length walks ≤ k → length boxes ≡ length walks → paths ≡ (plan_of (walks_said (take k walks)) (lows (take k boxes))).paths
    → paths ≡ (plan_of (walks_said walks) (lows boxes)).paths
plan_whole walks boxes k paths whole size is =
    is ∙ (λ i. (plan_of (walks_said (take_all k walks whole i)) (lows (take_all k boxes (omega (arith, whole, size)) i))).paths)
