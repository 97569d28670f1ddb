-- A solution of a place uses no shut arc.
use Rattle.std.proofs.Common.{◌≡◌, ◌==◌, ℕ, zero, suc, ◌*◌, ◌<◌, ◌≤◌, pos, ◌≤ℤ◌, Bool, true, false, ◌||◌, cond, List, [], ◌∷◌, length, get_or, inl, inr, refl, sym, ◌∙◌, ap, arith}
use Rattle.std.specs.Prelude.{count_by, Contains}
use Rattle.std.specs.List.{list_any}
use Rattle.std.proofs.lemmas.Bool.{or_cases, or_left, or_right, eq-eqb, false≢true, true≢false}
use Rattle.std.proofs.lemmas.Bool.Decides.{nat_tests}
use Rattle.std.proofs.lemmas.Int.{ints}
use Rattle.std.proofs.lemmas.List.Sums.{get_or-le-sum_by}
use Rattle.std.proofs.lemmas.List.Elements.{All-contains}
use Rattle.path_graph.specs.Walk.{GraphParts, Leads, arc_at}
use Rattle.route_model.specs.declared.places.Span.{Span}
use Rattle.route_model.specs.declared.places.Spot.{Spot}
use Rattle.route_model.specs.declared.plan.Taken.{Taken}
use Rattle.route_model.specs.declared.plan.Plan.{Plan}
use Rattle.route_model.specs.Fit.{ModelFits}
use Rattle.route_model.specs.Parts.{ModelParts, graph_in, mapped_vars, taken_at}
use Rattle.route_model.specs.Places.{IsInSpan, SolvesAt, UsesNone, ends_at_zero, shut_at, span_at}
use Rattle.route_model.specs.Quantities.{is_mapped, is_of, paths_of, quantity, uses_in, value_of}

-- what a walk of a plan has, the plan has
pub in_plan : (f : ℕ → List ℕ → ℕ) (plan : Plan) (i : ℕ) → i < length plan.paths → 1 ≤ (taken_at plan.paths i).count → f (taken_at plan.paths i).graph (taken_at plan.paths i).arcs ≤ quantity f plan
in_plan f plan i below some =
    let one = get_or-le-sum_by (λ (t : Taken). t.count * f t.graph t.arcs) plan.paths i (record { graph = 0; count = 0; arcs = [] }) below in
    more (taken_at plan.paths i).count (f (taken_at plan.paths i).graph (taken_at plan.paths i).arcs) (quantity f plan) some one
  where
    more : (n x q : ℕ) → 1 ≤ n → n * x ≤ q → x ≤ q
    more n x q h k = grind arith

-- a path of a graph counts
pub paths_some : (plan : Plan) (i : ℕ) → i < length plan.paths → 1 ≤ (taken_at plan.paths i).count → 1 ≤ paths_of plan (taken_at plan.paths i).graph
paths_some plan i below some =
    let one = in_plan (is_of (taken_at plan.paths i).graph) plan i below some in
    let g : ℕ = (taken_at plan.paths i).graph in
    let is : is_of g g (taken_at plan.paths i).arcs ≡ 1 = grind (arith, nat_tests) in
    omega (arith, one, is)

-- an arc of a walk that passes a test is counted
used_once : (test : ℕ → Bool) (arcs : List ℕ) (k d : ℕ) → k < length arcs → test (get_or arcs k d) ≡ true → 1 ≤ count_by test arcs
used_once test arcs k d below passes =
    let one = get_or-le-sum_by (λ (a : ℕ). cond (test a) 1 0) arcs k d below in
    let is = ap (λ (b : Bool). let n : ℕ = cond b 1 0 in n) passes in
    omega (arith, one, is)

-- a test that some item of a list passes
contains_more : {X : Type 0} (x : X) (xs : List X) (y : X) → Contains xs y → Contains (x ∷ xs) y
contains_more x xs y h = (suc h.0, omega (arith, h.1), h.2)

pub any_found : {X : Type 0} (test : X → Bool) (xs : List X) → list_any test xs ≡ true → (x : X) × Contains xs x × (test x ≡ true)
any_found test [] h = absurd (false≢true h)
any_found {X} test (x ∷ xs) h = elim (or_cases (test x) (list_any test xs) h) [
  | inl here ↦ (x, (0, omega arith, refl), here)
  | inr there ↦ let more = any_found test xs there in (more.0, contains_more x xs more.0 more.1, more.2)
]

pub found_any : {X : Type 0} (test : X → Bool) (xs : List X) (x : X) → Contains xs x → test x ≡ true → list_any test xs ≡ true
found_any {X} test xs x h passes = at xs h.0 h.1 h.2
  where
    at : (ys : List X) (k : ℕ) → k < length ys → get_or ys k x ≡ x → list_any test ys ≡ true
    at [] k below is = absurd (omega (arith, below))
    at (y ∷ ys) zero below is = or_left (test y) (list_any test ys) (ap test is ∙ passes)
    at (y ∷ ys) (suc k) below is = or_right (test y) (list_any test ys) (at ys k (omega (arith, below)) is)

-- arcs that lead on are there
pub leads_there : (g : GraphParts) (v w : ℕ) (arcs : List ℕ) (k d : ℕ) → Leads g v arcs w → k < length arcs → get_or arcs k d < length g.arcs
leads_there g v w [] k d leads below = absurd (omega (arith, below))
leads_there g v w (a ∷ arcs) zero d leads below = leads.0
leads_there g v w (a ∷ arcs) (suc k) d leads below = leads_there g (arc_at g.arcs a).head w arcs k d leads.2 (omega (arith, below))

-- a box in which a number above 0 lies does not end at 0
pub not_zero : (span : Span) (n : ℕ) → IsInSpan span (pos n) → 1 ≤ n → ends_at_zero span ≡ false
not_zero span n inside some =
    let high : pos 1 ≤ℤ span.high = omega (arith, ints, inside.1) in
    grind (arith, ints)

none_zero : (m : ModelParts) (spot : Spot) (plan : Plan) (i k d : ℕ) → ModelFits m → SolvesAt m spot plan → i < length plan.paths → k < length (taken_at plan.paths i).arcs
    → list_any (λ j. ends_at_zero (span_at spot.boxes.vars j)) (mapped_vars m.maps (taken_at plan.paths i).graph (get_or (taken_at plan.paths i).arcs k d)) ≡ true → ⊥
none_zero m spot plan i k d fits solves below inside h =
    let g : ℕ = (taken_at plan.paths i).graph in
    let arcs : List ℕ = (taken_at plan.paths i).arcs in
    let a : ℕ = get_or arcs k d in
    let path = solves.within.solution.paths i below in
    let maps = fits.maps.each g path.graph in
    let there = leads_there (graph_in m.graphs g) (graph_in m.graphs g).ends.source (graph_in m.graphs g).ends.sink arcs k d path.walk.walk inside in
    let at = any_found (λ j. ends_at_zero (span_at spot.boxes.vars j)) (mapped_vars m.maps g a) h in
    let j : ℕ = at.0 in
    let declared : j < length m.vars = All-contains (λ (v : ℕ). v < length m.vars) (mapped_vars m.maps g a) j (maps.each a [] (omega (arith, maps.arcs, there))).each at.1 in
    let mapped : is_mapped m.maps j g a ≡ true = found_any (λ v. v == j) (mapped_vars m.maps g a) j at.1 (eq-eqb j j refl) in
    let used = used_once (is_mapped m.maps j g) arcs k d inside mapped in
    let had = in_plan (uses_in m.maps j) plan i below path.count in
    true≢false (sym at.2 ∙ not_zero (span_at spot.boxes.vars j) (value_of m plan j) (solves.within.vars j declared) (omega (arith, used, had)))

pub not_shut : (m : ModelParts) (spot : Spot) (plan : Plan) → ModelFits m → SolvesAt m spot plan → UsesNone (shut_at m spot) plan
not_shut m spot plan fits solves i below k d inside =
    let g : ℕ = (taken_at plan.paths i).graph in
    let path = solves.within.solution.paths i below in
    let vars = not_true (list_any (λ j. ends_at_zero (span_at spot.boxes.vars j)) (mapped_vars m.maps g (get_or (taken_at plan.paths i).arcs k d))) (none_zero m spot plan i k d fits solves below inside) in
    let paths = not_zero (span_at spot.boxes.paths g) (paths_of plan g) (solves.within.paths g path.graph) (paths_some plan i below path.count) in
    neither _ _ _ (solves.kept i below k d inside) vars paths
  where
    not_true : (b : Bool) → (b ≡ true → ⊥) → b ≡ false
    not_true true h = absurd (h refl)
    not_true false h = refl

    neither : (a b c : Bool) → a ≡ false → b ≡ false → c ≡ false → (a || (b || c)) ≡ false
    neither a b c e f h = λ i. e i || (f i || h i)
