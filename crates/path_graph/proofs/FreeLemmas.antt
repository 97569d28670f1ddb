-- Lemmas on free paths: how they join, that they are short where no cycle leads to their end, and that ranks are the computed ones.
use Rattle.std.proofs.Common.{◌≡◌, ℕ, ◌<◌, ◌≤◌, ◌+◌, inl, inr, ◌⊎◌, List, [], ◌∷◌, ◌++◌, length, refl, sym, ◌∙◌, ap, subst, arith, suc, zero, Bool, true, false, ◌||◌, cond, map, eqb, length-append}
use Rattle.std.specs.Prelude.{Contains, ◌==◌, filter}
use Rattle.std.specs.List.{AllByRecursion, IsDistinct, list_any, range_with_len}
use Rattle.std.proofs.lemmas.Bool.{cases_lt, cond-true, cond_both, eq-eqb, eqb-true, ne_eqb}
use Rattle.std.proofs.lemmas.List.FromFn.{get_or-range_with_len, length-range_with_len}
use Rattle.std.proofs.lemmas.Map.Steps.{length-le_from_distinct_below}
use Rattle.path_graph.specs.declared.parts.GraphArc.{GraphArc}
use Rattle.path_graph.specs.Parts.{arc_at, arcs_into, AreBetween}
use Rattle.path_graph.specs.Free.{is_free, IsFreePath, HasNoFreeCycle, IsRank, greatest, free_arcs_into, free_depth}

pub free_append : (arcs : List GraphArc) (u : ℕ) (xs : List ℕ) (v : ℕ) (ys : List ℕ) (w : ℕ) → IsFreePath arcs u xs v → IsFreePath arcs v ys w → IsFreePath arcs u (xs ++ ys) w
free_append arcs u [] v ys w h k = subst (λ (x : ℕ). IsFreePath arcs x ys w) (sym h) k
free_append arcs u (a ∷ xs) v ys w h k = (h.0, h.1, h.2, free_append arcs (arc_at arcs a).head xs v ys w h.3 k)

-- a free path and one more arc
pub free_push : (arcs : List GraphArc) (u : ℕ) (xs : List ℕ) (a : ℕ) → IsFreePath arcs u xs (arc_at arcs a).tail → a < length arcs → is_free (arc_at arcs a) ≡ true → IsFreePath arcs u (xs ++ a ∷ []) (arc_at arcs a).head
free_push arcs u xs a h l f = free_append arcs u xs (arc_at arcs a).tail (a ∷ []) (arc_at arcs a).head h (l, f, refl, refl)

-- the last arc of a free path
pub record EndsBy (arcs : List GraphArc) (u : ℕ) (xs : List ℕ) (a w : ℕ) : Type 0 where
  pub front : IsFreePath arcs u xs (arc_at arcs a).tail
  pub within : a < length arcs
  pub free : is_free (arc_at arcs a) ≡ true
  pub head : (arc_at arcs a).head ≡ w

pub free_pop : (arcs : List GraphArc) (u : ℕ) (xs : List ℕ) (a w : ℕ) → IsFreePath arcs u (xs ++ a ∷ []) w → EndsBy arcs u xs a w
free_pop arcs u [] a w h = record { front = sym h.2; within = h.0; free = h.1; head = h.3 }
free_pop arcs u (b ∷ xs) a w h =
    let more = free_pop arcs (arc_at arcs b).head xs a w h.3 in
    record { front = (h.0, h.1, h.2, more.front); within = more.within; free = more.free; head = more.head }

-- a list is empty, or has a last item
pub is_pushed : {X : Type 0} (xs : List X) → (xs ≡ []) ⊎ ((ys : List X) × (x : X) × (xs ≡ ys ++ x ∷ []))
is_pushed [] = inl refl
is_pushed (x ∷ xs) =
    elim (is_pushed xs) [
      | inl e ↦ inr ([], x, ap (λ ys. x ∷ ys) e)
      | inr h ↦ inr (x ∷ h.0, h.1, ap (λ ys. x ∷ ys) h.2)
    ]

-- a list so many times over
times : ℕ → List ℕ → List ℕ
times zero cycle = []
times (suc k) cycle = cycle ++ times k cycle

length-times : (k : ℕ) (cycle : List ℕ) → 1 ≤ length cycle → k ≤ length (times k cycle)
unfolding times
length-times zero cycle h = omega arith
length-times (suc k) cycle h =
    let more = length-times k cycle h in
    omega (arith, h, more, length-append cycle (times k cycle))

free_times : (arcs : List GraphArc) (v : ℕ) (k : ℕ) (cycle : List ℕ) → IsFreePath arcs v cycle v → IsFreePath arcs v (times k cycle) v
unfolding times
free_times arcs v zero cycle h = refl
free_times arcs v (suc k) cycle h = free_append arcs v cycle v (times k cycle) v h (free_times arcs v k cycle h)

-- no cycle of free arcs leads to the vertex
pub EndsNoCycle : List GraphArc → ℕ → Type 0
EndsNoCycle arcs w = (v : ℕ) (cycle rest : List ℕ) → 1 ≤ length cycle → IsFreePath arcs v cycle v → IsFreePath arcs v rest w → ⊥

pub ranked_ends_none : (arcs : List GraphArc) (w rank : ℕ) → IsRank arcs w rank → EndsNoCycle arcs w
unfolding EndsNoCycle
ranked_ends_none arcs w rank h v cycle rest some round on =
    let around = times (suc rank) cycle in
    let long = h.longest v (around ++ rest) (free_append arcs v around v rest w (free_times arcs v (suc rank) cycle round) on) in
    absurd (omega (arith, long, length-append around rest, length-times (suc rank) cycle some))

pub acyclic_ends_none : (arcs : List GraphArc) (w : ℕ) → HasNoFreeCycle arcs → EndsNoCycle arcs w
unfolding EndsNoCycle
acyclic_ends_none arcs w h v cycle rest some round on = h cycle (record { vertex = v; some = some; leads = round })

pub no_round : (arcs : List GraphArc) (v : ℕ) (cycle : List ℕ) → EndsNoCycle arcs v → 1 ≤ length cycle → IsFreePath arcs v cycle v → ⊥
unfolding EndsNoCycle
no_round arcs v cycle none some round = none v cycle [] some round refl

-- the vertices along a path, the first included
vertices_along : List GraphArc → ℕ → List ℕ → List ℕ
vertices_along arcs v [] = v ∷ []
vertices_along arcs v (a ∷ rest) = v ∷ vertices_along arcs (arc_at arcs a).head rest

length-vertices_along : (arcs : List GraphArc) (v : ℕ) (xs : List ℕ) → length (vertices_along arcs v xs) ≡ length xs + 1
unfolding vertices_along
length-vertices_along arcs v [] = refl
length-vertices_along arcs v (a ∷ rest) = omega (arith, length-vertices_along arcs (arc_at arcs a).head rest)

other : (v u : ℕ) → (u ≡ v → ⊥) → eqb v u ≡ false
other v u h = ne_eqb v u (λ e. h (sym e))

-- a vertex to which no front of a path leads is not on it
apart : (arcs : List GraphArc) (v u : ℕ) (xs : List ℕ) (w : ℕ) → IsFreePath arcs u xs w → ((front : List ℕ) → IsFreePath arcs u front v → ⊥) → AllByRecursion (λ y. eqb v y ≡ false) (vertices_along arcs u xs)
unfolding vertices_along
apart arcs v u [] w h away = (other v u (λ e. away [] e), tt)
apart arcs v u (a ∷ rest) w h away =
    (other v u (λ e. away [] e), apart arcs v (arc_at arcs a).head rest w h.3 (λ front f. away (a ∷ front) (h.0, h.1, h.2, f)))

distinct : (arcs : List GraphArc) (u : ℕ) (xs : List ℕ) (w : ℕ) → EndsNoCycle arcs w → IsFreePath arcs u xs w → IsDistinct eqb (vertices_along arcs u xs)
unfolding EndsNoCycle vertices_along IsDistinct
distinct arcs u [] w free h = (tt, tt)
distinct arcs u (a ∷ rest) w free h =
    let none_back = λ (front : List ℕ) (f : IsFreePath arcs (arc_at arcs a).head front u). free u (a ∷ front) (a ∷ rest) (omega arith) (h.0, h.1, h.2, f) h in
    (apart arcs u (arc_at arcs a).head rest w h.3 none_back, distinct arcs (arc_at arcs a).head rest w free h.3)

false_true : false ≡ true → ⊥
false_true e = cc

any_cases : (b c : Bool) → (b || c) ≡ true → (b ≡ true) ⊎ (c ≡ true)
any_cases true c e = inl refl
any_cases false c e = inr e

-- the vertices of a path to a vertex that is there are there
along_below : (count : ℕ) (arcs : List GraphArc) (u : ℕ) (xs : List ℕ) (w q : ℕ) → AreBetween count arcs → w < count → IsFreePath arcs u xs w → list_any (eqb q) (vertices_along arcs u xs) ≡ true → q < count
unfolding vertices_along
along_below count arcs u [] w q fit l h e =
    elim (any_cases (eqb q u) false e) [
      | inl s ↦ omega (arith, eqb-true q u s, h, l)
      | inr s ↦ absurd (false_true s)
    ]
along_below count arcs u (a ∷ rest) w q fit l h e =
    elim (any_cases (eqb q u) (list_any (eqb q) (vertices_along arcs (arc_at arcs a).head rest)) e) [
      | inl s ↦ let ends : (arc_at arcs a).tail < count × (arc_at arcs a).head < count = fit a _ h.0 in
          omega (arith, eqb-true q u s, h.2, ends.0)
      | inr s ↦ along_below count arcs (arc_at arcs a).head rest w q fit l h.3 s
    ]

short : (count : ℕ) (arcs : List GraphArc) (u : ℕ) (xs : List ℕ) (w : ℕ) → AreBetween count arcs → w < count → EndsNoCycle arcs w → IsFreePath arcs u xs w → length xs < count
short count arcs u xs w fit l free h =
    let few = length-le_from_distinct_below (vertices_along arcs u xs) (count) (distinct arcs u xs w free h) (λ q e. along_below count arcs u xs w q fit l h e) in
    omega (arith, few, length-vertices_along arcs u xs)

pub rank_small : (count : ℕ) (arcs : List GraphArc) (w rank : ℕ) → AreBetween count arcs → w < count → IsRank arcs w rank → rank < count
rank_small count arcs w rank fit l h =
    let few = short count arcs h.start h.path w fit l (ranked_ends_none arcs w rank h) h.leads in
    omega (arith, few, h.size)

contains_cons : (y : ℕ) (ys : List ℕ) (x : ℕ) → Contains (y ∷ ys) x → (y ≡ x) ⊎ Contains ys x
contains_cons y ys x (zero, l, e) = inl e
contains_cons y ys x (suc k, l, e) = inr (k, omega (arith, l), e)

contains_more : (y : ℕ) (ys : List ℕ) (x : ℕ) → Contains ys x → Contains (y ∷ ys) x
contains_more y ys x h = (suc h.0, omega (arith, h.1), h.2)

-- an item stands in a filtered list exactly where it stands in the list and passes
pub filter_contains : (p : ℕ → Bool) (xs : List ℕ) (x : ℕ) → Contains xs x → p x ≡ true → Contains (filter p xs) x
filter_contains p [] x h e = absurd (omega (arith, h.1))
filter_contains p (y ∷ ys) x h e =
    elim (contains_cons y ys x h) [
      | inl s ↦ subst (λ (zs : List ℕ). Contains zs x) (sym (cond-true (p y) (y ∷ filter p ys) (filter p ys) (ap p s ∙ e))) (0, omega arith, s)
      | inr k ↦ cond_both (p y) (y ∷ filter p ys) (filter p ys) (λ zs. Contains zs x)
          (λ t. contains_more y (filter p ys) x (filter_contains p ys x k e)) (λ t. filter_contains p ys x k e)
    ]

pub contains_filtered : (p : ℕ → Bool) (xs : List ℕ) (x : ℕ) → Contains (filter p xs) x → Contains xs x × (p x ≡ true)
contains_filtered p [] x h = absurd (omega (arith, h.1))
contains_filtered p (y ∷ ys) x h = by_test (p y) (contains_filtered p ys x) refl h
  where
    by_test : (b : Bool) → (Contains (filter p ys) x → Contains ys x × (p x ≡ true)) → p y ≡ b → Contains (cond b (y ∷ filter p ys) (filter p ys)) x → Contains (y ∷ ys) x × (p x ≡ true)
    by_test true more t k =
        elim (contains_cons y (filter p ys) x k) [
          | inl s ↦ ((0, omega arith, s), sym (ap p s) ∙ t)
          | inr k ↦ let rest = more k in (contains_more y ys x rest.0, rest.1)
        ]
    by_test false more t k = let rest = more k in (contains_more y ys x rest.0, rest.1)

in_range : (a n : ℕ) → a < n → Contains (range_with_len 0 n) a
in_range a n l = (a, omega (arith, l, length-range_with_len 0 n), omega (arith, get_or-range_with_len 0 n a a l))

pub range_below : (a n : ℕ) → Contains (range_with_len 0 n) a → a < n
range_below a n h =
    let len = length-range_with_len 0 n in
    let at = get_or-range_with_len 0 n h.0 a (omega (arith, h.1, len)) in
    omega (arith, h.1, len, at, h.2)

-- an arc is among those into a vertex exactly where it is there and enters it
pub into_contains : (arcs : List GraphArc) (a v : ℕ) → a < length arcs → (arc_at arcs a).head ≡ v → Contains (arcs_into arcs v) a
into_contains arcs a v l e =
    filter_contains (λ b. (arc_at arcs b).head == v) (range_with_len 0 (length arcs)) a (in_range a (length arcs) l) (eq-eqb (arc_at arcs a).head v e)

pub contains_into : (arcs : List GraphArc) (a v : ℕ) → Contains (arcs_into arcs v) a → (a < length arcs) × ((arc_at arcs a).head ≡ v)
contains_into arcs a v h =
    let parts = contains_filtered (λ b. (arc_at arcs b).head == v) (range_with_len 0 (length arcs)) a h in
    (range_below a (length arcs) parts.0, eqb-true (arc_at arcs a).head v parts.1)

-- the greatest of numbers is one of them, or 0; and none is greater
greatest_reached : (f : ℕ → ℕ) (xs : List ℕ) → (greatest (map f xs) ≡ 0) ⊎ ((a : ℕ) × Contains xs a × (greatest (map f xs) ≡ f a))
greatest_reached f [] = inl refl
greatest_reached f (x ∷ xs) =
    elim (cases_lt (f x) (greatest (map f xs))) [
      | inl l ↦ elim (greatest_reached f xs) [
        | inl e ↦ absurd (omega (arith, l, e))
        | inr h ↦ inr (h.0, contains_more x xs h.0 h.1, omega (arith, l, h.2))
      ]
      | inr l ↦ inr (x, (0, omega arith, refl), omega (arith, l))
    ]

greatest_above : (f : ℕ → ℕ) (xs : List ℕ) (a : ℕ) → Contains xs a → f a ≤ greatest (map f xs)
greatest_above f [] a h = absurd (omega (arith, h.1))
greatest_above f (x ∷ xs) a h =
    elim (contains_cons x xs a h) [
      | inl e ↦ omega (arith, ap f e)
      | inr k ↦ omega (arith, greatest_above f xs a k)
    ]

-- a free path of the computed length
pub record HasDepth (arcs : List GraphArc) (n v : ℕ) : Type 0 where
  pub start : ℕ
  pub path : List ℕ
  pub leads : IsFreePath arcs start path v
  pub size : length path ≡ free_depth arcs n v

has_depth : (arcs : List GraphArc) (n v : ℕ) → HasDepth arcs n v
has_depth arcs zero v = record { start = v; path = []; leads = refl; size = refl }
has_depth arcs (suc n) v =
    elim (greatest_reached (λ a. suc (free_depth arcs n (arc_at arcs a).tail)) (free_arcs_into arcs v)) [
      | inl e ↦ record { start = v; path = []; leads = refl; size = sym e }
      | inr h ↦
          let among = contains_filtered (λ b. is_free (arc_at arcs b)) (arcs_into arcs v) h.0 h.1 in
          let into = contains_into arcs h.0 v among.0 in
          let before = has_depth arcs n (arc_at arcs h.0).tail in
          record {
            start = before.start;
            path = before.path ++ h.0 ∷ [];
            leads = subst (λ (w : ℕ). IsFreePath arcs before.start (before.path ++ h.0 ∷ []) w) into.1 (free_push arcs before.start before.path h.0 before.leads into.0 among.1);
            size = omega (arith, length-append before.path (h.0 ∷ []), before.size, h.2);
          }
    ]

-- no free path of at most n arcs is longer
depth_most : (arcs : List GraphArc) (n v u : ℕ) (xs : List ℕ) → IsFreePath arcs u xs v → length xs ≤ n → length xs ≤ free_depth arcs n v
depth_most arcs zero v u xs h l = omega (arith, l)
depth_most arcs (suc n) v u xs h l =
    elim (is_pushed xs) [
      | inl e ↦ omega (arith, ap (λ (zs : List ℕ). length zs) e)
      | inr p ↦
          let size = ap (λ (zs : List ℕ). length zs) p.2 ∙ length-append p.0 (p.1 ∷ []) in
          let ends = free_pop arcs u p.0 p.1 v (subst (λ (zs : List ℕ). IsFreePath arcs u zs v) p.2 h) in
          let before = depth_most arcs n (arc_at arcs p.1).tail u p.0 ends.front (omega (arith, l, size)) in
          let among = filter_contains (λ b. is_free (arc_at arcs b)) (arcs_into arcs v) p.1 (into_contains arcs p.1 v ends.within ends.head) ends.free in
          let above = greatest_above (λ b. suc (free_depth arcs n (arc_at arcs b).tail)) (free_arcs_into arcs v) p.1 among in
          omega (arith, above, before, size)
    ]

-- a rank is the computed one
pub rank_computed : (count : ℕ) (arcs : List GraphArc) (v rank : ℕ) → AreBetween count arcs → v < count → IsRank arcs v rank → rank ≡ free_depth arcs (count) v
rank_computed count arcs v rank fit l h =
    let small = rank_small count arcs v rank fit l h in
    let up = depth_most arcs count v h.start h.path h.leads (omega (arith, small, h.size)) in
    let reached = has_depth arcs count v in
    let down = h.longest reached.start reached.path reached.leads in
    omega (arith, up, down, h.size, reached.size)

-- where there is no cycle the computed number is the rank
pub computed_rank : (count : ℕ) (arcs : List GraphArc) (v : ℕ) → AreBetween count arcs → HasNoFreeCycle arcs → v < count → IsRank arcs v (free_depth arcs (count) v)
computed_rank count arcs v fit acyclic l =
    let reached = has_depth arcs count v in
    let none = acyclic_ends_none arcs v acyclic in
    record {
      start = reached.start;
      path = reached.path;
      leads = reached.leads;
      size = reached.size;
      longest = λ u other h. depth_most arcs count v u other h (omega (arith, short count arcs u other v fit l none h));
    }
