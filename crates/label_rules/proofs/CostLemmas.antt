-- The costs of labels: first without cuts, then with them, up to the law that a join costs as much as the walk.
use Rattle.std.proofs.Common.{get_or, ◌-◌, ◌≡◌, ℕ, zero, suc, ◌+◌, ◌<◌, false, ℤ, pos, ◌+ℤ◌, Option, None, List, [], ◌∷◌, ◌++◌, length, map, reverse, refl, sym, ◌∙◌, ap, arith}
use Rattle.std.specs.Prelude.{nat_le}
use Rattle.std.proofs.lemmas.Bool.{cond-false, lt-leb}
use Rattle.std.proofs.lemmas.Int.{ints}
use Rattle.std.proofs.lemmas.List.{map-append, reverse-append, get_or_append_left}
use Rattle.std.proofs.lemmas.List.FromFn.{get_or-map-range_with_len, length-map-range_with_len}
use Rattle.std.specs.List.{range_with_len}
use Rattle.std.specs.Prelude.{replicate}
use Rattle.path_graph.specs.Walk.{arc_at, Leads, IsWalk}
use Rattle.path_graph.proofs.WalkLemmas.{leads_split}
use Rattle.rank1_cuts.specs.declared.cut.Cut.{Cut}
use Rattle.rank1_cuts.specs.Fit.{CutFits}
use Rattle.rank1_cuts.specs.Visits.{rises, state_after, state_from, rises_from, coef_of}
use Rattle.rank1_cuts.proofs.VisitsLemmas.{state_from-below, state_from-more, rises_from-more}
use Rattle.rank1_cuts.proofs.JoinLemmas.{join_coef}
use Rattle.label_rules.specs.Joins.{JoinCostLaw, join_cost, reached}
use Rattle.label_rules.specs.Labels.{Backward, Direction, Forward, Label, Setting, SettingFits, backward_label, cut_at, extended, forward_label, label_from, one_if, root, state_at, visit_at, visit_cost, visit_of}
use Rattle.label_rules.specs.Memories.{Visit}
use Rattle.label_rules.proofs.ChargeLemmas.{charges, charges-same, charges-add, charges-none}
use Rattle.label_rules.proofs.LabelLemmas.{visits, visits_whole}

-- without cuts: the costs of arcs and of visits
abbrev pub plain : Direction → Setting → List ℕ → ℤ
plain direction S [] = pos 0
plain direction S (a ∷ rest) = (S.arc_cost a +ℤ visit_cost S (visit_of direction S a).set) +ℤ plain direction S rest

plain-append : (direction : Direction) (S : Setting) (xs ys : List ℕ) → plain direction S (xs ++ ys) ≡ plain direction S xs +ℤ plain direction S ys
plain-append direction S [] ys = omega (arith, ints)
plain-append direction S (a ∷ rest) ys =
    let more = plain-append direction S rest ys in
    omega (arith, ints, more)

-- the visits forward_label and backward_label are the same, but for those of the first and the last vertex
plain_shift : (S : Setting) (v : ℕ) (arcs : List ℕ) (w : ℕ) → Leads S.graph v arcs w → visit_cost S (visit_at S v).set +ℤ plain Forward S arcs ≡ plain Backward S arcs +ℤ visit_cost S (visit_at S w).set
plain_shift S v [] w h =
    let same : visit_cost S (visit_at S v).set ≡ visit_cost S (visit_at S w).set = ap (λ (u : ℕ). visit_cost S (visit_at S u).set) h in
    omega (arith, ints, same)
plain_shift S v (a ∷ rest) w h =
    let more = plain_shift S (arc_at S.graph.arcs a).head rest w h.2 in
    let same : visit_cost S (visit_of Backward S a).set ≡ visit_cost S (visit_at S v).set = ap (λ (u : ℕ). visit_cost S (visit_at S u).set) h.1 in
    omega (arith, ints, more, same)

-- the sets of visits, and the states and the costs that they lead to
abbrev pub sets_of : List Visit → List (Option ℕ)
sets_of seen = map (λ (v : Visit). v.set) seen

abbrev pub seen : Direction → Setting → List ℕ → List (Option ℕ)
seen direction S arcs = sets_of (visits direction S arcs)

pub extended_state : (direction : Direction) (S : Setting) (l : Label) (a i : ℕ) → i < length S.cuts → state_at (extended direction S l a) i ≡ state_after (cut_at S i) (state_at l i) (visit_of direction S a).set
extended_state direction S l a i below =
    let f : ℕ → ℕ = λ k. state_after (cut_at S k) (state_at l k) (visit_of direction S a).set in
    let size = length-map-range_with_len f 0 (length S.cuts) in
    get_or_append_left (map f (range_with_len 0 (length S.cuts))) (replicate (64 - length S.cuts) 0) 0 i (omega (arith, size))
    ∙ get_or-map-range_with_len f 0 (length S.cuts) i i 0 below (omega arith)

pub zeros_at : (n k : ℕ) → ◌≡◌ {A = ℕ} (get_or (replicate n 0) k 0) 0
zeros_at zero k = refl
zeros_at (suc n) zero = refl
zeros_at (suc n) (suc k) = zeros_at n k

pub root_state : (direction : Direction) (S : Setting) (i : ℕ) → state_at (root direction S) i ≡ 0
root_state Forward S i = zeros_at 64 i
root_state Backward S i = zeros_at 64 i

pub forward_state : (S : Setting) (l : Label) (arcs : List ℕ) (i : ℕ) → i < length S.cuts → state_at (label_from S l arcs) i ≡ state_from (cut_at S i) (state_at l i) (seen Forward S arcs)
forward_state S l [] i below = refl
forward_state S l (a ∷ rest) i below =
    forward_state S (extended Forward S l a) rest i below
    ∙ ap (λ (s : ℕ). state_from (cut_at S i) s (seen Forward S rest)) (extended_state Forward S l a i below)

pub backward_state : (S : Setting) (arcs : List ℕ) (i : ℕ) → i < length S.cuts → state_at (backward_label S arcs) i ≡ state_from (cut_at S i) 0 (reverse (seen Backward S arcs))
backward_state S [] i below = root_state Backward S i
backward_state S (a ∷ rest) i below =
    let cut = cut_at S i in
    let set = (visit_of Backward S a).set in
    let turned : reverse (seen Backward S (a ∷ rest)) ≡ reverse (seen Backward S rest) ++ set ∷ [] = reverse-append (set ∷ []) (seen Backward S rest) in
    extended_state Backward S (backward_label S rest) a i below
    ∙ (ap (λ (s : ℕ). state_after cut s set) (backward_state S rest i below)
    ∙ sym (ap (state_from cut 0) turned ∙ state_from-more cut 0 (reverse (seen Backward S rest)) set))

pub forward_cost : (S : Setting) (l : Label) (arcs : List ℕ) → (label_from S l arcs).cost ≡ (l.cost +ℤ plain Forward S arcs) +ℤ charges S (λ i. rises_from (cut_at S i) (state_at l i) (seen Forward S arcs))
forward_cost S l [] =
    let none = charges-none S in
    omega (arith, ints, none)
forward_cost S l (a ∷ rest) =
    let set = (visit_of Forward S a).set in
    let here : ℕ → ℕ = λ i. one_if (rises (cut_at S i) (state_at l i) set) in
    let later : ℕ → ℕ = λ i. rises_from (cut_at S i) (state_after (cut_at S i) (state_at l i) set) (seen Forward S rest) in
    let more = forward_cost S (extended Forward S l a) rest in
    let moved = charges-same S (λ i. rises_from (cut_at S i) (state_at (extended Forward S l a) i) (seen Forward S rest)) later
    (λ i below. ap (λ (s : ℕ). rises_from (cut_at S i) s (seen Forward S rest)) (extended_state Forward S l a i below)) in
    let both = charges-add S here later in
    omega (arith, ints, more, moved, both)

pub backward_cost : (S : Setting) (arcs : List ℕ) → (backward_label S arcs).cost ≡ plain Backward S arcs +ℤ charges S (λ i. coef_of (cut_at S i) (reverse (seen Backward S arcs)))
backward_cost S [] =
    let none = charges-none S in
    omega (arith, ints, none)
backward_cost S (a ∷ rest) =
    let set = (visit_of Backward S a).set in
    let turned : reverse (seen Backward S (a ∷ rest)) ≡ reverse (seen Backward S rest) ++ set ∷ [] = reverse-append (set ∷ []) (seen Backward S rest) in
    let before : ℕ → ℕ = λ i. coef_of (cut_at S i) (reverse (seen Backward S rest)) in
    let here : ℕ → ℕ = λ i. one_if (rises (cut_at S i) (state_at (backward_label S rest) i) set) in
    let whole = charges-same S (λ i. coef_of (cut_at S i) (reverse (seen Backward S (a ∷ rest)))) (λ i. before i + here i)
    (λ i below. ap (coef_of (cut_at S i)) turned
    ∙ (rises_from-more (cut_at S i) 0 (reverse (seen Backward S rest)) set
    ∙ ap (λ (s : ℕ). before i + one_if (rises (cut_at S i) s set)) (sym (backward_state S rest i below)))) in
    let both = charges-add S before here in
    let more = backward_cost S rest in
    omega (arith, ints, more, whole, both)

-- a visit of no set at the end adds nothing
coef_none : (cut : Cut) (xs : List (Option ℕ)) (set : Option ℕ) → CutFits cut → set ≡ None → coef_of cut (xs ++ set ∷ []) ≡ coef_of cut xs
coef_none cut xs set fits e =
    let state = state_from cut 0 xs in
    let low : nat_le cut.den state ≡ false = lt-leb cut.den state (state_from-below cut 0 xs fits (omega (arith, fits.denominator.0))) in
    let none : one_if (rises cut state set) ≡ 0 = ap (λ (o : Option ℕ). one_if (rises cut state o)) e ∙ cond-false (nat_le cut.den state) 1 0 low in
    omega (arith, rises_from-more cut 0 xs set, none)

module _ (S : Setting) (front : List ℕ) (a : ℕ) (rest : List ℕ) (fits : SettingFits S) (walk : IsWalk S.graph (front ++ a ∷ rest)) where
  abbrev before : List (Option ℕ)
  before = seen Forward S front

  abbrev after : List (Option ℕ)
  after = seen Backward S rest

  abbrev last : Option ℕ
  last = (visit_at S S.graph.ends.sink).set

  seen_whole : seen Forward S (front ++ a ∷ rest) ≡ (before ++ after) ++ last ∷ []
  seen_whole =
      ap sets_of (visits_whole S front a rest fits walk)
      ∙ (map-append (λ (v : Visit). v.set) (visits Forward S front ++ visits Backward S rest) (visit_at S S.graph.ends.sink ∷ [])
      ∙ ap (λ (xs : List (Option ℕ)). xs ++ last ∷ []) (map-append (λ (v : Visit). v.set) (visits Forward S front) (visits Backward S rest)))

  -- how often a cut rises over the walk: over each part from its end, and where the states reach the denominator
  coef_whole : (i : ℕ) → i < length S.cuts → coef_of (cut_at S i) (seen Forward S (front ++ a ∷ rest))
      ≡ (coef_of (cut_at S i) before + coef_of (cut_at S i) (reverse after)) + reached S (forward_label S front) (backward_label S rest) i
  coef_whole i below =
      let cut = cut_at S i in
      let first = forward_state S (root Forward S) front i below ∙ ap (λ (s : ℕ). state_from cut s before) (root_state Forward S i) in
      let second = backward_state S rest i below in
      let both : state_from cut 0 before + state_from cut 0 (reverse after) ≡ state_at (forward_label S front) i + state_at (backward_label S rest) i = omega (arith, first, second) in
      ap (coef_of cut) seen_whole
      ∙ (coef_none cut (before ++ after) last (fits.cuts i below) fits.graph.fits.sink_free
      ∙ (join_coef cut before after (fits.cuts i below)
      ∙ ap (λ (s : ℕ). (coef_of cut before + coef_of cut (reverse after)) + one_if (nat_le cut.den s)) both))

  -- forward_label from the root the states are 0 at first
  from_root : (arcs : List ℕ) → (forward_label S arcs).cost ≡ (S.start +ℤ plain Forward S arcs) +ℤ charges S (λ i. coef_of (cut_at S i) (seen Forward S arcs))
  from_root arcs =
      let cost = forward_cost S (root Forward S) arcs in
      let same = charges-same S (λ i. rises_from (cut_at S i) (state_at (root Forward S) i) (seen Forward S arcs)) (λ i. coef_of (cut_at S i) (seen Forward S arcs))
      (λ i below. ap (λ (s : ℕ). rises_from (cut_at S i) s (seen Forward S arcs)) (root_state Forward S i)) in
      omega (arith, ints, cost, same)

  plain_whole : plain Forward S (front ++ a ∷ rest) ≡ (plain Forward S front +ℤ S.arc_cost a) +ℤ plain Backward S rest
  plain_whole =
      let parts = plain-append Forward S front (a ∷ rest) in
      let leads = (leads_split S.graph S.graph.ends.source front (a ∷ rest) S.graph.ends.sink walk).2.2 in
      let shift = plain_shift S (arc_at S.graph.arcs a).head rest S.graph.ends.sink leads in
      let none : visit_cost S last ≡ pos 0 = ap (visit_cost S) fits.graph.fits.sink_free in
      omega (arith, ints, parts, shift, none)

  join_costs : join_cost S (forward_label S front) a (backward_label S rest) ≡ (forward_label S (front ++ a ∷ rest)).cost
  join_costs =
      let x : ℕ → ℕ = λ i. coef_of (cut_at S i) before in
      let y : ℕ → ℕ = λ i. coef_of (cut_at S i) (reverse after) in
      let z : ℕ → ℕ = λ i. reached S (forward_label S front) (backward_label S rest) i in
      let whole = charges-same S (λ i. coef_of (cut_at S i) (seen Forward S (front ++ a ∷ rest))) (λ i. (x i + y i) + z i) coef_whole in
      let outer = charges-add S (λ i. x i + y i) z in
      let inner = charges-add S x y in
      let first = from_root front in
      let second = backward_cost S rest in
      let all = from_root (front ++ a ∷ rest) in
      omega (arith, ints, whole, outer, inner, first, second, all, plain_whole)

pub join_cost_law : JoinCostLaw
join_cost_law S front a rest fits walk = join_costs S front a rest fits walk
