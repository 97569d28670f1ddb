-- Lemmas on lists that are widened along a walk.
use Rattle.std.proofs.Common.{◌≡◌, ℕ, zero, suc, ◌+◌, ◌<◌, ◌≤◌, ◌&&◌, ◌||◌, ◌==◌, not, Bool, true, false, Option, None, Some, List, [], ◌∷◌, length, map, get_or, ◌⊎◌, refl, sym, ◌∙◌, ap, subst, inl, inr, arith}
use Rattle.std.proofs.lemmas.Bool.{cases_Bool, false≢true, or_cases, or_left, or_right, and_from, eqb-true, eq-eqb, cases_lt, cases_eq}
use Rattle.std.proofs.lemmas.List.{get_or-map, length-map}
use Rattle.std.proofs.lemmas.Option.{none-some, same_Some}
use Rattle.path_graph.specs.declared.set_bits.SetBits.{SetBits}
use Rattle.path_graph.specs.SetBits.{has_set, HasNoMember, IsWith}
use Rattle.path_graph.specs.Walk.{GraphParts, IsFeasibleWalk, Leads, arc_at}
use Rattle.ng_sets.specs.Memory.{IsRemembered, is_visited}
use Rattle.ng_sets.specs.Near.{graph_at, near_at, HasShape, IsVertex, KeepsOthers}
use Rattle.ng_sets.specs.Returns.{AreThere, IsVisitedBefore}
use Rattle.ng_sets.specs.Widening.{AreWidened, ComesBack, FitsGraph, HasNoneBefore, IsFirstReturn, IsRefusedAlong, count_below, has_grown, set_visited, visited}

-- the sets that were visited before a place, none of them twice
pub record AreSeen (graph : GraphParts) (arcs : List ℕ) (to : ℕ) (seen : SetBits) : Type 0 where
  pub known : (s : ℕ) → has_set seen s ≡ true → IsVisitedBefore graph arcs to s
  pub there : (s : ℕ) → IsVisitedBefore graph arcs to s → has_set seen s ≡ true
  pub none : HasNoneBefore graph arcs to

pub none_seen : (graph : GraphParts) (arcs : List ℕ) (seen : SetBits) → HasNoMember seen → AreSeen graph arcs 0 seen
none_seen graph arcs seen empty = record {
  known = λ s h. absurd (false≢true (sym (empty s) ∙ h));
  there = λ s before. absurd (omega (arith, before.1));
  none = λ i j s less back. omega (arith, less);
}

-- a visit more
none_next : (graph : GraphParts) (arcs : List ℕ) (to : ℕ) → HasNoneBefore graph arcs to
    → ((i s : ℕ) → ¬ (ComesBack graph arcs i to s)) → HasNoneBefore graph arcs (suc to)
none_next graph arcs to none here i j s less back = elim (cases_lt j to) [
  | inl l ↦ none i j s l back
  | inr l ↦
      let e : j ≡ to = omega (arith, less, l) in
      here i s (subst (λ (n : ℕ). ComesBack graph arcs i n s) e back)
]

before_next : (graph : GraphParts) (arcs : List ℕ) (to s : ℕ) → IsVisitedBefore graph arcs to s → IsVisitedBefore graph arcs (suc to) s
before_next graph arcs to s (i, less, is) = (i, omega (arith, less), is)

pub seen_none : (graph : GraphParts) (arcs : List ℕ) (to : ℕ) (seen : SetBits) → AreSeen graph arcs to seen → set_visited graph arcs to ≡ None → AreSeen graph arcs (suc to) seen
seen_none graph arcs to seen h is = record {
  known = λ s has. before_next graph arcs to s (h.known s has);
  there = λ s before. elim (cases_lt before.0 to) [
    | inl l ↦ h.there s (before.0, l, before.2)
    | inr l ↦
        let e : before.0 ≡ to = omega (arith, before.1, l) in
        absurd (none-some s (sym is ∙ subst (λ (n : ℕ). set_visited graph arcs n ≡ Some s) e before.2))
  ];
  none = none_next graph arcs to h.none (λ i s back. none-some s (sym is ∙ back.second));
}

pub seen_next : (graph : GraphParts) (arcs : List ℕ) (to set : ℕ) (seen more : SetBits) → AreSeen graph arcs to seen → set_visited graph arcs to ≡ Some set
    → has_set seen set ≡ false → IsWith seen set more → AreSeen graph arcs (suc to) more
seen_next graph arcs to set seen more h is new with = record {
  known = λ s has. elim (or_cases (has_set seen s) (s == set) (sym (with s) ∙ has)) [
    | inl old ↦ before_next graph arcs to s (h.known s old)
    | inr e ↦ (to, omega arith, is ∙ ap Some (sym (eqb-true s set e)))
  ];
  there = λ s before. with s ∙ elim (cases_lt before.0 to) [
    | inl l ↦ or_left (has_set seen s) (s == set) (h.there s (before.0, l, before.2))
    | inr l ↦
        let e : before.0 ≡ to = omega (arith, before.1, l) in
        or_right (has_set seen s) (s == set) (eq-eqb s set (same_Some s set (sym (subst (λ (n : ℕ). set_visited graph arcs n ≡ Some s) e before.2) ∙ is)))
  ];
  none = none_next graph arcs to h.none (λ i s back.
      let e : s ≡ set = same_Some s set (sym back.second ∙ is) in
      false≢true (sym new ∙ ap (has_set seen) (sym e) ∙ h.there s (i, back.before, back.first)));
}

-- the set is near each vertex that was passed, and each list is as it was or has grown by the set
pub record AreWidening (graph : GraphParts) (g : ℕ) (arcs : List ℕ) (from m s : ℕ) (old new : List (List SetBits)) : Type 0 where
  pub lists : AreWidened graph g arcs from m s old new
  pub kinds : (v : ℕ) → (near_at new g v ≡ near_at old g v) ⊎ IsWith (near_at old g v) s (near_at new g v)

pub widening_starts : (graph : GraphParts) (g : ℕ) (arcs : List ℕ) (from s : ℕ) (near : List (List SetBits)) → AreWidening graph g arcs from (from + 1) s near near
widening_starts graph g arcs from s near = record {
  lists = record {
    shape = refl;
    between = λ m above below. absurd (omega (arith, above, below));
    others = λ h v other. refl;
  };
  kinds = λ v. inl refl;
}

-- a set with a member twice
with_twice : (old mid new : SetBits) (s : ℕ) → IsWith old s mid → IsWith mid s new → IsWith old s new
with_twice old mid new s first second k =
    second k ∙ (ap (λ (b : Bool). b || (k == s)) (first k) ∙ same (has_set old k) (k == s)) where
      same : (a b : Bool) → ((a || b) || b) ≡ (a || b)
      same true b = refl
      same false true = refl
      same false false = refl

with_from : (old mid new : SetBits) (s : ℕ) → (mid ≡ old) ⊎ IsWith old s mid → IsWith mid s new → IsWith old s new
with_from old mid new s (inl e) with = subst (λ (x : SetBits). IsWith x s new) e with
with_from old mid new s (inr first) with = with_twice old mid new s first with

pub widening_next : (graph : GraphParts) (g : ℕ) (arcs : List ℕ) (from m s : ℕ) (old mid new : List (List SetBits)) → from < m
    → AreWidening graph g arcs from m s old mid → IsWith (near_at mid g (visited graph arcs m)) s (near_at new g (visited graph arcs m))
    → KeepsOthers mid new g (visited graph arcs m) → HasShape mid new → AreWidening graph g arcs from (m + 1) s old new
widening_next graph g arcs from m s old mid new above h with keeps shape = record {
  lists = record {
    shape = shape ∙ h.lists.shape;
    between = λ l over below. elim (cases_eq (visited graph arcs l) v) [
      | inl e ↦ subst (λ (w : ℕ). IsWith (near_at old g w) s (near_at new g w)) (sym e) here
      | inr other ↦ elim (cases_lt l m) [
        | inl less ↦ subst (λ (x : SetBits). IsWith (near_at old g (visited graph arcs l)) s x)
            (sym (keeps g (visited graph arcs l) (λ same. other same.1))) (h.lists.between l over less)
        | inr least ↦
            let e : l ≡ m = omega (arith, below, least) in
            absurd (other (ap (visited graph arcs) e))
      ]
    ];
    others = λ k w away.
        keeps k w (λ same. away (same.0, (m, above, omega arith, sym same.1)))
        ∙ h.lists.others k w (λ inside. away (inside.0, (inside.1.0, inside.1.1, omega (arith, inside.1.2), inside.1.3)));
  };
  kinds = λ w. elim (cases_eq w v) [
    | inl e ↦ inr (subst (λ (x : ℕ). IsWith (near_at old g x) s (near_at new g x)) (sym e) here)
    | inr other ↦ subst (λ (x : SetBits). (x ≡ near_at old g w) ⊎ IsWith (near_at old g w) s x) (sym (keeps g w (λ same. other same.1))) (h.kinds w)
  ];
} where
  v : ℕ
  v = visited graph arcs m

  here : IsWith (near_at old g v) s (near_at new g v)
  here = with_from (near_at old g v) (near_at mid g v) (near_at new g v) s (h.kinds v) with

-- no list grew at first
not_grown : (near : List (List SetBits)) (g s v : ℕ) → has_grown near near g s v ≡ false
not_grown near g s v = never (has_set (near_at near g v) s) where
  never : (b : Bool) → (b && not b) ≡ false
  never true = refl
  never false = refl

pub none_below : (n : ℕ) (test : ℕ → Bool) → ((v : ℕ) → test v ≡ false) → 0 ≡ count_below n test
none_below zero test fails = refl
none_below (suc n) test fails = none_below n test fails ∙ rw (fails n) (omega arith)

pub none_grown : (n : ℕ) (near : List (List SetBits)) (g s : ℕ) → 0 ≡ count_below n (has_grown near near g s)
none_grown n near g s = none_below n (has_grown near near g s) (not_grown near g s)

pub at_most_all : (n : ℕ) (test : ℕ → Bool) → count_below n test ≤ n
at_most_all zero test = omega arith
at_most_all (suc n) test = elim (cases_Bool (test n)) [
  | inl y ↦ rw y (omega (arith, at_most_all n test))
  | inr y ↦ rw y (omega (arith, at_most_all n test))
]

-- tests that agree but at one number
same_count : (n : ℕ) (old new : ℕ → Bool) → ((v : ℕ) → v < n → new v ≡ old v) → count_below n new ≡ count_below n old
same_count zero old new agree = refl
same_count (suc n) old new agree = rw (agree n (omega arith), same_count n old new (λ v l. agree v (omega (arith, l)))) refl

pub one_more : (n at : ℕ) (old new : ℕ → Bool) → at < n → ((v : ℕ) → ¬ (v ≡ at) → new v ≡ old v) → old at ≡ false → new at ≡ true
    → count_below n new ≡ count_below n old + 1
one_more zero at old new inside agree was is = absurd (omega (arith, inside))
one_more (suc n) at old new inside agree was is = elim (cases_eq n at) [
  | inl e ↦
      let below = same_count n old new (λ v l. agree v (λ same. omega (arith, l, e, same))) in
      let was_there : old n ≡ false = ap old e ∙ was in
      let is_there : new n ≡ true = ap new e ∙ is in
      rw (was_there, is_there) (omega (arith, below))
  | inr other ↦
      let below = one_more n at old new (omega (arith, inside, other)) agree was is in
      rw (agree n other) (omega (arith, below))
]

pub same_grown : (n at : ℕ) (old new : ℕ → Bool) → ((v : ℕ) → ¬ (v ≡ at) → new v ≡ old v) → new at ≡ old at → count_below n new ≡ count_below n old
same_grown n at old new agree here = same_count n old new (λ v l. elim (cases_eq v at) [
  | inl e ↦ ap new e ∙ (here ∙ sym (ap old e))
  | inr other ↦ agree v other
])

-- whether a list grew, where a set is put near a vertex
pub grown_elsewhere : (old mid new : List (List SetBits)) (g s at v : ℕ) → KeepsOthers mid new g at → ¬ (v ≡ at) → has_grown old new g s v ≡ has_grown old mid g s v
grown_elsewhere old mid new g s at v keeps other = ap (λ (x : SetBits). has_set x s && not (has_set (near_at old g v) s)) (keeps g v (λ same. other same.1))

has_now : (mid new : SetBits) (s : ℕ) → IsWith mid s new → has_set new s ≡ true
has_now mid new s with = with s ∙ or_right (has_set mid s) (s == s) (eq-eqb s s refl)

-- it was not near the vertex before
not_before : (old mid : SetBits) (s : ℕ) → (mid ≡ old) ⊎ IsWith old s mid → has_set mid s ≡ false → has_set old s ≡ false
not_before old mid s (inl e) lacks = ap (λ (x : SetBits). has_set x s) (sym e) ∙ lacks
not_before old mid s (inr with) lacks = absurd (false≢true (sym lacks ∙ has_now old mid s with))

pub grew_here : (old mid new : List (List SetBits)) (g s v : ℕ) → (near_at mid g v ≡ near_at old g v) ⊎ IsWith (near_at old g v) s (near_at mid g v)
    → IsWith (near_at mid g v) s (near_at new g v) → has_set (near_at mid g v) s ≡ false → (has_grown old mid g s v ≡ false) × (has_grown old new g s v ≡ true)
grew_here old mid new g s v kind with lacks =
    let before = not_before (near_at old g v) (near_at mid g v) s kind lacks in
    (rw lacks refl, rw (has_now (near_at mid g v) (near_at new g v) s with, before) refl)

pub stayed_here : (old mid new : List (List SetBits)) (g s v : ℕ) → IsWith (near_at mid g v) s (near_at new g v) → has_set (near_at mid g v) s ≡ true
    → has_grown old new g s v ≡ has_grown old mid g s v
stayed_here old mid new g s v with has = rw (has_now (near_at mid g v) (near_at new g v) s with, has) refl

-- a walk that comes back to a set which is near each vertex between is refused
pub refused_between : (graph : GraphParts) (g : ℕ) (arcs : List ℕ) (from to s : ℕ) (old new : List (List SetBits)) → IsFirstReturn graph arcs from to s
    → AreWidened graph g arcs from to s old new → IsRefusedAlong new graph g arcs
refused_between graph g arcs from to s old new back lists memory rule = elim (reached to back.back.before (omega arith)) [
  | inl refused ↦ refused
  | inr has ↦ (to, back.within, subst (λ (o : Option ℕ). IsRemembered (memory to) o) (sym back.back.second) has)
] where
  decide : (k : ℕ) (o : Option ℕ) → IsRemembered (memory k) o ⊎ ¬ (IsRemembered (memory k) o)
  decide k None = inr (λ h. h)
  decide k (Some t) = elim (cases_Bool (has_set (memory k) t)) [ inl y ↦ inl y | inr y ↦ inr (λ h. false≢true (sym y ∙ h)) ]

  Refused : Type 0
  Refused = (k : ℕ) × (k < length arcs) × IsRemembered (memory k) (set_visited graph arcs k)

  begun : Refused ⊎ (has_set (memory (suc from)) s ≡ true)
  begun = elim (decide from (set_visited graph arcs from)) [
    | inl refused ↦ inl (from, omega (arith, back.back.before, back.within), refused)
    | inr taken ↦
        let after = rule.after from (omega (arith, back.back.before, back.within)) taken s in
        let visits : is_visited (set_visited graph arcs from) s ≡ true = ap (λ (o : Option ℕ). is_visited o s) back.back.first ∙ eq-eqb s s refl in
        inr (after ∙ or_right (has_set (memory from) s && has_set (near_at new g (visited graph arcs from)) s) (is_visited (set_visited graph arcs from) s) visits)
  ]

  passed : (k : ℕ) → from < k → k < to → Refused ⊎ (has_set (memory k) s ≡ true) → Refused ⊎ (has_set (memory (suc k)) s ≡ true)
  passed k above below (inl refused) = inl refused
  passed k above below (inr has) = elim (decide k (set_visited graph arcs k)) [
    | inl refused ↦ inl (k, omega (arith, below, back.within), refused)
    | inr taken ↦
        let after = rule.after k (omega (arith, below, back.within)) taken s in
        let near = has_now (near_at old g (visited graph arcs k)) (near_at new g (visited graph arcs k)) s (lists.between k above below) in
        inr (after ∙ or_left (has_set (memory k) s && has_set (near_at new g (visited graph arcs k)) s) (is_visited (set_visited graph arcs k) s)
        (and_from (has_set (memory k) s) (has_set (near_at new g (visited graph arcs k)) s) has near))
  ]

  reached : (k : ℕ) → from < k → k ≤ to → Refused ⊎ (has_set (memory k) s ≡ true)
  reached zero above most = absurd (omega (arith, above))
  reached (suc k) above most = elim (cases_lt from k) [
    | inl more ↦ passed k more (omega (arith, most)) (reached k more (omega (arith, most)))
    | inr least ↦
        let e : from ≡ k = omega (arith, above, least) in
        subst (λ (n : ℕ). Refused ⊎ (has_set (memory (suc n)) s ≡ true)) e begun
  ]

-- a list of the graph's vertices in the lists that are widened
pub vertex_there : (graph : GraphParts) (old new : List (List SetBits)) (g v : ℕ) → FitsGraph old g graph → HasShape old new → v < length graph.vertices → IsVertex new g v
vertex_there graph old new g v fits shape inside = (there, omega (arith, inside, fits.1, same)) where
  there : g < length new
  there = omega (arith, fits.0, sym (length-map new length) ∙ ap (λ (ns : List ℕ). length ns) shape ∙ length-map old length)

  row : (near : List (List SetBits)) → g < length near → length (graph_at near g) ≡ get_or (map length near) g 0
  row near less = sym (get_or-map length near g [] 0 less)

  same : length (graph_at new g) ≡ length (graph_at old g)
  same = row new there ∙ (ap (λ (ns : List ℕ). get_or ns g 0) shape ∙ sym (row old fits.0))

-- one list more has grown, or none
pub count_more : (graph : GraphParts) (g : ℕ) (arcs : List ℕ) (from m s v : ℕ) (old mid new : List (List SetBits)) → AreWidening graph g arcs from m s old mid
    → IsWith (near_at mid g v) s (near_at new g v) → KeepsOthers mid new g v → v < length graph.vertices → has_set (near_at mid g v) s ≡ false
    → count_below (length graph.vertices) (has_grown old new g s) ≡ count_below (length graph.vertices) (has_grown old mid g s) + 1
count_more graph g arcs from m s v old mid new h with keeps inside lacks =
    let here = grew_here old mid new g s v (h.kinds v) with lacks in
    one_more (length graph.vertices) v (has_grown old mid g s) (has_grown old new g s) inside (λ w other. grown_elsewhere old mid new g s v w keeps other) here.0 here.1

pub count_same : (n : ℕ) (g s v : ℕ) (old mid new : List (List SetBits)) → IsWith (near_at mid g v) s (near_at new g v) → KeepsOthers mid new g v → has_set (near_at mid g v) s ≡ true
    → count_below n (has_grown old new g s) ≡ count_below n (has_grown old mid g s)
count_same n g s v old mid new with keeps has =
    same_grown n v (has_grown old mid g s) (has_grown old new g s) (λ w other. grown_elsewhere old mid new g s v w keeps other) (stayed_here old mid new g s v with has)

-- the arcs of a walk are there
leads_inside : (graph : GraphParts) (v : ℕ) (arcs : List ℕ) (w : ℕ) → Leads graph v arcs w → AreThere graph arcs
leads_inside graph v [] w leads k inside = absurd (omega (arith, inside))
leads_inside graph v (a ∷ rest) w leads zero inside = leads.0
leads_inside graph v (a ∷ rest) w leads (suc k) inside = leads_inside graph (arc_at graph.arcs a).head rest w leads.2 k (omega (arith, inside))

pub walk_inside : (graph : GraphParts) (arcs : List ℕ) → IsFeasibleWalk graph arcs → AreThere graph arcs
walk_inside graph arcs feasible = leads_inside graph graph.ends.source arcs graph.ends.sink feasible.walk
