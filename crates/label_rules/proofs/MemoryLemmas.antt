-- Memories from either end, up to the law that they are one condition.
use Rattle.std.proofs.Common.{◌≡◌, ℕ, zero, suc, ◌<◌, ◌&&◌, Bool, true, Option, None, Some, List, [], ◌∷◌, ◌++◌, length, reverse, inl, inr, refl, sym, ◌∙◌, ap, subst, arith}
use Rattle.std.proofs.lemmas.Bool.{false≢true, or_cases, or_left, or_right, and_parts, and_from, eqb-true, eq-eqb}
use Rattle.std.proofs.lemmas.List.{reverse-append}
use Rattle.ng_sets.specs.Memory.{is_visited}
use Rattle.label_rules.specs.Memories.{AreAccepted, AreAcceptedBackward, AreDisjoint, HasNoRevisit, IsRefused, Meet, MemoriesMeetLaw, MemoriesReversedLaw, Visit, memory_backward, memory_forward, nothing, remembered, visit_in}

-- a visit is refused where its set is in the memory
refused_at : (memory : ℕ → Bool) (set : Option ℕ) (s : ℕ) → is_visited set s ≡ true → memory s ≡ true → IsRefused memory set
refused_at memory None s v m = absurd (false≢true v)
refused_at memory (Some t) s v m = subst (λ (n : ℕ). memory n ≡ true) (eqb-true s t v) m

pub refused_set : (memory : ℕ → Bool) (set : Option ℕ) → IsRefused memory set → (s : ℕ) × (is_visited set s ≡ true) × (memory s ≡ true)
refused_set memory None r = absurd r
refused_set memory (Some t) r = (t, eq-eqb t t refl, r)

visited_some : (set : Option ℕ) (s : ℕ) → is_visited set s ≡ true → set ≡ Some s
visited_some None s v = absurd (false≢true v)
visited_some (Some t) s v = ap Some (sym (eqb-true s t v))

some_visited : (set : Option ℕ) (s : ℕ) → set ≡ Some s → is_visited set s ≡ true
some_visited set s e = subst (λ (o : Option ℕ). is_visited o s ≡ true) (sym e) (eq-eqb s s refl)

-- what is kept, and what is new
pub remembered_old : (memory : ℕ → Bool) (visit : Visit) (s : ℕ) → memory s ≡ true → visit.near s ≡ true → remembered memory visit s ≡ true
remembered_old memory visit s m n = or_left (memory s && visit.near s) (is_visited visit.set s) (and_from (memory s) (visit.near s) m n)

pub remembered_new : (memory : ℕ → Bool) (visit : Visit) (s : ℕ) → is_visited visit.set s ≡ true → remembered memory visit s ≡ true
remembered_new memory visit s v = or_right (memory s && visit.near s) (is_visited visit.set s) v

-- visits are accepted from a memory exactly where they are backward and the two memories are disjoint
pub accepted_backward : (memory : ℕ → Bool) (ys : List Visit) → AreAccepted memory ys → AreAcceptedBackward ys × AreDisjoint memory (memory_backward ys)
accepted_backward memory [] h = (tt, λ s m n. false≢true n)
accepted_backward memory (visit ∷ rest) h =
    let more = accepted_backward (remembered memory visit) rest h.1 in
    let free : ¬ (IsRefused (memory_backward rest) visit.set) = λ r.
    let at = refused_set (memory_backward rest) visit.set r in
    more.1 at.0 (remembered_new memory visit at.0 at.1) at.2 in (
      (free, more.0),
      λ s m n. elim (or_cases (memory_backward rest s && visit.near s) (is_visited visit.set s) n) [
        | inl old ↦
            let parts = and_parts (memory_backward rest s) (visit.near s) old in
            more.1 s (remembered_old memory visit s m parts.1) parts.0
        | inr new ↦ h.0 (refused_at memory visit.set s new m)
      ],
    )

pub backward_accepted : (memory : ℕ → Bool) (ys : List Visit) → AreAcceptedBackward ys → AreDisjoint memory (memory_backward ys) → AreAccepted memory ys
backward_accepted memory [] h d = tt
backward_accepted memory (visit ∷ rest) h d =
    let free : ¬ (IsRefused memory visit.set) = λ r.
    let at = refused_set memory visit.set r in
    d at.0 at.2 (remembered_new (memory_backward rest) visit at.0 at.1) in (
      free,
      backward_accepted (remembered memory visit) rest h.1 (λ s m n. elim (or_cases (memory s && visit.near s) (is_visited visit.set s) m) [
        | inl old ↦
            let parts = and_parts (memory s) (visit.near s) old in
            d s parts.0 (remembered_old (memory_backward rest) visit s n parts.1)
        | inr new ↦ h.0 (refused_at (memory_backward rest) visit.set s new n)
      ]),
    )

-- visits one after the other
pub accepted_split : (memory : ℕ → Bool) (xs ys : List Visit) → AreAccepted memory (xs ++ ys) → AreAccepted memory xs × AreAccepted (memory_forward memory xs) ys
accepted_split memory [] ys h = (tt, h)
accepted_split memory (visit ∷ rest) ys h =
    let more = accepted_split (remembered memory visit) rest ys h.1 in
    ((h.0, more.0), more.1)

pub accepted_append : (memory : ℕ → Bool) (xs ys : List Visit) → AreAccepted memory xs → AreAccepted (memory_forward memory xs) ys → AreAccepted memory (xs ++ ys)
accepted_append memory [] ys h k = k
accepted_append memory (visit ∷ rest) ys h k = (h.0, accepted_append (remembered memory visit) rest ys h.1 k)

memory_forward-append : (memory : ℕ → Bool) (xs ys : List Visit) → memory_forward memory (xs ++ ys) ≡ memory_forward (memory_forward memory xs) ys
memory_forward-append memory [] ys = refl
memory_forward-append memory (visit ∷ rest) ys = memory_forward-append (remembered memory visit) rest ys

-- backward is forward over the visits in the other order
back_reversed : (visits : List Visit) → memory_backward visits ≡ memory_forward nothing (reverse visits)
back_reversed [] = refl
back_reversed (visit ∷ rest) =
    let turned : reverse (visit ∷ rest) ≡ reverse rest ++ visit ∷ [] = reverse-append (visit ∷ []) rest in
    ap (λ (f : ℕ → Bool). remembered f visit) (back_reversed rest)
    ∙ sym (ap (memory_forward nothing) turned ∙ memory_forward-append nothing (reverse rest) (visit ∷ []))

reversed_accepted : (visits : List Visit) → AreAcceptedBackward visits → AreAccepted nothing (reverse visits)
reversed_accepted [] h = tt
reversed_accepted (visit ∷ rest) h =
    let turned : reverse (visit ∷ rest) ≡ reverse rest ++ visit ∷ [] = reverse-append (visit ∷ []) rest in
    let free = subst (λ (f : ℕ → Bool). ¬ (IsRefused f visit.set)) (back_reversed rest) h.0 in
    subst (AreAccepted nothing) (sym turned) (accepted_append nothing (reverse rest) (visit ∷ []) (reversed_accepted rest h.1) (free, tt))

accepted_reversed : (visits : List Visit) → AreAccepted nothing (reverse visits) → AreAcceptedBackward visits
accepted_reversed [] h = tt
accepted_reversed (visit ∷ rest) h =
    let turned : reverse (visit ∷ rest) ≡ reverse rest ++ visit ∷ [] = reverse-append (visit ∷ []) rest in
    let parts = accepted_split nothing (reverse rest) (visit ∷ []) (subst (AreAccepted nothing) turned h) in
    (subst (λ (f : ℕ → Bool). ¬ (IsRefused f visit.set)) (sym (back_reversed rest)) parts.1.0, accepted_reversed rest parts.0)

pub reverse_law : MemoriesReversedLaw
reverse_law visits = (back_reversed visits, (reversed_accepted visits, accepted_reversed visits))

pub accepted_meet : (xs ys : List Visit) → AreAccepted nothing (xs ++ ys) → Meet xs ys
accepted_meet xs ys h =
    let parts = accepted_split nothing xs ys h in
    let rest = accepted_backward (memory_forward nothing xs) ys parts.1 in
    record { forward = parts.0; backward = rest.0; disjoint = rest.1 }

pub meet_accepted : (xs ys : List Visit) → Meet xs ys → AreAccepted nothing (xs ++ ys)
meet_accepted xs ys h = accepted_append nothing xs ys h.forward (backward_accepted (memory_forward nothing xs) ys h.backward h.disjoint)

-- a set is remembered backward where some visit is to it and it is near each vertex before that
abbrev IsNearUntil : List Visit → ℕ → ℕ → Type 0
IsNearUntil visits j s = (j < length visits) × ((visit_in visits j).set ≡ Some s) × ((m : ℕ) → m < j → (visit_in visits m).near s ≡ true)

back_near : (visits : List Visit) (s : ℕ) → memory_backward visits s ≡ true → (j : ℕ) × IsNearUntil visits j s
back_near [] s h = absurd (false≢true h)
back_near (visit ∷ rest) s h = elim (or_cases (memory_backward rest s && visit.near s) (is_visited visit.set s) h) [
  | inl old ↦
      let parts = and_parts (memory_backward rest s) (visit.near s) old in
      let more = back_near rest s parts.0 in
      (suc more.0, (omega (arith, more.1.0), more.1.1, near_more visit rest s more.0 parts.1 more.1.2))
  | inr new ↦ (zero, (omega arith, visited_some visit.set s new, λ m l. absurd (omega arith)))
]
  where
    near_more : (visit : Visit) (rest : List Visit) (s j : ℕ) → visit.near s ≡ true → ((m : ℕ) → m < j → (visit_in rest m).near s ≡ true) → (m : ℕ) → m < suc j → (visit_in (visit ∷ rest) m).near s ≡ true
    near_more visit rest s j here later zero l = here
    near_more visit rest s j here later (suc m) l = later m (omega arith)

near_back : (visits : List Visit) (s j : ℕ) → IsNearUntil visits j s → memory_backward visits s ≡ true
near_back [] s j h = absurd (omega (arith, h.0))
near_back (visit ∷ rest) s zero h = remembered_new (memory_backward rest) visit s (some_visited visit.set s h.1)
near_back (visit ∷ rest) s (suc j) h =
    remembered_old (memory_backward rest) visit s (near_back rest s j (omega (arith, h.0), h.1, λ m l. h.2 (suc m) (omega arith))) (h.2 0 (omega arith))

-- visits are accepted backward exactly where none is a revisit
pub accepted_no_revisit : (visits : List Visit) → AreAcceptedBackward visits → HasNoRevisit visits
accepted_no_revisit [] h i j s r = absurd (omega (arith, r.within))
accepted_no_revisit (visit ∷ rest) h i zero s r = absurd (omega (arith, r.before))
accepted_no_revisit (visit ∷ rest) h zero (suc j) s r =
    h.0 (refused_at (memory_backward rest) visit.set s (some_visited visit.set s r.first)
    (near_back rest s j (omega (arith, r.within), r.second, λ m l. r.near (suc m) (omega arith) (omega arith))))
accepted_no_revisit (visit ∷ rest) h (suc i) (suc j) s r =
    accepted_no_revisit rest h.1 i j s (record {
      before = omega (arith, r.before);
      within = omega (arith, r.within);
      first = r.first;
      second = r.second;
      near = λ m l k. r.near (suc m) (omega arith) (omega arith);
    })

pub no_revisit_accepted : (visits : List Visit) → HasNoRevisit visits → AreAcceptedBackward visits
no_revisit_accepted [] h = tt
no_revisit_accepted (visit ∷ rest) h =
    let free : ¬ (IsRefused (memory_backward rest) visit.set) = λ r.
    let at = refused_set (memory_backward rest) visit.set r in
    let near = back_near rest at.0 at.2 in
    h 0 (suc near.0) at.0 (record {
      before = omega arith;
      within = omega (arith, near.1.0);
      first = visited_some visit.set at.0 at.1;
      second = near.1.1;
      near = between visit rest at.0 near.0 near.1.2;
    }) in (
      free,
      no_revisit_accepted rest (λ i j s r. h (suc i) (suc j) s (record {
        before = omega (arith, r.before);
        within = omega (arith, r.within);
        first = r.first;
        second = r.second;
        near = shifted visit rest i j s r.near;
      })),
    )
  where
    between : (visit : Visit) (rest : List Visit) (s j : ℕ) → ((m : ℕ) → m < j → (visit_in rest m).near s ≡ true) → (m : ℕ) → 0 < m → m < suc j → (visit_in (visit ∷ rest) m).near s ≡ true
    between visit rest s j h zero l k = absurd (omega arith)
    between visit rest s j h (suc m) l k = h m (omega arith)

    shifted : (visit : Visit) (rest : List Visit) (i j s : ℕ) → ((m : ℕ) → i < m → m < j → (visit_in rest m).near s ≡ true) → (m : ℕ) → suc i < m → m < suc j → (visit_in (visit ∷ rest) m).near s ≡ true
    shifted visit rest i j s h zero l k = absurd (omega arith)
    shifted visit rest i j s h (suc m) l k = h m (omega arith) (omega arith)

-- the law
pub memory_law : MemoriesMeetLaw
memory_law xs ys =
    let all : List Visit = xs ++ ys in
    let forward : AreAccepted nothing all → HasNoRevisit all = λ h. accepted_no_revisit all (accepted_backward nothing all h).0 in
    let back : HasNoRevisit all → AreAccepted nothing all = λ h. backward_accepted nothing all (no_revisit_accepted all h) (λ s m n. false≢true m) in (
      (forward, back),
      (accepted_no_revisit all, no_revisit_accepted all),
      (λ h. forward (meet_accepted xs ys h), λ h. accepted_meet xs ys (back h)),
    )
