-- How lists of nodes are joined, cut and exchanged.
use Rattle.std.proofs.Common.{◌≡◌, ℕ, ℤ, ◌<ℤ◌, ◌≤ℤ◌, List, [], ◌∷◌, ◌++◌, take, drop, map, inl, inr, refl, sym, ap, subst, ◌∙◌, append_assoc}
use Rattle.std.proofs.lemmas.List.{map-append, take-append-drop}
use Rattle.std.proofs.lemmas.Int.{by_lt_z}
use Rattle.proof_rules.specs.Grows.{Rules, Grows, Stops, IsFault, HoldsForSome, HoldsForEach, Descends, NoneBelow, IsSound}

-- one list goes on where the other ends
pub grows_append : {I N : Type 0} (r : Rules I N) (is ms js : List I) (xs ys : List N)
    → Grows r is xs ms → Grows r ms ys js → Grows r is (xs ++ ys) js
grows_append r is ms js [] ys g h = subst (λ (ks : List _). Grows r ks ys js) (sym g) h
grows_append r [] ms js (x ∷ xs) ys g h = absurd g
grows_append r (i ∷ is) ms js (x ∷ xs) ys g h =
    (g.0, grows_append r (r.children i x ++ is) ms js xs ys g.1 h)

-- items after those that are read stay open
pub grows_frame : {I N : Type 0} (r : Rules I N) (is js ks : List I) (xs : List N)
    → Grows r is xs js → Grows r (is ++ ks) xs (js ++ ks)
grows_frame r is js ks [] g = ap (λ (ms : List _). ms ++ ks) g
grows_frame r [] js ks (x ∷ xs) g = absurd g
grows_frame {I} r (i ∷ is) js ks (x ∷ xs) g =
    (g.0, subst (λ (ms : List I). Grows r ms xs (js ++ ks)) (append_assoc (r.children i x) is ks) (grows_frame r (r.children i x ++ is) js ks xs g.1))

-- what is open between the parts of a list
pub grows_cut : {I N : Type 0} (r : Rules I N) (is js : List I) (xs ys : List N)
    → Grows r is (xs ++ ys) js → (ms : List I) × Grows r is xs ms × Grows r ms ys js
grows_cut r is js [] ys g = (is, refl, g)
grows_cut r [] js (x ∷ xs) ys g = absurd g
grows_cut r (i ∷ is) js (x ∷ xs) ys g =
    let rest = grows_cut r (r.children i x ++ is) js xs ys g.1 in (rest.0, (g.0, rest.1), rest.2)

-- the nodes below the first items, and the others
pub grows_split : {I N : Type 0} (r : Rules I N) (first then : List I) (ns : List N)
    → Grows r (first ++ then) ns []
    → (xs : List N) × (ys : List N) × (ns ≡ xs ++ ys) × Grows r first xs [] × Grows r then ys []
grows_split r [] then ns g = ([], ns, refl, refl, g)
grows_split r (a ∷ first) then [] g = cc
grows_split {I} {N} r (a ∷ first) then (n ∷ ns) g =
    let rest = grows_split r (r.children a n ++ first) then ns (subst (λ (ks : List I). Grows r ks ns []) (sym (append_assoc (r.children a n) first then)) g.1) in
    (n ∷ rest.0, rest.1, ap (λ (ms : List N). n ∷ ms) rest.2, (g.0, rest.3), rest.4)

-- the items that stay open are determined
pub grows_once : {I N : Type 0} (r : Rules I N) (is js ks : List I) (xs : List N)
    → Grows r is xs js → Grows r is xs ks → js ≡ ks
grows_once r is js ks [] g h = sym g ∙ h
grows_once r [] js ks (x ∷ xs) g h = absurd g
grows_once r (i ∷ is) js ks (x ∷ xs) g h = grows_once r (r.children i x ++ is) js ks xs g.1 h.1

-- a subtree gives way to any other at the same item
pub grows_swap : {I N : Type 0} (r : Rules I N) (top js : List I) (i : I) (ms : List I) (before subtree after : List N)
    → Grows r top before (i ∷ ms) → Grows r (i ∷ []) subtree [] → Grows r ms after js
    → Grows r top (before ++ (subtree ++ after)) js
grows_swap r top js i ms before subtree after b s a =
    grows_append r top (i ∷ ms) js before (subtree ++ after) b
    (grows_append r (i ∷ ms) ms js subtree after (grows_frame r (i ∷ []) [] ms subtree s) a)

-- rules that allow more, with the same items below each node
pub grows_weaken : {I N : Type 0} (r s : Rules I N)
    → ((i : I) (n : N) → r.Fits i n → s.Fits i n × (r.children i n ≡ s.children i n))
    → (is js : List I) (ns : List N) → Grows r is ns js → Grows s is ns js
grows_weaken r s step is js [] g = g
grows_weaken r s step [] js (n ∷ ns) g = absurd g
grows_weaken {I} r s step (i ∷ is) js (n ∷ ns) g =
    let fits = step i n g.0 in
    (fits.0, subst (λ (ks : List I). Grows s (ks ++ is) ns js) fits.1 (grows_weaken r s step (r.children i n ++ is) js ns g.1))

-- the same, where the rules see less of an item
pub grows_carry : {I J N : Type 0} (r : Rules I N) (s : Rules J N) (f : I → J)
    → ((i : I) (n : N) → r.Fits i n → s.Fits (f i) n × (map f (r.children i n) ≡ s.children (f i) n))
    → (is js : List I) (ns : List N) → Grows r is ns js → Grows s (map f is) ns (map f js)
grows_carry r s f step is js [] g = ap (map f) g
grows_carry r s f step [] js (n ∷ ns) g = absurd g
grows_carry {I} {J} r s f step (i ∷ is) js (n ∷ ns) g =
    let fits = step i n g.0 in
    let rest = grows_carry r s f step (r.children i n ++ is) js ns g.1 in
    let same : map f (r.children i n ++ is) ≡ s.children (f i) n ++ map f is = map-append f (r.children i n) is ∙ ap (λ (ks : List J). ks ++ map f is) fits.1 in
    (fits.0, subst (λ (ks : List J). Grows s ks ns (map f js)) same rest)

-- what holds of some item of a part
pub some_first : {I : Type 0} (P : I → Type 0) (is js : List I) → HoldsForSome P is → HoldsForSome P (is ++ js)
some_first P [] js h = absurd h
some_first P (i ∷ is) js (inl h) = inl h
some_first P (i ∷ is) js (inr h) = inr (some_first P is js h)

pub some_last : {I : Type 0} (P : I → Type 0) (is js : List I) → HoldsForSome P js → HoldsForSome P (is ++ js)
some_last P [] js h = h
some_last P (i ∷ is) js h = inr (some_last P is js h)

-- what lies below z at an open item lies at one that stays open
pub grows_reach : {I N : Type 0} (r : Rules I N) (Has : I → ℤ → Type 0) (z : ℤ) → Descends r Has z
    → (is js : List I) (ns : List N) (cost : ℤ) → Grows r is ns js
    → HoldsForSome (λ i. Has i cost) is → cost <ℤ z → HoldsForSome (λ i. Has i cost) js
grows_reach {I} r Has z d is js [] cost g at below = subst (λ (ks : List I). HoldsForSome (λ i. Has i cost) ks) g at
grows_reach r Has z d [] js (n ∷ ns) cost g at below = absurd g
grows_reach r Has z d (i ∷ is) js (n ∷ ns) cost g (inl h) below =
    grows_reach r Has z d (r.children i n ++ is) js ns cost g.1 (some_first (λ j. Has j cost) (r.children i n) is (d i n cost g.0 h below)) below
grows_reach r Has z d (i ∷ is) js (n ∷ ns) cost g (inr h) below =
    grows_reach r Has z d (r.children i n ++ is) js ns cost g.1 (some_last (λ j. Has j cost) (r.children i n) is h) below

-- nothing below z lies at the items of whole trees
each_parts : {I : Type 0} (P : I → Type 0) (is js : List I) → HoldsForEach P (is ++ js) → HoldsForEach P is × HoldsForEach P js
each_parts P [] js h = (tt, h)
each_parts P (i ∷ is) js h = let rest = each_parts P is js h.1 in ((h.0, rest.0), rest.1)

pub grows_sound : {I N : Type 0} (r : Rules I N) (Has : I → ℤ → Type 0) (z : ℤ) → IsSound r Has z
    → (is : List I) (ns : List N) → Grows r is ns [] → HoldsForEach (NoneBelow Has z) is
grows_sound {I} r Has z sound is [] g = subst (λ (ks : List I). HoldsForEach (NoneBelow Has z) ks) (sym g) tt
grows_sound r Has z sound [] (n ∷ ns) g = absurd g
grows_sound r Has z sound (i ∷ is) (n ∷ ns) g =
    let parts = each_parts (NoneBelow Has z) (r.children i n) is (grows_sound r Has z sound (r.children i n ++ is) ns g.1) in
    (sound i n g.0 parts.0, parts.1)

-- rules that hand down what they look for are sound
none_of : {I : Type 0} (Has : I → ℤ → Type 0) (z cost : ℤ) (is : List I) → HoldsForEach (NoneBelow Has z) is
    → HoldsForSome (λ i. Has i cost) is → z ≤ℤ cost
none_of Has z cost [] each some = absurd some
none_of Has z cost (i ∷ is) each (inl h) = each.0 cost h
none_of Has z cost (i ∷ is) each (inr h) = none_of Has z cost is each.1 h

pub descends_sound : {I N : Type 0} (r : Rules I N) (Has : I → ℤ → Type 0) (z : ℤ) → Descends r Has z → IsSound r Has z
descends_sound r Has z d i n fits each cost has =
    by_lt_z cost z (λ below. none_of Has z cost (r.children i n) each (d i n cost fits has below)) (λ h. h)

-- a list with a fault does not grow to its end
stops_refuses : {I N : Type 0} (r : Rules I N) (is : List I) (ns : List N) → Stops r is ns → Grows r is ns [] → ⊥
stops_refuses r [] [] s g = s
stops_refuses r [] (n ∷ ns) s g = g
stops_refuses r (i ∷ is) [] s g = cc
stops_refuses r (i ∷ is) (n ∷ ns) s g = s g.0

pub fault_refuses : {I N : Type 0} (r : Rules I N) (is : List I) (ns : List N) (k : ℕ)
    → IsFault r is ns k → Grows r is ns [] → ⊥
fault_refuses {I} {N} r is ns k f g =
    let parts : take k ns ++ drop k ns ≡ ns = take-append-drop k ns in
    let cut = grows_cut r is [] (take k ns) (drop k ns) (subst (λ (ms : List N). Grows r is ms []) (sym parts) g) in
    let same = grows_once r is cut.0 f.open_items (take k ns) cut.1 f.grows in
    stops_refuses r f.open_items (drop k ns) f.stops (subst (λ (ms : List I). Grows r ms (drop k ns) []) same cut.2)
