-- The least of numbers with a property, kind by kind.
use Rattle.std.proofs.Common.{◌≡◌, ℕ, ◌+◌, ◌<◌, ◌≤◌, ◌⊎◌, Bool, true, false, ℤ, pos, ◌≤ℤ◌, ◌<ℤ◌, Decides, Option, None, Some, List, [], ◌∷◌, ◌++◌, length, get_or, take, inl, inr, refl, sym, subst, arith}
use Rattle.std.specs.Prelude.{Contains, MatchOption, if◌then◌else◌}
use lib.Signed.{le_z, lt_z}
use Rattle.std.proofs.lemmas.Bool.{cases_lt}
use Rattle.std.proofs.lemmas.Int.{ints}
use Rattle.std.proofs.lemmas.List.{take_all, take_more}
use Rattle.std.proofs.lemmas.List.Elements.{Contains-append_left, Contains-push, Contains-push_cases}
use Rattle.path_graph.specs.Bounds.{IsAtLeast}
use Rattle.path_graph.specs.Walk.{arc_at}
use Rattle.label_rules.specs.Joins.{IsJoinOf, Joins, join_cost}
use Rattle.label_rules.specs.declared.label.Label.{Label}
use Rattle.label_rules.specs.Labels.{Setting, SettingFits}
use Rattle.label_rules.specs.Leasts.{AreAllAbove, Half, IsLeast}
use Rattle.label_rules.proofs.LeastLemmas.{least_law}
use Rattle.concatenate.specs.Costs.{BoundsWalks, IsCostBelow, IsCostOf, IsCostOver, IsCostWith, IsJoinCost, IsLeastWith, lesser_of}

-- the least is that of a property which says the same
pub least_same : (P R : ℤ → Type 0) (r : Option ℤ) → IsLeastWith P r → ((x : ℤ) → P x → R x) → ((x : ℤ) → R x → P x) → IsLeastWith R r
least_same P R None least to from = λ x h. least x (from x h)
least_same P R (Some m) least to from = (to m least.0, λ x h. least.1 x (from x h))

-- the test of what lies below
pub below_decides : (x y : ℤ) → Decides (lt_z x y) (x <ℤ y)
below_decides x y = (λ h. grind (arith, ints, h), λ h. grind (arith, ints, h))

-- the least of what has the one property or the other is the lesser of the two leasts
less_is : (x y : ℤ) → le_z x y ≡ true → x ≤ℤ y
less_is x y h = grind (arith, ints, h)

more_is : (x y : ℤ) → le_z x y ≡ false → y ≤ℤ x
more_is x y h = grind (arith, ints, h)

module _ (P Q R : ℤ → Type 0) (first : (x : ℤ) → P x → R x) (second : (x : ℤ) → Q x → R x) (cases : (x : ℤ) → R x → P x ⊎ Q x) where
  chosen : (x y : ℤ) (b : Bool) → le_z x y ≡ b → IsLeastWith P (Some x) → IsLeastWith Q (Some y) → IsLeastWith R (Some (if b then x else y))
  chosen x y true e p q = (
    first x p.0,
    λ z h. elim (cases z h) [
      | inl k ↦ p.1 z k
      | inr k ↦ let less = less_is x y e in let least = q.1 z k in omega (arith, ints, less, least)
    ],
  )
  chosen x y false e p q = (
    second y q.0,
    λ z h. elim (cases z h) [
      | inl k ↦ let less = more_is x y e in let least = p.1 z k in omega (arith, ints, less, least)
      | inr k ↦ q.1 z k
    ],
  )

  pub least_of_both : (r s : Option ℤ) → IsLeastWith P r → IsLeastWith Q s → IsLeastWith R (lesser_of r s)
  least_of_both None None p q = λ x h. elim (cases x h) [
    | inl k ↦ p x k
    | inr k ↦ q x k
  ]
  least_of_both None (Some y) p q = (
    second y q.0,
    λ x h. elim (cases x h) [
      | inl k ↦ absurd (p x k)
      | inr k ↦ q.1 x k
    ],
  )
  least_of_both (Some x) None p q = (
    first x p.0,
    λ y h. elim (cases y h) [
      | inl k ↦ p.1 y k
      | inr k ↦ absurd (q y k)
    ],
  )
  least_of_both (Some x) (Some y) p q = chosen x y (le_z x y) refl p q

-- what code reads where it reads no label
abbrev pub no_label : Label
no_label = record { vertex = 0; values = record { at = [] }; memory = record { bits = [] }; states = []; cost = pos 0 }

module _ (S : Setting) where
  -- the cost of two labels, where they join
  pub pair_least : (f : Label) (a : ℕ) (b : Label) (r : Option ℤ) → MatchOption r (¬ (Joins S f a b)) (IsCostOf S f a b) → IsLeastWith (IsCostOf S f a b) r
  pair_least f a b None h = λ x k. h k.joins
  pair_least f a b (Some c) h = (h, λ x k. let same = h.same in let other = k.same in omega (arith, ints, same, other))

  -- one label more in the backward list
  pub with_label : (f : Label) (a : ℕ) (xs : List Label) (b : Label) (r s : Option ℤ) → IsLeastWith (IsCostWith S f a xs) r → IsLeastWith (IsCostOf S f a b) s
      → IsLeastWith (IsCostWith S f a (xs ++ b ∷ [])) (lesser_of r s)
  with_label f a xs b r s p q = least_of_both (IsCostWith S f a xs) (IsCostOf S f a b) (IsCostWith S f a (xs ++ b ∷ []))
      (λ x h. record { rest = h.rest; in_back = Contains-append_left xs (b ∷ []) h.rest h.in_back; join = h.join })
      (λ x h. record { rest = b; in_back = Contains-push xs b; join = h })
      (λ x h. elim (Contains-push_cases xs b h.rest h.in_back) [
        | inl k ↦ inl (record { rest = h.rest; in_back = k; join = h.join })
        | inr e ↦ inr (subst (λ (l : Label). IsCostOf S f a l x) (sym e) h.join)
      ])
      r s p q

  -- which stands elsewhere
  pub without_label : (f : Label) (a : ℕ) (xs : List Label) (b : Label) (r : Option ℤ) → ¬ ((arc_at S.graph.arcs a).head ≡ b.vertex) → IsLeastWith (IsCostWith S f a xs) r
      → IsLeastWith (IsCostWith S f a (xs ++ b ∷ [])) r
  without_label f a xs b r apart p = least_same (IsCostWith S f a xs) (IsCostWith S f a (xs ++ b ∷ [])) r p
      (λ x h. record { rest = h.rest; in_back = Contains-append_left xs (b ∷ []) h.rest h.in_back; join = h.join })
      (λ x h. elim (Contains-push_cases xs b h.rest h.in_back) [
        | inl k ↦ record { rest = h.rest; in_back = k; join = h.join }
        | inr e ↦ absurd (apart (subst (λ (l : Label). (arc_at S.graph.arcs a).head ≡ l.vertex) (sym e) h.join.joins.enters))
      ])

  pub with_none : (f : Label) (a : ℕ) → IsLeastWith (IsCostWith S f a []) None
  with_none f a x h = let l = h.in_back.1 in absurd (omega (arith, l))

  -- one label more in the forward list
  pub over_label : (a : ℕ) (xs back : List Label) (f : Label) (r s : Option ℤ) → IsLeastWith (IsCostOver S xs back a) r → IsLeastWith (IsCostWith S f a back) s
      → IsLeastWith (IsCostOver S (xs ++ f ∷ []) back a) (lesser_of r s)
  over_label a xs back f r s p q = least_of_both (IsCostOver S xs back a) (IsCostWith S f a back) (IsCostOver S (xs ++ f ∷ []) back a)
      (λ x h. record { front = h.front; in_fore = Contains-append_left xs (f ∷ []) h.front h.in_fore; join = h.join })
      (λ x h. record { front = f; in_fore = Contains-push xs f; join = h })
      (λ x h. elim (Contains-push_cases xs f h.front h.in_fore) [
        | inl k ↦ inl (record { front = h.front; in_fore = k; join = h.join })
        | inr e ↦ inr (subst (λ (l : Label). IsCostWith S l a back x) (sym e) h.join)
      ])
      r s p q

  pub over_other : (a : ℕ) (xs back : List Label) (f : Label) (r : Option ℤ) → ¬ ((arc_at S.graph.arcs a).tail ≡ f.vertex) → IsLeastWith (IsCostOver S xs back a) r
      → IsLeastWith (IsCostOver S (xs ++ f ∷ []) back a) r
  over_other a xs back f r apart p = least_same (IsCostOver S xs back a) (IsCostOver S (xs ++ f ∷ []) back a) r p
      (λ x h. record { front = h.front; in_fore = Contains-append_left xs (f ∷ []) h.front h.in_fore; join = h.join })
      (λ x h. elim (Contains-push_cases xs f h.front h.in_fore) [
        | inl k ↦ record { front = h.front; in_fore = k; join = h.join }
        | inr e ↦ absurd (apart (subst (λ (l : Label). (arc_at S.graph.arcs a).tail ≡ l.vertex) (sym e) h.join.join.joins.leaves))
      ])

  pub over_none : (a : ℕ) (back : List Label) → IsLeastWith (IsCostOver S [] back a) None
  over_none a back x h = let l = h.in_fore.1 in absurd (omega (arith, l))

  -- over a shut arc nothing joins
  pub over_shut : (a : ℕ) (fore back : List Label) → S.is_shut a ≡ true → IsLeastWith (IsCostOver S fore back a) None
  over_shut a fore back shut x h = let is_open = h.join.join.joins.open_arc in absurd (cc)

  -- the labels at the ends of the arc are in parts of the lists
  pub over_parts : (a : ℕ) (fore back xs ys : List Label) (r : Option ℤ)
      → ((l : Label) → Contains fore l → l.vertex ≡ (arc_at S.graph.arcs a).tail → Contains xs l) → ((l : Label) → Contains xs l → Contains fore l)
      → ((l : Label) → Contains back l → l.vertex ≡ (arc_at S.graph.arcs a).head → Contains ys l) → ((l : Label) → Contains ys l → Contains back l)
      → IsLeastWith (IsCostOver S xs ys a) r → IsLeastWith (IsCostOver S fore back a) r
  over_parts a fore back xs ys r in_xs from_xs in_ys from_ys p = least_same (IsCostOver S xs ys a) (IsCostOver S fore back a) r p
      (λ x h. record {
        front = h.front;
        in_fore = from_xs h.front h.in_fore;
        join = record { rest = h.join.rest; in_back = from_ys h.join.rest h.join.in_back; join = h.join.join };
      })
      (λ x h. record {
        front = h.front;
        in_fore = in_xs h.front h.in_fore (sym h.join.join.joins.leaves);
        join = record { rest = h.join.rest; in_back = in_ys h.join.rest h.join.in_back (sym h.join.join.joins.enters); join = h.join.join };
      })

  -- item by item
  pub with_item : (f : Label) (a : ℕ) (xs : List Label) (i : ℕ) (d : Label) (r s next : Option ℤ) → i < length xs → IsLeastWith (IsCostWith S f a (take i xs)) r
      → MatchOption s (¬ (Joins S f a (get_or xs i d))) (IsCostOf S f a (get_or xs i d)) → next ≡ lesser_of r s → IsLeastWith (IsCostWith S f a (take (i + 1) xs)) next
  with_item f a xs i d r s next within p pair is =
      subst (λ (ys : List Label). IsLeastWith (IsCostWith S f a ys) next) (sym (take_more xs i d within))
      (subst (IsLeastWith (IsCostWith S f a (take i xs ++ get_or xs i d ∷ []))) (sym is)
      (with_label f a (take i xs) (get_or xs i d) r s p (pair_least f a (get_or xs i d) s pair)))

  pub without_item : (f : Label) (a : ℕ) (xs : List Label) (i : ℕ) (d : Label) (r : Option ℤ) → i < length xs → IsLeastWith (IsCostWith S f a (take i xs)) r
      → ¬ ((arc_at S.graph.arcs a).head ≡ (get_or xs i d).vertex) → IsLeastWith (IsCostWith S f a (take (i + 1) xs)) r
  without_item f a xs i d r within p apart =
      subst (λ (ys : List Label). IsLeastWith (IsCostWith S f a ys) r) (sym (take_more xs i d within)) (without_label f a (take i xs) (get_or xs i d) r apart p)

  pub over_item : (a : ℕ) (xs back : List Label) (i : ℕ) (d : Label) (r s next : Option ℤ) → i < length xs → IsLeastWith (IsCostOver S (take i xs) back a) r
      → IsLeastWith (IsCostWith S (get_or xs i d) a back) s → next ≡ lesser_of r s → IsLeastWith (IsCostOver S (take (i + 1) xs) back a) next
  over_item a xs back i d r s next within p q is =
      subst (λ (ys : List Label). IsLeastWith (IsCostOver S ys back a) next) (sym (take_more xs i d within))
      (subst (IsLeastWith (IsCostOver S (take i xs ++ get_or xs i d ∷ []) back a)) (sym is) (over_label a (take i xs) back (get_or xs i d) r s p q))

  pub over_other_item : (a : ℕ) (xs back : List Label) (i : ℕ) (d : Label) (r : Option ℤ) → i < length xs → IsLeastWith (IsCostOver S (take i xs) back a) r
      → ¬ ((arc_at S.graph.arcs a).tail ≡ (get_or xs i d).vertex) → IsLeastWith (IsCostOver S (take (i + 1) xs) back a) r
  over_other_item a xs back i d r within p apart =
      subst (λ (ys : List Label). IsLeastWith (IsCostOver S ys back a) r) (sym (take_more xs i d within)) (over_other a (take i xs) back (get_or xs i d) r apart p)

  pub with_all : (f : Label) (a : ℕ) (xs : List Label) (i : ℕ) (r : Option ℤ) → length xs ≤ i → IsLeastWith (IsCostWith S f a (take i xs)) r → IsLeastWith (IsCostWith S f a xs) r
  with_all f a xs i r past p = subst (λ (ys : List Label). IsLeastWith (IsCostWith S f a ys) r) (take_all i xs past) p

  pub over_all : (a : ℕ) (xs back : List Label) (i : ℕ) (r : Option ℤ) → length xs ≤ i → IsLeastWith (IsCostOver S (take i xs) back a) r → IsLeastWith (IsCostOver S xs back a) r
  over_all a xs back i r past p = subst (λ (ys : List Label). IsLeastWith (IsCostOver S ys back a) r) (take_all i xs past) p

  -- one arc more
  pub below_arc : (fore back : List Label) (n : ℕ) (r s : Option ℤ) → IsLeastWith (IsCostBelow S fore back n) r → IsLeastWith (IsCostOver S fore back n) s
      → IsLeastWith (IsCostBelow S fore back (n + 1)) (lesser_of r s)
  below_arc fore back n r s p q = least_of_both (IsCostBelow S fore back n) (IsCostOver S fore back n) (IsCostBelow S fore back (n + 1))
      (λ x h. record { arc = h.arc; below = omega (arith, h.below); join = h.join })
      (λ x h. record { arc = n; below = omega arith; join = h })
      (λ x h. elim (cases_lt h.arc n) [
        | inl less ↦ inl (record { arc = h.arc; below = less; join = h.join })
        | inr past ↦ let e : h.arc ≡ n = omega (arith, past, h.below) in inr (subst (λ (a : ℕ). IsCostOver S fore back a x) e h.join)
      ])
      r s p q

  pub below_none : (fore back : List Label) → IsLeastWith (IsCostBelow S fore back 0) None
  below_none fore back x h = let l = h.below in absurd (omega (arith, l))

  pub below_all : (fore back : List Label) (r : Option ℤ) → IsLeastWith (IsCostBelow S fore back (length S.graph.arcs)) r → IsLeastWith (IsJoinCost S fore back) r
  below_all fore back r p = least_same (IsCostBelow S fore back (length S.graph.arcs)) (IsJoinCost S fore back) r p
      (λ x h. record { arc = h.arc; join = h.join })
      (λ x h. record { arc = h.arc; below = h.join.join.join.joins.there; join = h.join })

  -- a join of the lists is one of its costs
  over_join : (fore back : List Label) (f : Label) (a : ℕ) (b : Label) → IsJoinOf S fore back f a b → IsCostOver S fore back a (join_cost S f a b)
  over_join fore back f a b h = record { front = f; in_fore = h.in_fore; join = record { rest = b; in_back = h.in_back; join = record { joins = h.joins; same = refl } } }

  at_least : (P : ℤ → Type 0) (r : Option ℤ) (x : ℤ) → IsLeastWith P r → P x → IsAtLeast r x
  at_least P None x least h = least x h
  at_least P (Some m) x least h = least.1 x h

  -- the least join of a half pair bounds the walks
  pub bounds_walks : (fore back : List Label) (r : Option ℤ) → SettingFits S → IsLeastWith (IsJoinCost S fore back) r → BoundsWalks S fore back r
  bounds_walks fore back r fits least threshold walk covers admitted =
      let is : IsLeast S (Half threshold) fore back r = λ f a b h. at_least (IsJoinCost S fore back) r (join_cost S f a b) least (record { arc = a; join = over_join fore back f a b h }) in
      least_law S (Half threshold) fore back r walk fits covers is admitted

  -- all joins over an arc are above a limit where their least is, or where there is none
  pub none_above : (fore back : List Label) (a : ℕ) (limit : ℤ) → IsLeastWith (IsCostOver S fore back a) None → AreAllAbove S fore back (Some limit) a
  none_above fore back a limit least f b h = absurd (least (join_cost S f a b) (over_join fore back f a b h))

  pub least_above : (fore back : List Label) (a : ℕ) (limit least : ℤ) → IsLeastWith (IsCostOver S fore back a) (Some least) → limit <ℤ least → AreAllAbove S fore back (Some limit) a
  least_above fore back a limit least is above f b h =
      let under = is.1 (join_cost S f a b) (over_join fore back f a b h) in
      omega (arith, ints, under, above)

  pub above_least : (fore back : List Label) (a : ℕ) (limit least : ℤ) → IsLeastWith (IsCostOver S fore back a) (Some least) → AreAllAbove S fore back (Some limit) a → limit <ℤ least
  above_least fore back a limit least is above =
      let at = is.0 in
      let over = above at.front at.join.rest (record { in_fore = at.in_fore; in_back = at.join.in_back; joins = at.join.join.joins }) in
      let same = at.join.join.same in
      omega (arith, ints, over, same)
