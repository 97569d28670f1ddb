-- The lines of a tree, one after the other.
use Rattle.std.proofs.Common.{◌≡◌, ℕ, ◌<◌, ◌==◌, ◌&&◌, ◌||◌, Bool, true, false, cond, not, List, [], ◌∷◌, ◌++◌, length, take, inl, inr, refl, sym, ◌∙◌, ap, subst, arith, ◌⊎◌, length-append}
use Rattle.std.specs.Prelude.{Contains}
use Rattle.std.specs.declared.cmp.Ordering.{Ordering}
use Rattle.std.specs.declared.cmp.Ordering.TheVariants.{Equal}
use Rattle.std.specs.BTreeMap.{is_at}
use Rattle.std.specs.BTreeSet.{BTreeSet}
use Rattle.std.specs.Cmp.{Equal-is, nat_cmp_is}
use Rattle.std.specs.Ordering.{is_eq, nat_cmp, ordering_then}
use Rattle.std.proofs.lemmas.Map.Lookups.{exact_pairs, exact_unsigned}
use Rattle.path_graph.proofs.SetBitsLemmas.{same_tests}
use Rattle.std.proofs.lemmas.Bool.{cases_lt, eq-eqb, eqb-true, false≢true}
use Rattle.std.proofs.lemmas.List.{get_or-take, get_or_append_left, get_or_default, get_or_push, length-take, length_push}
use Rattle.std.proofs.lemmas.List.Elements.{Contains-append_left, Contains-push, Contains-push_cases}
use Rattle.std.proofs.Math.Seq.{get_or-append_seam}
use Rattle.proof_rules.specs.PrefixTrees.{Step, step_at}
use Rattle.list_check.specs.Lines.{AreDifferent, AreLines, has_line, pair_cmp}

or_cases : (x y : Bool) → (x || y) ≡ true → (x ≡ true) ⊎ (y ≡ true)
or_cases true y h = inl refl
or_cases false y h = inr h

or_right : (x y : Bool) → y ≡ true → (x || y) ≡ true
or_right true y h = refl
or_right false y h = h

both_true : (x y : Bool) → (x && y) ≡ true → (x ≡ true) × (y ≡ true)
both_true true y h = (refl, h)
both_true false y h = absurd (false≢true h)

same_both : (p a : ℕ) (x : Bool) → ((((p == p) && (a == a)) || x)) ≡ true
same_both p a x = ap (λ (b : Bool). (b && (a == a)) || x) (eq-eqb p p refl) ∙ ap (λ (b : Bool). b || x) (eq-eqb a a refl)

-- a step that is one of those before it
before : (xs : List Step) (s : Step) (m : ℕ) (ys : List Step) → m < length xs → step_at (xs ++ ys) m ≡ s → Contains xs s
before xs s m ys l e = (m, l, get_or_default xs m s _ l ∙ (sym (get_or_append_left xs ys _ m l) ∙ e))

pub lines_more : (xs : List Step) (s : Step) (lines more : BTreeSet (ℕ × ℕ)) → AreLines xs lines → has_line lines s.parent s.arc ≡ false
    → ((p a : ℕ) → has_line more p a ≡ (((p == s.parent) && (a == s.arc)) || has_line lines p a)) → AreLines (xs ++ s ∷ []) more
lines_more xs s lines more are none is = record {
  different = λ m n less l same.
      let first : m < length xs = omega (arith, less, l, length_push xs s) in
      elim (cases_lt n (length xs)) [
        | inl old ↦ are.different m n less old (sym (get_or_append_left xs (s ∷ []) _ m first) ∙ (same ∙ get_or_append_left xs (s ∷ []) _ n old))
        | inr past ↦
            let last = get_or_push xs s (record { parent = 0; arc = 0 }) n (omega (arith, past, l, length_push xs s)) in
            false≢true (sym none ∙ (are.each s.parent s.arc).1 (before xs s m (s ∷ []) first (same ∙ last)))
      ];
  each = λ p a. (
    λ met. elim (or_cases ((p == s.parent) && (a == s.arc)) (has_line lines p a) (sym (is p a) ∙ met)) [
      | inl here ↦
          let both = both_true (p == s.parent) (a == s.arc) here in
          let same : s ≡ record { parent = p; arc = a } = pair_is s p a (eqb-true p s.parent both.0) (eqb-true a s.arc both.1) in
          subst (Contains (xs ++ s ∷ [])) same (Contains-push xs s)
      | inr old ↦ Contains-append_left xs (s ∷ []) _ ((are.each p a).0 old)
    ],
    λ met. is p a ∙ elim (Contains-push_cases xs s (record { parent = p; arc = a }) met) [
      | inl old ↦ or_right ((p == s.parent) && (a == s.arc)) (has_line lines p a) ((are.each p a).1 old)
      | inr same ↦ subst (λ (t : Step). ((((p == t.parent) && (a == t.arc)) || has_line lines p a)) ≡ true) (sym same) (same_both p a (has_line lines p a))
    ],
  );
}
  where
    pair_is : (t : Step) (p a : ℕ) → p ≡ t.parent → a ≡ t.arc → t ≡ record { parent = p; arc = a }
    pair_is t p a e f = λ i. record { parent = sym e i; arc = sym f i }

pub lines_same : (xs rest : List Step) (s : Step) (lines : BTreeSet (ℕ × ℕ)) → AreLines xs lines → has_line lines s.parent s.arc ≡ true → ¬ (AreDifferent (xs ++ s ∷ rest))
lines_same xs rest s lines are there different =
    let old = (are.each s.parent s.arc).0 there in
    let here : step_at (xs ++ s ∷ rest) (length xs) ≡ s = get_or-append_seam xs s rest _ in
    let first : step_at (xs ++ s ∷ rest) old.0 ≡ s = get_or_append_left xs (s ∷ rest) _ old.0 old.1 ∙ (get_or_default xs old.0 _ s old.1 ∙ old.2) in
    different old.0 (length xs) old.1 (omega (arith, length-append xs (s ∷ rest))) (first ∙ sym here)

-- the test of a pair
pair_same : (p a : ℕ) → pair_cmp (p, a) (p, a) ≡ Equal
pair_same p a =
    let first : nat_cmp p p ≡ Equal = sym (nat_cmp_is p p Equal refl) in
    let second : nat_cmp a a ≡ Equal = sym (nat_cmp_is a a Equal refl) in
    ap (λ (o : Ordering). ordering_then o (nat_cmp a a)) first ∙ second

is_pair : (p q a b : ℕ) → is_at (pair_cmp (p, a)) (q, b) ≡ ((q == p) && (b == a))
is_pair p q a b =
    same_tests (is_at (pair_cmp (p, a)) (q, b)) ((q == p) && (b == a))
    (λ h.
    let equal : pair_cmp (p, a) (q, b) ≡ Equal = (Equal-is (pair_cmp (p, a) (q, b))).0 h in
    let same = exact_pairs nat_cmp nat_cmp exact_unsigned exact_unsigned (p, a) (q, b) equal in
    both_are (q == p) (b == a) (eq-eqb q p (sym (ap (λ (x : ℕ × ℕ). x.0) same))) (eq-eqb b a (sym (ap (λ (x : ℕ × ℕ). x.1) same))))
    (λ h.
    let both = both_true (q == p) (b == a) h in
    let first : q ≡ p = eqb-true q p both.0 in
    let second : b ≡ a = eqb-true b a both.1 in
    ap is_eq ((λ i. pair_cmp (p, a) (first i, second i)) ∙ pair_same p a))
  where
    both_are : (x y : Bool) → x ≡ true → y ≡ true → (x && y) ≡ true
    both_are true y h k = k
    both_are false y h k = absurd (false≢true h)

either_is : (b x : Bool) → cond b true x ≡ (b || x)
either_is true x = refl
either_is false x = refl

-- a line that is put
pub line_put : (lines more : BTreeSet (ℕ × ℕ)) (p a q b : ℕ) → has_line more q b ≡ cond (is_at (pair_cmp (p, a)) (q, b)) true (has_line lines q b) → has_line more q b ≡ (((q == p) && (b == a)) || has_line lines q b)
line_put lines more p a q b is = is ∙ (either_is (is_at (pair_cmp (p, a)) (q, b)) (has_line lines q b) ∙ ap (λ (x : Bool). x || has_line lines q b) (is_pair p q a b))

-- what is told of a line that is put
pub was_there : (new there : Bool) → new ≡ not there → new ≡ false → there ≡ true
was_there new true e h = refl
was_there new false e h = absurd (false≢true (sym h ∙ e))

pub was_new : (new there : Bool) → new ≡ not there → new ≡ true → there ≡ false
was_new new true e h = absurd (false≢true (sym e ∙ h))
was_new new false e h = refl

-- of different steps none is one of those before it
pub not_before : (xs : List Step) (i : ℕ) → AreDifferent xs → i < length xs → ¬ (Contains (take i xs) (step_at xs i))
not_before xs i different l h =
    let first : h.0 < i = omega (arith, h.1, length-take i xs) in
    let same : step_at xs h.0 ≡ step_at xs i = sym (get_or-take i xs h.0 _ first) ∙ (get_or_default (take i xs) h.0 _ (step_at xs i) h.1 ∙ h.2) in
    different h.0 i first l same
