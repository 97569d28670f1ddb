-- A cut that does not fit has one first fault, and a cut that fits has none.
use Rattle.std.proofs.Common.{◌≡◌, ℕ, ◌≤◌, ◌↔◌, inl, inr, List, length, refl, sym, ◌∙◌, ap, subst, arith, Result, Ok, Err}
use Rattle.std.specs.Prelude.{IsOk}
use Rattle.std.proofs.lemmas.Bool.{cases_order}
use Rattle.rank1_cuts.specs.declared.cut.Cut.{Cut}
use Rattle.rank1_cuts.specs.declared.cut.CutSet.{CutSet}
use Rattle.rank1_cuts.specs.declared.cut.CutFault.{CutFault}
use Rattle.rank1_cuts.specs.declared.cut.CutFault.TheVariants.{Denominator, Empty, Long, Repeated, Numerator}
use Rattle.path_graph.specs.First.{EachBelow}
use Rattle.rank1_cuts.specs.Fit.{IsDenominator, IsFirst, IsRepeated, HasNumerator, item_at, CutFits, IsFault}

-- the first number is one
first_one : (n : ℕ) (P : ℕ → Type 0) (i j : ℕ) → IsFirst n P i → IsFirst n P j → i ≡ j
first_one n P i j p q = elim (cases_order i j) [
  | inl same ↦ same
  | inr other ↦ elim other [
    | inl low ↦ absurd (q.before i low p.here)
    | inr high ↦ absurd (p.before j high q.here)
  ]
]

no_fault : (cut : Cut) (fault : CutFault) → CutFits cut → ¬ (IsFault cut fault)
no_fault cut Denominator fits h = h fits.denominator
no_fault cut Empty fits h = omega (arith, fits.some, h.1)
no_fault cut Long fits h = omega (arith, fits.few, h.1)
no_fault cut (Repeated s) fits h = fits.once h.3.0 h.3.1.within h.3.1.here
no_fault cut (Numerator s) fits h = h.4.1.here (fits.numerators h.4.0 h.4.1.within)

one_fault : (cut : Cut) (f g : CutFault) → IsFault cut f → IsFault cut g → f ≡ g
one_fault cut Denominator Denominator p q = refl
one_fault cut Denominator Empty p q = absurd (p q.0)
one_fault cut Denominator Long p q = absurd (p q.0)
one_fault cut Denominator (Repeated t) p q = absurd (p q.0)
one_fault cut Denominator (Numerator t) p q = absurd (p q.0)
one_fault cut Empty Denominator p q = absurd (q p.0)
one_fault cut Empty Empty p q = refl
one_fault cut Empty Long p q = absurd (omega (arith, p.1, q.1))
one_fault cut Empty (Repeated t) p q = absurd (omega (arith, p.1, q.1))
one_fault cut Empty (Numerator t) p q = absurd (omega (arith, p.1, q.1))
one_fault cut Long Denominator p q = absurd (q p.0)
one_fault cut Long Empty p q = absurd (omega (arith, p.1, q.1))
one_fault cut Long Long p q = refl
one_fault cut Long (Repeated t) p q = absurd (omega (arith, p.1, q.2))
one_fault cut Long (Numerator t) p q = absurd (omega (arith, p.1, q.2))
one_fault cut (Repeated s) Denominator p q = absurd (q p.0)
one_fault cut (Repeated s) Empty p q = absurd (omega (arith, p.1, q.1))
one_fault cut (Repeated s) Long p q = absurd (omega (arith, p.2, q.1))
one_fault cut (Repeated s) (Repeated t) p q =
    let place = first_one (length cut.sets) (IsRepeated cut.sets) p.3.0 q.3.0 p.3.1 q.3.1 in
    ap (λ (x : ℕ). Repeated x) (sym p.3.2 ∙ (ap (λ (k : ℕ). (item_at cut.sets k).set) place ∙ q.3.2))
one_fault cut (Repeated s) (Numerator t) p q = absurd (q.3 p.3.0 p.3.1.within p.3.1.here)
one_fault cut (Numerator s) Denominator p q = absurd (q p.0)
one_fault cut (Numerator s) Empty p q = absurd (omega (arith, p.1, q.1))
one_fault cut (Numerator s) Long p q = absurd (omega (arith, p.2, q.1))
one_fault cut (Numerator s) (Repeated t) p q = absurd (p.3 q.3.0 q.3.1.within q.3.1.here)
one_fault cut (Numerator s) (Numerator t) p q =
    let place = first_one (length cut.sets) (λ (j : ℕ). ¬ (HasNumerator cut.den cut.sets j)) p.4.0 q.4.0 p.4.1 q.4.1 in
    ap (λ (x : ℕ). Numerator x) (sym p.4.2 ∙ (ap (λ (k : ℕ). (item_at cut.sets k).set) place ∙ q.4.2))

-- what `cut_fits` says where it refuses
pub refused : (cut : Cut) (f : CutFault) → IsFault cut f
    → (IsOk {T = Unit {0}} (Err f) ↔ CutFits cut) × ((g : CutFault) → (◌≡◌ {A = Result (Unit {0}) CutFault} (Err f) (Err g)) ↔ IsFault cut g)
refused cut f h = (
  (λ ok. absurd (let no : IsOk {T = Unit {0}} {E = CutFault} (Err f) = ok in cc), λ fits. absurd (no_fault cut f fits h)),
  λ g. (λ e. subst (λ (x : CutFault). IsFault cut x) (let same : f ≡ g = cc in same) h, λ q. ap (λ (x : CutFault). Err x) (one_fault cut f g h q)),
)

-- and where it accepts
pub accepted : (cut : Cut) (u : Unit {0}) → CutFits cut
    → (IsOk {E = CutFault} (Ok u) ↔ CutFits cut) × ((g : CutFault) → (◌≡◌ {A = Result (Unit {0}) CutFault} (Ok u) (Err g)) ↔ IsFault cut g)
accepted cut u fits = ((λ ok. fits, λ f. refl), λ g. (λ e. absurd (let no : ⊥ = cc in no), λ q. absurd (no_fault cut g fits q)))

-- the last two phases of the search for a fault, over the list that the code reads
pub numerator_fault : (cut : Cut) (sets : List CutSet) (k : ℕ) → sets ≡ cut.sets → IsDenominator cut.den → 1 ≤ length sets → length sets ≤ 16
    → EachBelow (length sets) (λ j. ¬ (IsRepeated sets j)) → IsFirst (length sets) (λ j. ¬ (HasNumerator cut.den sets j)) k
    → IsFault cut (Numerator (item_at sets k).set)
numerator_fault cut sets k e den some few once first =
    let P : List CutSet → Type 0 = λ xs. (1 ≤ length xs) × (length xs ≤ 16) × EachBelow (length xs) (λ j. ¬ (IsRepeated xs j))
    × IsFirst (length xs) (λ j. ¬ (HasNumerator cut.den xs j)) k × ((item_at xs k).set ≡ (item_at sets k).set) in
    let p = subst P e (some, few, once, first, refl) in
    (den, p.0, p.1, p.2, (k, p.3, p.4))

pub all_fit : (cut : Cut) (sets : List CutSet) → sets ≡ cut.sets → IsDenominator cut.den → 1 ≤ length sets → length sets ≤ 16
    → EachBelow (length sets) (λ j. ¬ (IsRepeated sets j)) → EachBelow (length sets) (HasNumerator cut.den sets)
    → CutFits cut
all_fit cut sets e den some few once numerators =
    let P : List CutSet → Type 0 = λ xs. (1 ≤ length xs) × (length xs ≤ 16) × EachBelow (length xs) (λ j. ¬ (IsRepeated xs j))
    × EachBelow (length xs) (HasNumerator cut.den xs) in
    let p = subst P e (some, few, once, numerators) in
    record { denominator = den; some = p.0; few = p.1; once = p.2; numerators = p.3 }
