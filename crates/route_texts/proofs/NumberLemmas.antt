-- Numbers of stops that differ.
use Rattle.std.proofs.Common.{◌≡◌, ◌≢◌, ℕ, zero, suc, ◌<◌, List, [], ◌∷◌, ◌++◌, length, refl, sym, Bool, true, false, arith}
use Rattle.std.specs.Prelude.{◌==◌, ◌||◌, map, slice_index}
use Rattle.std.proofs.lemmas.Bool.Decides.{nat_tests}
use Rattle.route_tasks.specs.declared.task.Stop.{Stop}
use Rattle.route_tasks.specs.Fit.{AllDiffer}
use Rattle.route_texts.specs.Stops.{has_number}

-- no number of a list is this one
abbrev pub IsAbsent : ℕ → List ℕ → Type 0
IsAbsent n ns = (i : ℕ) → i < length ns → slice_index ns i ≢ n

pub AllDiffer-nil : AllDiffer []
AllDiffer-nil i j order below = absurd (omega arith)

pub AllDiffer-cons : (n : ℕ) (ns : List ℕ) → AllDiffer ns → IsAbsent n ns → AllDiffer (n ∷ ns)
AllDiffer-cons n ns differ absent zero zero order below e = absurd (omega arith)
AllDiffer-cons n ns differ absent zero (suc j) order below e = absent j (omega arith) (sym e)
AllDiffer-cons n ns differ absent (suc i) zero order below e = absurd (omega arith)
AllDiffer-cons n ns differ absent (suc i) (suc j) order below e = differ i j (omega arith) (omega arith) e

pub AllDiffer-push : (ns : List ℕ) (n : ℕ) → AllDiffer ns → IsAbsent n ns → AllDiffer (ns ++ n ∷ [])
AllDiffer-push [] n differ absent = AllDiffer-cons n [] differ absent
AllDiffer-push (m ∷ ns) n differ absent =
    AllDiffer-cons m (ns ++ n ∷ []) (AllDiffer-push ns n (λ i j order below. differ (suc i) (suc j) (omega arith) (omega arith)) (λ i below. absent (suc i) (omega arith)))
    (λ i below. pushed ns n m i below (λ k within. no_head k within) (λ e. absent 0 (omega arith) e))
  where
    no_head : (k : ℕ) → k < length ns → slice_index ns k ≢ m
    no_head k within e = differ 0 (suc k) (omega arith) (omega arith) (sym e)

    pushed : (ns : List ℕ) (n m i : ℕ) → i < length (ns ++ n ∷ []) → IsAbsent m ns → m ≢ n → slice_index (ns ++ n ∷ []) i ≢ m
    pushed [] n m zero below absent other e = other (sym e)
    pushed [] n m (suc i) below absent other e = absurd (omega arith)
    pushed (x ∷ ns) n m zero below absent other e = absent 0 (omega arith) e
    pushed (x ∷ ns) n m (suc i) below absent other e = pushed ns n m i (omega arith) (λ k within. absent (suc k) (omega arith)) other e

both_false : (a b : Bool) → (a || b) ≡ false → (a ≡ false) × (b ≡ false)
both_false true b h = cc
both_false false b h = (refl, h)

other_number : (m n : ℕ) → (m == n) ≡ false → m ≢ n
other_number m n h e = absurd (grind (arith, nat_tests))

pub IsAbsent-stops : (n : ℕ) (stops : List Stop) → has_number n stops ≡ false → IsAbsent n (map (λ s. s.number) stops)
IsAbsent-stops n [] h i below e = absurd (omega arith)
IsAbsent-stops n (s ∷ stops) h zero below e = other_number s.number n ((both_false _ _ h).0) e
IsAbsent-stops n (s ∷ stops) h (suc i) below e = IsAbsent-stops n stops ((both_false _ _ h).1) i (omega arith) e

pub IsAbsent-cons : (n m : ℕ) (ns : List ℕ) → (m == n) ≡ false → IsAbsent n ns → IsAbsent n (m ∷ ns)
IsAbsent-cons n m ns h absent zero below e = other_number m n h e
IsAbsent-cons n m ns h absent (suc i) below e = absent i (omega arith) e
