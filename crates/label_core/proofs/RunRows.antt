-- Runs of events, one event more at a time.
use Rattle.std.proofs.Common.{◌≡◌, ◌+◌, ◌≤◌, ℕ, zero, suc, Bool, true, false, cond, Some, [], ◌∷◌, take, List, refl, sym, subst, arith}
use Rattle.std.proofs.lemmas.List.Sums.{sum_by-cons}
use Rattle.std.specs.Prelude.{slice_get, sum_by}
use Rattle.label_space.specs.Rules.{Rules}
use Rattle.label_core.proofs.Lookup.{some_same}
use Rattle.label_core.specs.declared.machine.PassState.{PassState}
use Rattle.label_core.specs.declared.machine.Core.{Core}
use Rattle.label_core.specs.declared.machine.Event.{Event}
use Rattle.label_core.specs.Steps.{Steps}
use Rattle.label_core.specs.Rule.{weight_over, IsRuled}
use Rattle.label_core.specs.Runs.{Runs}

-- the passes that are over weigh no more than all
over_at_most : (ps : List PassState) → sum_by weight_over ps ≤ sum_by (λ (s : PassState). s.weight) ps
over_at_most [] = omega arith
over_at_most (s ∷ ps) =
    let a = sum_by-cons weight_over s ps in
    let b = sum_by-cons (λ (z : PassState). z.weight) s ps in
    let h = over_at_most ps in
    let k = one s.over in
    omega arith
  where
    one : (b : Bool) → cond b s.weight 0 ≤ s.weight
    one true = omega arith
    one false = omega arith

module _ {L : Type 0} (r : Rules L) where
  -- there are no more tickets than the limit and the weight allow
  pub tickets_few : (x : Core L) → IsRuled r x → x.tickets ≤ x.limit + x.weight
  tickets_few x rule =
      let a = rule.counter in
      let b = rule.weights in
      let h = over_at_most x.passes in
      omega arith

  push_next : (es : List (Event L)) (i : ℕ) (x : Core L) (e : Event L) (y z : Core L) → Runs r x (take i es) y → slice_get es i ≡ Some e → Steps r y e z → Runs r x (take (suc i) es) z
  push_next [] i x e y z run at one = absurd (cc)
  push_next (d ∷ es) zero x e y z is at one = (z, subst (λ (w : Core L). Steps r w d z) is (subst (λ k. Steps r y k z) (some_same e d (sym at)) one), refl)
  push_next (d ∷ es) (suc i) x e y z (w, first, rest) at one = (w, first, push_next es i w e y z rest at one)

  -- one event more
  pub runs_push : (es : List (Event L)) (i : ℕ) (x : Core L) (e : Event L) (y z : Core L) → Runs r x (take i es) y → slice_get es i ≡ Some e → Steps r y e z → Runs r x (take (i + 1) es) z
  runs_push es i x e y z run at one = let next : suc i ≡ i + 1 = omega arith in subst (λ n. Runs r x (take n es) z) next (push_next es i x e y z run at one)
