-- Marks one after the other: what they make is one core, and the pass holds its cell still.
use Rattle.std.proofs.Common.{◌≡◌, ◌+◌, ℕ, zero, suc, Option, Some, None, [], ◌∷◌, ◌++◌, length, take, List, refl, sym, ap, ◌∙◌, subst, arith}
use Rattle.std.specs.Prelude.{slice_get}
use native.Mathlib.Decide.{ℕ_discrete}
use mathlib.Core.Logic.{dite}
use Rattle.std.proofs.lemmas.Option.{slice_get_within}
use Rattle.label_space.specs.Rules.{Rules}
use Rattle.label_space.specs.Laws.{IsLawful}
use Rattle.label_core.specs.declared.table.Place.{Place}
use Rattle.label_core.specs.declared.table.Fate.{Fate}
use Rattle.label_core.specs.declared.table.Entry.{Entry}
use Rattle.label_core.specs.declared.table.Turn.TheVariants.{Claimed, Done}
use Rattle.label_core.specs.Tables.{place, StandsAt}
use Rattle.label_core.specs.Puts.{with_turn, gone_by}
use Rattle.label_core.proofs.Lookup.{some_same, same_entry}
use Rattle.label_core.specs.declared.machine.ClaimState.{ClaimState}
use Rattle.label_core.specs.declared.machine.PassState.{PassState}
use Rattle.label_core.specs.declared.machine.Core.{Core}
use Rattle.label_core.specs.declared.machine.Mark.{Mark}
use Rattle.label_core.specs.declared.machine.Mark.TheVariants.{Claim, Done as Finish, Gone}
use Rattle.label_core.specs.Passes.{claimed, finished}
use Rattle.label_core.specs.Steps.{PassAt, HoldsAt, LivesAt, MayFinish, Finishes, Marks, MarksAll, GivesBack, PutsMarks, Backs, after_mark, claim_number}
use Rattle.label_core.specs.Rule.{IsRuled}
use Rattle.label_core.specs.Plays.{HoldsNot, Decides}
use Rattle.label_core.proofs.MachineLists.{set_there}
use Rattle.label_core.proofs.MarkRule.{own_elsewhere}
use Rattle.label_core.proofs.Refusing.{same_claim}
use Rattle.label_core.proofs.RunRule.{mark_keeps_rule}

module _ {L : Type 0} where
  -- a pass holds one cell
  pub one_cell : (x : Core L) (p c d : ℕ) (s u : PassState) → HoldsAt x p s c → HoldsAt x p u d → d ≡ c
  one_cell x p c d s u a b = some_same d c (sym b.2 ∙ ap (λ (z : PassState). z.held) (some_same u s (sym b.0 ∙ a.0)) ∙ a.2)

  module _ (r : Rules L) where
    -- a mark is made by a pass that holds the cell, and holds it still
    pub mark_held : (x : Core L) (p c : ℕ) (m : Mark) (y : Core L) → Marks r x p c m y → (s : PassState) × HoldsAt x p s c
    mark_held x p c (Claim j) y (s, holds, e, may, is) = (s, holds)
    mark_held x p c (Finish j fates) y (s, holds, e, i, k, may, is) = (s, holds)
    mark_held x p c (Gone j w) y (s, holds, e, d, may, is) = (s, holds)

    holds_still : (x : Core L) (p c : ℕ) (s u : PassState) (q : Place) (e : Entry L) (y : Core L) → HoldsAt x p s c → u.ended ≡ s.ended → u.held ≡ s.held
        → y ≡ after_mark x p u q e → (v : PassState) × HoldsAt y p v c
    holds_still x p c s u q e y holds ended held is =
        (u, (subst (λ (z : Core L). PassAt z p u) (sym is) (set_there x.passes p u s holds.0), ended ∙ holds.1, held ∙ holds.2))

    pub mark_holds : (x : Core L) (p c : ℕ) (m : Mark) (y : Core L) → Marks r x p c m y → (s : PassState) × HoldsAt y p s c
    mark_holds x p c (Claim j) y (s, holds, e, may, is) = holds_still x p c s (claimed (place c j) s) (place c j) (with_turn (Claimed (claim_number s)) e) y holds refl refl is
    mark_holds x p c (Finish j fates) y (s, holds, e, i, k, may, is) = holds_still x p c s (finished i s) (place c j) (with_turn (Done (k.fates ++ fates)) e) y holds refl refl is
    mark_holds x p c (Gone j w) y (s, holds, e, d, may, is) = holds_still x p c s s (place c j) (gone_by w e) y holds refl refl is

    pub marks_hold : (ms : List Mark) (x : Core L) (p c : ℕ) (y : Core L) → MarksAll r x p c ms y → ((s : PassState) × HoldsAt x p s c) → (s : PassState) × HoldsAt y p s c
    marks_hold [] x p c y is holds = (holds.0, subst (λ (z : Core L). HoldsAt z p holds.0 c) (sym is) holds.1)
    marks_hold (m ∷ ms) x p c y (z, one, rest) holds = marks_hold ms z p c y rest (mark_holds x p c m z one)

    -- who puts marks holds the cell at first
    pub puts_held : (ms : List Mark) (x : Core L) (p c : ℕ) (z y : Core L) → MarksAll r x p c ms z → GivesBack z p c y → (s : PassState) × HoldsAt x p s c
    puts_held [] x p c z y is back = (back.0, subst (λ (w : Core L). HoldsAt w p back.0 c) is back.1)
    puts_held (m ∷ ms) x p c z y (w, one, rest) back = mark_held x p c m w one

    module _ (law : IsLawful r) where
      finish_index : (x : Core L) → IsRuled r x → (p i j : ℕ) (s : PassState) (k h : ClaimState) → PassAt x p s → slice_get s.claims i ≡ Some k → slice_get s.claims j ≡ Some h → h.place ≡ k.place → j ≡ i
      finish_index x rule p i j s k h at has has' is = dite (ℕ_discrete j i) (λ same. same) (λ n. absurd (own_elsewhere r x rule p i j s k h at has n has' is))

      -- a mark makes one core
      pub mark_same : (x : Core L) (p c : ℕ) (m : Mark) (y z : Core L) → IsRuled r x → Marks r x p c m y → Marks r x p c m z → z ≡ y
      mark_same x p c (Claim j) y z rule (s, holds, e, may, is) (s', holds', e', may', is') =
          let s_is : s' ≡ s = some_same s' s (sym holds'.0 ∙ holds.0) in
          let e_is : e' ≡ e = same_entry x.table.cells (place c j) e' e may'.stands may.stands in
          is' ∙ ap (λ (u : PassState). after_mark x p (claimed (place c j) u) (place c j) (with_turn (Claimed (claim_number u)) e')) s_is
          ∙ ap (λ (d : Entry L). after_mark x p (claimed (place c j) s) (place c j) (with_turn (Claimed (claim_number s)) d)) e_is ∙ sym is
      mark_same x p c (Finish j fates) y z rule (s, holds, e, i, k, may, is) (s', holds', e', i', k', may', is') =
          let s_is : s' ≡ s = some_same s' s (sym holds'.0 ∙ holds.0) in
          let e_is : e' ≡ e = same_entry x.table.cells (place c j) e' e may'.stands may.stands in
          let has' : slice_get s.claims i' ≡ Some k' = subst (λ (u : PassState). slice_get u.claims i' ≡ Some k') s_is may'.claim_at in
          let same_place = may'.of_it ∙ sym may.of_it in
          let k_is : k' ≡ k = same_claim r x rule p i i' s k k' holds.0 may.claim_at has' same_place in
          let i_is : i' ≡ i = finish_index x rule p i i' s k k' holds.0 may.claim_at has' same_place in
          is' ∙ ap (λ (u : PassState). after_mark x p (finished i' u) (place c j) (with_turn (Done (k'.fates ++ fates)) e')) s_is
          ∙ ap (λ n. after_mark x p (finished n s) (place c j) (with_turn (Done (k'.fates ++ fates)) e')) i_is
          ∙ ap (λ (h : ClaimState). after_mark x p (finished i s) (place c j) (with_turn (Done (h.fates ++ fates)) e')) k_is
          ∙ ap (λ (d : Entry L). after_mark x p (finished i s) (place c j) (with_turn (Done (k.fates ++ fates)) d)) e_is ∙ sym is
      mark_same x p c (Gone j w) y z rule (s, holds, e, d, may, is) (s', holds', e', d', may', is') =
          let s_is : s' ≡ s = some_same s' s (sym holds'.0 ∙ holds.0) in
          let e_is : e' ≡ e = same_entry x.table.cells (place c j) e' e may'.stands may.stands in
          is' ∙ ap (λ (u : PassState). after_mark x p u (place c j) (gone_by w e')) s_is
          ∙ ap (λ (v : Entry L). after_mark x p s (place c j) (gone_by w v)) e_is ∙ sym is

      pub marks_same : (ms : List Mark) (x : Core L) (p c : ℕ) (y z : Core L) → IsRuled r x → MarksAll r x p c ms y → MarksAll r x p c ms z → z ≡ y
      marks_same [] x p c y z rule is is' = is' ∙ sym is
      marks_same (m ∷ ms) x p c y z rule (u, one, rest) (u', one', rest') =
          let u_is : u' ≡ u = mark_same x p c m u u' rule one one' in
          marks_same ms u p c y z (mark_keeps_rule r law x p c m u rule one) rest (subst (λ (w : Core L). MarksAll r w p c ms z) u_is rest')

      -- one mark more
      push_next : (ms : List Mark) (i : ℕ) (x : Core L) (p c : ℕ) (m : Mark) (y z : Core L) → MarksAll r x p c (take i ms) y → slice_get ms i ≡ Some m → Marks r y p c m z → MarksAll r x p c (take (suc i) ms) z
      push_next [] i x p c m y z all at one = absurd (cc)
      push_next (n ∷ ms) zero x p c m y z is at one = (z, subst (λ (w : Core L). Marks r w p c n z) is (subst (λ k. Marks r y p c k z) (sym (some_same n m at)) one), refl)
      push_next (n ∷ ms) (suc i) x p c m y z (w, first, rest) at one = (w, first, push_next ms i w p c m y z rest at one)

      pub marks_push : (ms : List Mark) (i : ℕ) (x : Core L) (p c : ℕ) (m : Mark) (y z : Core L) → MarksAll r x p c (take i ms) y → slice_get ms i ≡ Some m → Marks r y p c m z → MarksAll r x p c (take (i + 1) ms) z
      marks_push ms i x p c m y z all at one = let next : suc i ≡ i + 1 = omega arith in subst (λ n. MarksAll r x p c (take n ms) z) next (push_next ms i x p c m y z all at one)

      -- a mark that may not be made ends the row
      pub marks_stop : (ms : List Mark) (i : ℕ) (x : Core L) (p c : ℕ) (m : Mark) (y z : Core L) → IsRuled r x → MarksAll r x p c (take i ms) y → slice_get ms i ≡ Some m → ((w : Core L) → Marks r y p c m w → ⊥) → MarksAll r x p c ms z → ⊥
      marks_stop [] i x p c m y z rule all at none whole = cc
      marks_stop (n ∷ ms) zero x p c m y z rule is at none (w, first, rest) = none w (subst (λ k. Marks r y p c k w) (some_same n m at) (subst (λ (v : Core L). Marks r v p c n w) (sym is) first))
      marks_stop (n ∷ ms) (suc i) x p c m y z rule (u, one, all) at none (w, first, rest) =
          let w_is : w ≡ u = mark_same x p c n u w rule one first in
          marks_stop ms i u p c m y z (mark_keeps_rule r law x p c n u rule one) all at none (subst (λ (v : Core L). MarksAll r v p c ms z) w_is rest)

      -- the cell goes home in the end
      pub marks_end : (ms : List Mark) (x : Core L) (p c : ℕ) (s : PassState) (z : Core L) (o : Option (Core L)) → IsRuled r x → HoldsAt x p s c → MarksAll r x p c ms z → Decides (λ y. Backs z p y) o → Decides (λ y. PutsMarks r x p ms y) o
      marks_end ms x p c s z None rule holds all refused = λ y (h : PutsMarks r x p ms y).
          let held = puts_held ms x p h.0 h.1 y h.2 h.3 in
          let c_is : h.0 ≡ c = one_cell x p c h.0 s held.0 holds held.1 in
          let all' : MarksAll r x p c ms h.1 = subst (λ n. MarksAll r x p n ms h.1) c_is h.2 in
          refused y (h.0, subst (λ (w : Core L). GivesBack w p h.0 y) (marks_same ms x p c z h.1 rule all all') h.3)
      marks_end ms x p c s z (Some y) rule holds all (d, (s', held, no_ticket, is)) =
          let still = marks_hold ms x p c z all (s, holds) in
          let d_is : d ≡ c = one_cell z p c d still.0 s' still.1 held in
          (c, z, all, subst (λ n. GivesBack z p n y) d_is (s', held, no_ticket, is))

      -- no marks can be put by a pass whose marks in the cell that it holds may not be made
      pub marks_refused : (ms : List Mark) (x : Core L) (p c : ℕ) (s : PassState) → HoldsAt x p s c → ((z : Core L) → MarksAll r x p c ms z → ⊥) → (y : Core L) → PutsMarks r x p ms y → ⊥
      marks_refused ms x p c s holds none y h =
          let held = puts_held ms x p h.0 h.1 y h.2 h.3 in
          none h.1 (subst (λ n. MarksAll r x p n ms h.1) (one_cell x p c h.0 s held.0 holds held.1) h.2)
