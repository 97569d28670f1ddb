-- Entries never move, and their labels and origins never change; a pass with the whole weight is
-- alone.
use Rattle.std.proofs.Common.{◌≡◌, ◌≢◌, ℕ, true, Option, Some, None, List, [], ◌∷◌, ◌++◌, refl, sym, ap, ◌∙◌, subst, ⊎_elim, arith}
use Rattle.std.specs.Prelude.{slice_get}
use native.Mathlib.Decide.{ℕ_discrete}
use mathlib.Core.Logic.{dite}
use Rattle.std.proofs.lemmas.Bool.{cases_Bool}
use Rattle.label_space.specs.Rules.{Rules}
use Rattle.label_space.specs.Laws.{IsLawful}
use Rattle.label_core.specs.Tables.{Cells, place}
use Rattle.label_core.specs.Puts.{gone_by, with_turn}
use Rattle.label_core.specs.declared.table.Turn.TheVariants.{Claimed, Done}
use Rattle.label_core.proofs.Lookup.{some_same}
use Rattle.label_core.specs.Points.{Stays}
use Rattle.label_core.specs.declared.machine.PassState.{PassState}
use Rattle.label_core.specs.declared.machine.Core.{Core}
use Rattle.label_core.specs.declared.machine.Mark.{Mark}
use Rattle.label_core.specs.declared.machine.Mark.TheVariants.{Claim, Done as Finish, Gone}
use Rattle.label_core.specs.declared.machine.Event.{Event}
use Rattle.label_core.specs.declared.machine.Event.TheVariants.{Draw, Take, Meet, Back, PutEntry, PutMarks, Ticket, Split, Join}
use Rattle.label_core.specs.Steps.{PassAt, Marks, MarksAll, GivesBack, Steps, claim_number, new_entry, after_put}
use Rattle.label_core.specs.Rule.{IsRuled}
use Rattle.label_core.specs.Runs.{Runs}
use Rattle.label_core.proofs.MachineLists.{two_of_sum}
use Rattle.label_core.proofs.Editing.{edit_stays}
use Rattle.label_core.proofs.PutRule.{stays, room}
use Rattle.label_core.proofs.RunRule.{step_keeps}

module _ {L : Type 0} where
  as_it_was : (t : Cells L) → Stays t t
  as_it_was t p d s = (d, s, refl, refl)

  and_then : (t u v : Cells L) → Stays t u → Stays u v → Stays t v
  and_then t u v a b p d s = let f = a p d s in let g = b p f.0 f.1 in (g.0, g.1, g.2 ∙ f.2, g.3 ∙ f.3)

  -- a core with an equal table
  same_cells : (x y : Core L) → y ≡ x → Stays x.table.cells y.table.cells
  same_cells x y is = subst (λ (z : Core L). Stays x.table.cells z.table.cells) (sym is) (as_it_was x.table.cells)

  module _ (r : Rules L) where
    mark_stays : (x : Core L) (p c : ℕ) (m : Mark) (y : Core L) → Marks r x p c m y → Stays x.table.cells y.table.cells
    mark_stays x p c (Claim j) y (s, holds, e, may, is) = subst (λ (z : Core L). Stays x.table.cells z.table.cells) (sym is)
        (edit_stays r x.table.cells (place c j) e (with_turn (Claimed (claim_number s)) e) may.stands refl refl)
    mark_stays x p c (Finish j fates) y (s, holds, e, i, k, may, is) = subst (λ (z : Core L). Stays x.table.cells z.table.cells) (sym is)
        (edit_stays r x.table.cells (place c j) e (with_turn (Done (k.fates ++ fates)) e) may.stands refl refl)
    mark_stays x p c (Gone j w) y (s, holds, e, d, may, is) = subst (λ (z : Core L). Stays x.table.cells z.table.cells) (sym is)
        (edit_stays r x.table.cells (place c j) e (gone_by w e) may.stands refl refl)

    marks_stay : (ms : List Mark) (x : Core L) (p c : ℕ) (y : Core L) → MarksAll r x p c ms y → Stays x.table.cells y.table.cells
    marks_stay [] x p c y is = same_cells x y is
    marks_stay (m ∷ ms) x p c y (z, one, rest) = and_then x.table.cells z.table.cells y.table.cells (mark_stays x p c m z one) (marks_stay ms z p c y rest)

    back_stays : (x : Core L) (p c : ℕ) (y : Core L) → GivesBack x p c y → Stays x.table.cells y.table.cells
    back_stays x p c y (s, holds, no_ticket, is) = subst (λ (z : Core L). Stays x.table.cells z.table.cells) (sym is) (as_it_was x.table.cells)

    module _ (law : IsLawful r) where
      -- each entry stands after a legal event where it stood, with its label and its origin
      pub step_stays : (e : Event L) (x y : Core L) → IsRuled r x → Steps r x e y → Stays x.table.cells y.table.cells
      step_stays (Draw p) x y rule (s, lives, none, is) = subst (λ (z : Core L). Stays x.table.cells z.table.cells) (sym is) (as_it_was x.table.cells)
      step_stays (Take p c) x y rule (s, lives, numbered, free, home, is) = subst (λ (z : Core L). Stays x.table.cells z.table.cells) (sym is) (as_it_was x.table.cells)
      step_stays (Meet p c) x y rule (s, lives, numbered, free, q, apart, taken, is) = subst (λ (z : Core L). Stays x.table.cells z.table.cells) (sym is) (as_it_was x.table.cells)
      step_stays (Back p) x y rule (c, back) = back_stays x p c y back
      step_stays (PutEntry p q fates l) x y rule (c, s, i, k, e, may, of_it, back) =
          and_then x.table.cells (after_put r x p c s i k fates l).table.cells y.table.cells
          (stays r x.table.cells c (new_entry r k fates l) (room r law x rule p c s i k e fates l may))
          (back_stays (after_put r x p c s i k fates l) p c y back)
      step_stays (PutMarks p ms) x y rule (c, z, marks, back) =
          and_then x.table.cells z.table.cells y.table.cells (marks_stay ms x p c z marks) (back_stays z p c y back)
      step_stays (Ticket p) x y rule (c, s, holds, some, no_ticket, not_over, is) = subst (λ (z : Core L). Stays x.table.cells z.table.cells) (sym is) (as_it_was x.table.cells)
      step_stays (Split p q) x y rule (s, lives, free, heavy, next, is) = subst (λ (z : Core L). Stays x.table.cells z.table.cells) (sym is) (as_it_was x.table.cells)
      step_stays (Join p q) x y rule (apart, s, u, lives, other, free, idle, is) = subst (λ (z : Core L). Stays x.table.cells z.table.cells) (sym is) (as_it_was x.table.cells)

      pub run_stays : (es : List (Event L)) (x y : Core L) → IsRuled r x → Runs r x es y → Stays x.table.cells y.table.cells
      run_stays [] x y rule is = same_cells x y is
      run_stays (e ∷ es) x y rule (z, one, rest) = and_then x.table.cells z.table.cells y.table.cells (step_stays e x z rule one) (run_stays es z y (step_keeps r law e x z rule one) rest)

    -- where a pass has the whole weight, each other one is ended
    module _ (x : Core L) (rule : IsRuled r x) (p : ℕ) (s : PassState) (at : PassAt x p s) (whole : s.weight ≡ x.weight) where
      pub others_ended : (q : ℕ) (u : PassState) → q ≢ p → PassAt x q u → u.ended ≡ true
      others_ended q u n other = ⊎_elim (λ yes. yes)
          (λ no.
          absurd (let a = two_of_sum (λ (z : PassState). z.weight) x.passes q p u s n other at in
          let b = rule.weights in
          let c = (rule.shape.each q u other).heavy no in
          omega arith))
          (cases_Bool u.ended)

      -- and where it holds no cell, every cell is home
      pub all_home : s.held ≡ None → (c : ℕ) (h : Option ℕ) → slice_get x.holders c ≡ Some h → h ≡ None
      all_home free c None is = refl
      all_home free c (Some q) is = absurd (dite (ℕ_discrete q p)
          (λ same.
          let was = rule.shape.holder c q is in
          let one = some_same was.0 s (sym was.1 ∙ ap (λ k. slice_get x.passes k) same ∙ at) in
          let k = sym was.2 ∙ ap (λ (z : PassState). z.held) one ∙ free in
          cc)
          (λ n.
          let was = rule.shape.holder c q is in
          let over = (rule.shape.each q was.0 was.1).empty (others_ended q was.0 n was.1) in
          let k = sym was.2 ∙ ap (λ (z : PassState). z.held) over in
          cc))
