-- Each legal event keeps the rule, and so does each run.
use Rattle.std.proofs.Common.{◌≡◌, ℕ, List, [], ◌∷◌, sym, subst}
use Rattle.label_space.specs.Rules.{Rules}
use Rattle.label_space.specs.Laws.{IsLawful}
use Rattle.label_core.proofs.Closing.{finished_is_closed, finished_represents}
use Rattle.label_core.specs.declared.machine.Core.{Core}
use Rattle.label_core.specs.declared.machine.Mark.{Mark}
use Rattle.label_core.specs.declared.machine.Mark.TheVariants.{Claim, Done as Finish, Gone}
use Rattle.label_core.specs.declared.machine.Event.{Event}
use Rattle.label_core.specs.declared.machine.Event.TheVariants.{Draw, Take, Meet, Back, PutEntry, PutMarks, Ticket, Split, Join}
use Rattle.label_core.specs.Tables.{place}
use Rattle.label_core.specs.Steps.{Marks, MarksAll, GivesBack, Steps, opened, after_put}
use Rattle.label_core.specs.Rule.{IsRuled}
use Rattle.label_core.specs.Runs.{Runs, KeepsRule}
use Rattle.label_core.proofs.Passing.{draw_keeps, meet_keeps, take_keeps, back_keeps, ticket_keeps, split_keeps, join_keeps}
use Rattle.label_core.proofs.MarkRule.{claim_keeps, finish_keeps, erase_keeps}
use Rattle.label_core.proofs.PutRule.{put_entry_keeps}
use Rattle.label_core.proofs.OpeningRule.{opening_is_ruled}

module _ {L : Type 0} (r : Rules L) (law : IsLawful r) where
  abbrev became : (x y : Core L) → y ≡ x → IsRuled r x → IsRuled r y
  became x y is = subst (λ z. IsRuled r z) (sym is)

  pub gives_back_keeps : (x : Core L) (p c : ℕ) (y : Core L) → IsRuled r x → GivesBack x p c y → IsRuled r y
  gives_back_keeps x p c y rule (s, holds, no_ticket, is) = became _ y is (back_keeps r x rule p s c holds no_ticket)

  pub mark_keeps_rule : (x : Core L) (p c : ℕ) (m : Mark) (y : Core L) → IsRuled r x → Marks r x p c m y → IsRuled r y
  mark_keeps_rule x p c (Claim j) y rule (s, holds, e, may, is) = became _ y is (claim_keeps r x rule p c s holds (place c j) e may)
  mark_keeps_rule x p c (Finish j fates) y rule (s, holds, e, i, k, may, is) = became _ y is (finish_keeps r x rule p c s holds (place c j) e i k fates may)
  mark_keeps_rule x p c (Gone j w) y rule (s, holds, e, d, may, is) = became _ y is (erase_keeps r x rule p c s holds law (place c j) w e d may)

  pub marks_keep_rule : (ms : List Mark) (x : Core L) (p c : ℕ) (y : Core L) → IsRuled r x → MarksAll r x p c ms y → IsRuled r y
  marks_keep_rule [] x p c y rule is = became x y is rule
  marks_keep_rule (m ∷ ms) x p c y rule (z, one, rest) = marks_keep_rule ms z p c y (mark_keeps_rule x p c m z rule one) rest

  -- a legal event keeps the rule
  pub step_keeps : (e : Event L) (x y : Core L) → IsRuled r x → Steps r x e y → IsRuled r y
  step_keeps (Draw p) x y rule (s, lives, none, is) = became _ y is (draw_keeps r x rule p s lives)
  step_keeps (Take p c) x y rule (s, lives, numbered, free, home, is) = became _ y is (take_keeps r x rule p s lives c numbered free home)
  step_keeps (Meet p c) x y rule (s, lives, numbered, free, q, apart, taken, is) = became _ y is (meet_keeps r x rule p s lives c)
  step_keeps (Back p) x y rule (c, back) = gives_back_keeps x p c y rule back
  step_keeps (PutEntry p q fates l) x y rule (c, s, i, k, e, may, of_it, back) =
      gives_back_keeps (after_put r x p c s i k fates l) p c y (put_entry_keeps r law x rule p c s i k e fates l may) back
  step_keeps (PutMarks p ms) x y rule (c, z, marks, back) = gives_back_keeps z p c y (marks_keep_rule ms x p c z rule marks) back
  step_keeps (Ticket p) x y rule (c, s, holds, some, no_ticket, not_over, is) = became _ y is (ticket_keeps r x rule p s c holds no_ticket not_over)
  step_keeps (Split p q) x y rule (s, lives, free, heavy, next, is) = became _ y is (split_keeps r x rule p s lives free heavy)
  step_keeps (Join p q) x y rule (apart, s, u, lives, other, free, idle, is) = became _ y is (join_keeps r x rule p s q u apart lives other free idle)

  pub run_keeps : (es : List (Event L)) (x y : Core L) → IsRuled r x → Runs r x es y → IsRuled r y
  run_keeps [] x y rule is = became x y is rule
  run_keeps (e ∷ es) x y rule (z, one, rest) = run_keeps es z y (step_keeps e x z rule one) rest

  -- every run from the opening state
  pub keeps_rule : KeepsRule r
  keeps_rule limit weight some heavy es y run =
      let rule = run_keeps es (opened r limit weight) y (opening_is_ruled r law limit weight some heavy) run in (
        rule,
        λ done. (
          finished_is_closed r law y.table.cells rule.shape.worked.sound rule.shape.worked.fated done,
          finished_represents r law y.table.cells rule.shape.worked.sound rule.shape.worked.fated done,
        ),
      )
