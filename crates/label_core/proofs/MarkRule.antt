-- Each mark keeps the rule.
use Rattle.std.proofs.Common.{◌≡◌, ◌≢◌, ℕ, ◌+◌, true, cond, Some, List, [], ◌++◌, length, refl, sym, ap, ◌∙◌, subst, inl, inr, ⊎_elim, arith}
use Rattle.std.proofs.lemmas.List.{length-append}
use Rattle.std.proofs.lemmas.List.Sums.{sum_by_push}
use Rattle.std.specs.Prelude.{slice_get}
use Rattle.label_space.specs.Rules.{Rules}
use Rattle.label_space.specs.Laws.{IsLawful}
use Rattle.label_core.specs.declared.table.Place.{Place}
use Rattle.label_core.specs.declared.table.Fate.{Fate}
use Rattle.label_core.specs.declared.table.Turn.TheVariants.{Fresh, Claimed, Done}
use Rattle.label_core.specs.declared.table.Entry.{Entry}
use Rattle.label_core.specs.Tables.{Cells, StandsAt}
use Rattle.label_core.specs.Puts.{set_at, with_turn, gone_by}
use Rattle.label_core.specs.Fates.{IsLegal, AreLegal}
use Rattle.label_core.proofs.Lookup.{same_entry, same_or_apart, set_here, front_or_end}
use Rattle.label_core.proofs.Turning.{turn_keeps}
use Rattle.label_core.proofs.Marking.{mark_keeps}
use Rattle.label_core.specs.declared.machine.ClaimState.{ClaimState}
use Rattle.label_core.specs.declared.machine.PassState.{PassState}
use Rattle.label_core.specs.declared.machine.Core.{Core}
use Rattle.label_core.specs.Passes.{claim, claimed, finished}
use Rattle.label_core.specs.Steps.{PassAt, HoldsAt, after_mark, claim_number, MayNoteAll, MayClaim, MayFinish, MayErase}
use Rattle.label_core.specs.Rule.{in_hand, weight_over, due_turn, due, due_at, counts, claims_of, claims_at, IsWorked, IsClaim, IsPass, IsRuled}
use Rattle.label_core.proofs.MachineLists.{at_append, at_remove, sum_remove, one_of_sum, two_of_sum, of_it, not_of_it}
use Rattle.label_core.proofs.PassChange.{pass_still, shape_changed, held_by, rule_changed}
use Rattle.label_core.proofs.Editing.{edit_was, edit_length, edit_size, edit_count, due_here, due_else, edit_works, claim_still}

module _ {L : Type 0} (r : Rules L) where
  -- the fates of a claim and those noted after them
  pub legal_append : (x : Core L) (s : PassState) (l : L) (fates more : List Fate) → AreLegal r x.table.cells l fates
      → MayNoteAll r x.table.cells s l (length fates) more → AreLegal r x.table.cells l (fates ++ more)
  legal_append x s l fates more all new = λ n f at. ⊎_elim
      (λ h. all n f h)
      (λ (h : (j : ℕ) × (n ≡ length fates + j) × (slice_get more j ≡ Some f)). subst (λ m. IsLegal r x.table.cells l m f) (sym h.1) (new h.0 f h.2).1)
      (at_append fates more n f at)

  module _ (x : Core L) (rule : IsRuled r x) where
    -- a claim at a place is the only one there, in its pass and in the others
    pub one_claim : (p i : ℕ) (s : PassState) (k : ClaimState) → PassAt x p s → slice_get s.claims i ≡ Some k
        → (claims_of k.place s ≡ 1) × (claims_at x.passes k.place ≡ 1)
    one_claim p i s k at has =
        let was = (rule.shape.each p s at).claims i k has in
        let a = one_of_sum (claims_of k.place) x.passes p s at in
        let b = one_of_sum (counts k.place) s.claims i k has in
        let c = of_it k k.place refl in
        let d = rule.claimed_once k.place in
        let e : due_at x.table.cells k.place ≡ due_turn was.entry.turn = ap (λ o. due o) was.stands in
        let f : due_turn was.entry.turn ≡ 1 = ap (λ o. due_turn o) was.turn_is in
        (omega arith, omega arith)

    -- the claims of other passes are of other entries
    pub others_elsewhere : (p i q j : ℕ) (s v : PassState) (k h : ClaimState) → PassAt x p s → slice_get s.claims i ≡ Some k
        → q ≢ p → PassAt x q v → slice_get v.claims j ≡ Some h → h.place ≢ k.place
    others_elsewhere p i q j s v k h at has n at' has' is =
        let a = one_claim p i s k at has in
        let b = two_of_sum (claims_of k.place) x.passes q p v s n at' at in
        let c = one_of_sum (counts k.place) v.claims j h has' in
        let d = of_it h k.place is in
        omega arith

    -- and so are the other claims of the same pass
    pub own_elsewhere : (p i j : ℕ) (s : PassState) (k h : ClaimState) → PassAt x p s → slice_get s.claims i ≡ Some k
        → j ≢ i → slice_get s.claims j ≡ Some h → h.place ≢ k.place
    own_elsewhere p i j s k h at has n has' is =
        let a = one_claim p i s k at has in
        let b = two_of_sum (counts k.place) s.claims j i h k n has' has in
        let c = of_it k k.place refl in
        let d = of_it h k.place is in
        omega arith

    -- a mark of the entry e, which becomes e', by the pass at p, which becomes s'
    module _ (p : ℕ) (s : PassState) (at : PassAt x p s) (w : Place) (e e' : Entry L) (stands : StandsAt x.table.cells w e) (label_is : e'.label ≡ e.label) (origin_is : e'.origin ≡ e.origin) where
      abbrev u : Cells L
      u = set_at x.table.cells w e'

      -- what the pass holds, how heavy it is and what it knows stay as they were
      pub mark_rules : (s' : PassState) → s'.held ≡ s.held → s'.weight ≡ s.weight → s'.ticket ≡ s.ticket → s'.over ≡ s.over
          → IsWorked r u
          → IsPass r u x.holders p s'
          → ((q j : ℕ) (v : PassState) (k : ClaimState) → q ≢ p → PassAt x q v → slice_get v.claims j ≡ Some k → k.place ≡ w → e'.turn ≡ e.turn)
          → ((q : Place) → claims_of q s' + due_at x.table.cells q ≡ claims_of q s + due_at u q)
          → IsRuled r (after_mark x p s' w e')
      mark_rules s' held weight ticket over worked mine elsewhere claims = rule_changed r x rule p s s' at u x.holders x.numbers x.tickets
          (shape_changed r x.table.cells x.holders x.passes rule.shape p s s' at u x.holders worked
          (rule.shape.holder_each ∙ sym (edit_length r x.table.cells w e e' stands label_is origin_is))
          (λ c q h. ⊎_elim (λ (a : (q ≡ p) × (s.held ≡ Some c)). inl (a.0, held ∙ a.1)) (λ n. inr (n, h))
          (held_by r x.table.cells x.holders x.passes rule.shape p s s at c q h))
          mine
          (λ q v n old.
          let it = rule.shape.each q v old in
          pass_still r x.table.cells u x.holders x.holders q v it it.holds
          (edit_length r x.table.cells w e e' stands label_is origin_is)
          (λ d. let h = edit_size r x.table.cells w e e' stands label_is origin_is d in omega arith)
          (λ j k has. claim_still r x.table.cells w e e' stands label_is origin_is k (it.claims j k has) (elsewhere q j v k n old has))))
          claims weight
          (let a = edit_count r x.table.cells w e e' stands label_is origin_is in let b : in_hand s' ≡ in_hand s = ap (λ b. let n : ℕ = cond b 1 0 in n) ticket in omega arith)
          (inr (let h : weight_over s' ≡ weight_over s = ap (λ b. cond b s'.weight 0) over ∙ ap (λ v. cond s.over v 0) weight in omega arith))

    module _ (p c : ℕ) (s : PassState) (holds : HoldsAt x p s c) where
      was : IsPass r x.table.cells x.holders p s
      was = rule.shape.each p s holds.0

      not_ended : {A : Type 0} → s.ended ≡ true → A
      not_ended e = absurd (let h = sym holds.1 ∙ e in cc)

      -- a Fresh entry becomes Claimed
      module _ (w : Place) (e : Entry L) (may : MayClaim x w e) where
        abbrev now_claimed : Entry L
        now_claimed = with_turn (Claimed (claim_number s)) e

        abbrev with_claimed : Cells L
        with_claimed = set_at x.table.cells w now_claimed

        not_claimed : (k : ClaimState) → IsClaim r x.table.cells k → k.place ≢ w
        not_claimed k h is =
            let same : h.entry ≡ e = same_entry x.table.cells w h.entry e (subst (λ v. StandsAt x.table.cells v h.entry) is h.stands) may.stands in
            let turns : Claimed h.number ≡ Fresh = sym h.turn_is ∙ ap (λ (v : Entry L). v.turn) same ∙ may.fresh_still in
            cc

        new_claim : IsClaim r with_claimed (claim w [])
        new_claim = record {
          entry = now_claimed;
          number = claim_number s;
          stands = set_here x.table.cells w now_claimed e may.stands;
          turn_is = refl;
          legal = λ n f at. absurd (cc);
          within = omega arith;
          noted = λ q y o sy from is.
              let b = edit_was r x.table.cells w e now_claimed may.stands refl refl q y sy in
              absurd (rule.shape.worked.parents q b.0 o e b.1 (b.3 ∙ from) (subst (λ v. StandsAt x.table.cells v e) (sym is) may.stands) may.fresh_still);
        }

        pub claim_keeps : IsRuled r (after_mark x p (claimed w s) w now_claimed)
        claim_keeps = mark_rules p s holds.0 w e now_claimed may.stands refl refl (claimed w s) refl refl refl refl
            (edit_works r x.table.cells w e now_claimed may.stands refl refl rule.shape.worked
            (turn_keeps x.table.cells w e (Claimed (claim_number s)) may.stands r rule.shape.worked.sound)
            (λ fates is. absurd (cc))
            (λ is. absurd (cc)))
            record {
              heavy = was.heavy;
              empty = λ h. not_ended h;
              numbered = λ h. absurd (let n = (was.numbered h).0 in let k = sym n ∙ holds.2 in cc);
              ticket_held = was.ticket_held;
              holds = was.holds;
              knows_each = λ h. was.knows_each h ∙ sym (edit_length r x.table.cells w e now_claimed may.stands refl refl);
              knows_prefix = λ d. let h = edit_size r x.table.cells w e now_claimed may.stands refl refl d in let k = was.knows_prefix d in omega arith;
              claims = λ i k has. ⊎_elim
                  (λ old. let it = was.claims i k old in claim_still r x.table.cells w e now_claimed may.stands refl refl k it (λ is. absurd (not_claimed k it is)))
                  (λ (last : (i ≡ length s.claims) × (claim w [] ≡ k)). subst (λ v. IsClaim r with_claimed v) last.1 new_claim)
                  (front_or_end s.claims (claim w []) k i has);
            }
            (λ q j v k n old has is. absurd (not_claimed k ((rule.shape.each q v old).claims j k has) is))
            (λ q.
            let a = sum_by_push (counts q) s.claims (claim w []) in
            ⊎_elim
            (λ same.
            let d = due_here r x.table.cells w e now_claimed may.stands refl refl in
            let k = of_it (claim w []) q (sym same) in
            let f : due_turn e.turn ≡ 0 = ap (λ o. due_turn o) may.fresh_still in
            let g : due_at x.table.cells q ≡ due_at x.table.cells w = ap (λ v. due_at x.table.cells v) same in
            let h : due_at with_claimed q ≡ due_at with_claimed w = ap (λ v. due_at with_claimed v) same in
            omega arith)
            (λ n.
            let d = due_else r x.table.cells w e now_claimed may.stands refl refl q n in
            let k = not_of_it (claim w []) q (λ i. n (sym i)) in
            omega arith)
            (same_or_apart q w))

      -- a claimed entry becomes Done
      module _ (w : Place) (e : Entry L) (i : ℕ) (k : ClaimState) (fates : List Fate) (may : MayFinish r x s w e i k fates) where
        abbrev now_done : Entry L
        now_done = with_turn (Done (k.fates ++ fates)) e

        abbrev with_done : Cells L
        with_done = set_at x.table.cells w now_done

        mine : IsClaim r x.table.cells k
        mine = was.claims i k may.claim_at

        is_it : mine.entry ≡ e
        is_it = same_entry x.table.cells w mine.entry e (subst (λ v. StandsAt x.table.cells v mine.entry) may.of_it mine.stands) may.stands

        left_elsewhere : (j : ℕ) (h : ClaimState) → slice_get (finished i s).claims j ≡ Some h → h.place ≢ w
        left_elsewhere j h has is =
            let a = one_claim p i s k holds.0 may.claim_at in
            let b = sum_remove (counts k.place) s.claims i k may.claim_at in
            let d = one_of_sum (counts k.place) (finished i s).claims j h has in
            let f = of_it k k.place refl in
            let g = of_it h k.place (is ∙ sym may.of_it) in
            omega arith

        same_fates : (a b : List Fate) → Done a ≡ Done b → a ≡ b
        same_fates a b h = (cc)

        pub finish_keeps : IsRuled r (after_mark x p (finished i s) w now_done)
        finish_keeps = mark_rules p s holds.0 w e now_done may.stands refl refl (finished i s) refl refl refl refl
            (edit_works r x.table.cells w e now_done may.stands refl refl rule.shape.worked
            (turn_keeps x.table.cells w e (Done (k.fates ++ fates)) may.stands r rule.shape.worked.sound)
            (λ all is. subst (λ fs. (length fs ≡ r.degree e.label) × AreLegal r x.table.cells e.label fs) (same_fates (k.fates ++ fates) all is) (
              length-append k.fates fates ∙ may.one_each,
              legal_append x s e.label k.fates fates (subst (λ (v : Entry L). AreLegal r x.table.cells v.label k.fates) is_it mine.legal) may.legal,
            ))
            (λ is. absurd (cc)))
            record {
              heavy = was.heavy;
              empty = λ h. not_ended h;
              numbered = λ h. absurd (let n = (was.numbered h).0 in let k = sym n ∙ holds.2 in cc);
              ticket_held = was.ticket_held;
              holds = was.holds;
              knows_each = λ h. was.knows_each h ∙ sym (edit_length r x.table.cells w e now_done may.stands refl refl);
              knows_prefix = λ d. let h = edit_size r x.table.cells w e now_done may.stands refl refl d in let k = was.knows_prefix d in omega arith;
              claims = λ j h has.
                  let old = at_remove s.claims i j h has in
                  claim_still r x.table.cells w e now_done may.stands refl refl h (was.claims old.0 h old.1) (λ is. absurd (left_elsewhere j h has is));
            }
            (λ q j v h n old has is. absurd (others_elsewhere p i q j s v k h holds.0 may.claim_at n old has (is ∙ sym may.of_it)))
            (λ q.
            let a = sum_remove (counts q) s.claims i k may.claim_at in
            ⊎_elim
            (λ same.
            let d = due_here r x.table.cells w e now_done may.stands refl refl in
            let m = of_it k q (may.of_it ∙ sym same) in
            let f : due_turn e.turn ≡ 1 = ap (λ (v : Entry L). due_turn v.turn) (sym is_it) ∙ ap (λ o. due_turn o) mine.turn_is in
            let g : due_at x.table.cells q ≡ due_at x.table.cells w = ap (λ v. due_at x.table.cells v) same in
            let h : due_at with_done q ≡ due_at with_done w = ap (λ v. due_at with_done v) same in
            omega arith)
            (λ n.
            let d = due_else r x.table.cells w e now_done may.stands refl refl q n in
            let m = not_of_it k q (λ j. n (sym j ∙ may.of_it)) in
            omega arith)
            (same_or_apart q w))

      -- an entry becomes gone
      module _ (law : IsLawful r) (w v : Place) (e d : Entry L) (may : MayErase r x s w v e d) where
        abbrev now_gone : Entry L
        now_gone = gone_by v e

        abbrev with_gone : Cells L
        with_gone = set_at x.table.cells w now_gone

        pub erase_keeps : IsRuled r (after_mark x p s w now_gone)
        erase_keeps = mark_rules p s holds.0 w e now_gone may.stands refl refl s refl refl refl refl
            (edit_works r x.table.cells w e now_gone may.stands refl refl rule.shape.worked
            (mark_keeps r law x.table.cells rule.shape.worked.sound w v e d
            record { stands = may.stands; other = may.other; apart = may.apart; dominates = may.dominates; kept_here = may.kept_here })
            (λ fates is. rule.shape.worked.fated w e fates may.stands is)
            (λ is. is))
            (pass_still r x.table.cells with_gone x.holders x.holders p s was was.holds
            (edit_length r x.table.cells w e now_gone may.stands refl refl)
            (λ n. let h = edit_size r x.table.cells w e now_gone may.stands refl refl n in omega arith)
            (λ i k has. claim_still r x.table.cells w e now_gone may.stands refl refl k (was.claims i k has) (λ _. refl)))
            (λ q j u k n old has is. refl)
            (λ q.
            ⊎_elim
            (λ same.
            let n = due_here r x.table.cells w e now_gone may.stands refl refl in
            let g : due_at x.table.cells q ≡ due_at x.table.cells w = ap (λ z. due_at x.table.cells z) same in
            let h : due_at with_gone q ≡ due_at with_gone w = ap (λ z. due_at with_gone z) same in
            omega arith)
            (λ n. let m = due_else r x.table.cells w e now_gone may.stands refl refl q n in omega arith)
            (same_or_apart q w))
