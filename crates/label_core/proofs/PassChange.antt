-- One pass changed: what is left to show so that the rule holds still.
use Rattle.std.proofs.Common.{◌≡◌, ◌≢◌, ◌⊎◌, ℕ, ◌+◌, ◌≤◌, min, cond, Option, Some, List, [], ◌∷◌, ◌++◌, length, set, sym, ap, ◌∙◌, subst, inl, inr, ⊎_elim, arith}
use Rattle.std.specs.Prelude.{slice_get, sum_by}
use native.Mathlib.Decide.{ℕ_discrete}
use mathlib.Core.Logic.{dite}
use Rattle.label_space.specs.Rules.{Rules}
use Rattle.label_core.specs.declared.table.Place.{Place}
use Rattle.label_core.specs.Tables.{Cells, entries_of, entry_count}
use Rattle.label_core.proofs.Lookup.{some_same, at_front, front_or_end}
use Rattle.label_core.specs.declared.machine.ClaimState.{ClaimState}
use Rattle.label_core.specs.declared.machine.PassState.{PassState}
use Rattle.label_core.specs.declared.machine.Core.{Core}
use Rattle.label_core.specs.Steps.{PassAt}
use Rattle.label_core.specs.Rule.{in_hand, weight_over, counts, claims_of, due_at, IsWorked, IsClaim, IsPass, HasShape, IsRuled}
use Rattle.label_core.proofs.MachineLists.{set_there, set_apart, each_set, sum_set}

module _ {L : Type 0} (r : Rules L) where
  -- a pass that an event does not name is as it was
  pub pass_still : (t u : Cells L) (hs gs : List (Option ℕ)) (q : ℕ) (v : PassState) → IsPass r t hs q v
      → ((d : ℕ) → v.held ≡ Some d → slice_get gs d ≡ Some (Some q))
      → length u ≡ length t
      → ((d : ℕ) → length (entries_of t d) ≤ length (entries_of u d))
      → ((i : ℕ) (k : ClaimState) → slice_get v.claims i ≡ Some k → IsClaim r u k)
      → IsPass r u gs q v
  pass_still t u hs gs q v was holds as_long grown claims = record {
    heavy = was.heavy;
    empty = was.empty;
    numbered = was.numbered;
    ticket_held = was.ticket_held;
    holds = holds;
    knows_each = λ e. was.knows_each e ∙ sym as_long;
    knows_prefix = λ c. let a = was.knows_prefix c in let b = grown c in omega arith;
    claims = claims;
  }

  module _ (t : Cells L) (hs : List (Option ℕ)) (ps : List PassState) (shape : HasShape r t hs ps) where
    -- a new pass came that holds no cell
    pub shape_pushed : (new : PassState) → IsPass r t hs (length ps) new → HasShape r t hs (ps ++ new ∷ [])
    shape_pushed new is = record {
      worked = shape.worked;
      holder_each = shape.holder_each;
      holder = λ c p h. let was = shape.holder c p h in (was.0, at_front ps new was.0 p was.1, was.2);
      each = λ p s at. ⊎_elim
          (λ old. shape.each p s old)
          (λ (last : (p ≡ length ps) × (new ≡ s)). subst (λ z. IsPass r t hs z s) (sym last.0) (subst (λ z. IsPass r t hs (length ps) z) last.1 is))
          (front_or_end ps new s p at);
    }

    module _ (p : ℕ) (s s' : PassState) (at : slice_get ps p ≡ Some s) where
      -- who held each cell, if not the pass at p
      pub held_by : (c q : ℕ) → slice_get hs c ≡ Some (Some q) → ((q ≡ p) × (s.held ≡ Some c)) ⊎ (q ≢ p)
      held_by c q h = dite (ℕ_discrete q p)
          (λ is.
          let was = shape.holder c q h in
          let same = some_same was.0 s (sym was.1 ∙ ap (λ k. slice_get ps k) is ∙ at) in
          inl (is, sym (ap (λ (z : PassState). z.held) same) ∙ was.2))
          (λ n. inr n)

      -- the pass at p changed, and the table and the holders may have
      pub shape_changed : (u : Cells L) (gs : List (Option ℕ)) → IsWorked r u → length gs ≡ length u
          → ((c q : ℕ) → slice_get gs c ≡ Some (Some q)
          → ((q ≡ p) × (s'.held ≡ Some c)) ⊎ ((q ≢ p) × (slice_get hs c ≡ Some (Some q))))
          → IsPass r u gs p s'
          → ((q : ℕ) (v : PassState) → q ≢ p → slice_get ps q ≡ Some v → IsPass r u gs q v)
          → HasShape r u gs (set ps p s')
      shape_changed u gs worked as_long holder mine others = record {
        worked = worked;
        holder_each = as_long;
        holder = λ c q h. ⊎_elim
            (λ (a : (q ≡ p) × (s'.held ≡ Some c)). (s', subst (λ z. slice_get (set ps p s') z ≡ Some s') (sym a.0) (set_there ps p s' s at), a.1))
            (λ (a : (q ≢ p) × (slice_get hs c ≡ Some (Some q))).
            let was = shape.holder c q a.1 in (was.0, set_apart ps p q s' a.0 ∙ was.1, was.2))
            (holder c q h);
        each = each_set (λ q v. IsPass r u gs q v) ps p s' mine others;
      }

      -- the pass at p alone changed, and holds what it held
      pub shape_same : s'.held ≡ s.held → IsPass r t hs p s' → HasShape r t hs (set ps p s')
      shape_same held mine = shape_changed t hs shape.worked shape.holder_each
          (λ c q h. ⊎_elim (λ (a : (q ≡ p) × (s.held ≡ Some c)). inl (a.0, held ∙ a.1)) (λ n. inr (n, h)) (held_by c q h))
          mine
          (λ q v n old. shape.each q v old)

  module _ (x : Core L) (rule : IsRuled r x) (p : ℕ) (s s' : PassState) (at : PassAt x p s) where
    -- the pass at p changed, and the table, the holders and the counters may have
    pub rule_changed : (u : Cells L) (gs : List (Option ℕ)) (numbers tickets : ℕ)
        → HasShape r u gs (set x.passes p s')
        → ((q : Place) → claims_of q s' + due_at x.table.cells q ≡ claims_of q s + due_at u q)
        → s'.weight ≡ s.weight
        → entry_count u + in_hand s' + min x.tickets x.limit ≡ entry_count x.table.cells + in_hand s + min tickets x.limit
        → (tickets ≤ x.limit) ⊎ (tickets + weight_over s ≤ x.tickets + weight_over s')
        → IsRuled r (record x { table = record { cells = u }; holders = gs; numbers = numbers; tickets = tickets; passes = set x.passes p s' })
    rule_changed u gs numbers tickets shape claims weight counted over = record {
      shape = shape;
      claimed_once = λ q. let h = sum_set (claims_of q) x.passes p s s' at in let k = rule.claimed_once q in let c = claims q in omega arith;
      weights = let h = sum_set (λ (z : PassState). z.weight) x.passes p s s' at in let k = rule.weights in omega arith;
      tickets = let h = sum_set in_hand x.passes p s s' at in let k = rule.tickets in omega arith;
      counter = ⊎_elim (λ (few : tickets ≤ x.limit). omega arith)
          (λ (o : tickets + weight_over s ≤ x.tickets + weight_over s').
          let h = sum_set weight_over x.passes p s s' at in let k = rule.counter in omega arith)
          over;
    }

    -- the pass at p alone changed, in none of what the sums speak of
    pub rule_same : (numbers : ℕ) → s'.held ≡ s.held → s'.claims ≡ s.claims → s'.weight ≡ s.weight → s'.ticket ≡ s.ticket → s'.over ≡ s.over
        → IsPass r x.table.cells x.holders p s'
        → IsRuled r (record x { numbers = numbers; passes = set x.passes p s' })
    rule_same numbers held claims weight ticket over mine = rule_changed x.table.cells x.holders numbers x.tickets
        (shape_same x.table.cells x.holders x.passes rule.shape p s s' at held mine)
        (λ q. ap (λ ks. sum_by (counts q) ks + due_at x.table.cells q) claims)
        weight
        (let h : in_hand s' ≡ in_hand s = ap (λ b. let n : ℕ = cond b 1 0 in n) ticket in omega arith)
        (inr (let h : weight_over s' ≡ weight_over s = ap (λ b. cond b s'.weight 0) over ∙ ap (λ w. cond s.over w 0) weight in omega arith))
