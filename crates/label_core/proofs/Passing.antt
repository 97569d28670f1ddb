-- The events of passes alone keep the rule.
use Rattle.std.proofs.Common.{◌≡◌, ◌≢◌, ℕ, ◌+◌, ◌-◌, ◌<◌, ◌≤◌, Bool, true, false, cond, ltb, Option, Some, None, List, [], ◌∷◌, ◌++◌, length, set, get_or, refl, sym, ap, ◌∙◌, subst, inl, inr, ⊎_elim, arith}
use Rattle.std.proofs.lemmas.List.{length-set, get_or-set_same, get_or-set_other}
use Rattle.std.proofs.lemmas.List.Sums.{sum_by_push, sum_by-append}
use Rattle.std.proofs.lemmas.Option.{slice_get_within}
use Rattle.std.proofs.lemmas.Bool.{cond_both, ltb-true, ltb-false}
use Rattle.std.specs.Prelude.{slice_get, sum_by, ◌/◌, ◌%◌, ◌^◌, ◌||◌}
use native.Mathlib.Decide.{ℕ_discrete}
use mathlib.Core.Logic.{dite}
use Rattle.label_space.specs.Rules.{Rules}
use Rattle.label_core.specs.Tables.{entries_of}
use Rattle.label_core.proofs.Lookup.{some_same, at_set}
use Rattle.label_core.specs.declared.machine.PassState.{PassState}
use Rattle.label_core.specs.declared.machine.Core.{Core}
use Rattle.label_core.specs.Passes.{drew, took, met, freed, ticketed, over_now, halved, other_half, joined, ended_pass}
use Rattle.label_core.specs.Steps.{LivesAt, HoldsAt, size, with_pass, after_draw, after_take, after_back, after_ticket, ticket_drawn, after_split, after_join}
use Rattle.label_core.specs.Rule.{in_hand, weight_over, counts, claims_of, IsPass, IsRuled}
use Rattle.label_core.proofs.MachineLists.{set_there, set_apart, at_append, sum_set, get_or-greater, length-greater}
use Rattle.label_core.proofs.PassChange.{pass_still, shape_pushed, shape_same, shape_changed, held_by, rule_changed, rule_same}

not_both : {A : Type 0} (b : Bool) → b ≡ false → b ≡ true → A
not_both b f t = absurd (let h = sym f ∙ t in cc)

none_or_some : {A B : Type 0} (o : Option A) (a : A) → o ≡ None → o ≡ Some a → B
none_or_some o a n s = absurd (let h = sym n ∙ s in cc)

none_in_some : {B : Type 0} (o : Option (Option ℕ)) (q : ℕ) → o ≡ Some None → o ≡ Some (Some q) → B
none_in_some o q n s = absurd (let h = sym n ∙ s in cc)

module _ {L : Type 0} (r : Rules L) (x : Core L) (rule : IsRuled r x) (p : ℕ) (s : PassState) where
  module _ (lives : LivesAt x p s) where
    was : IsPass r x.table.cells x.holders p s
    was = rule.shape.each p s lives.0

    pub draw_keeps : IsRuled r (after_draw x p s)
    draw_keeps = rule_same r x rule p s (drew x.numbers s) lives.0 ((x.numbers + 1) % 2 ^ 64) refl refl refl refl refl record {
      heavy = was.heavy;
      empty = λ e. not_both s.ended lives.1 e;
      numbered = λ e. absurd (cc);
      ticket_held = was.ticket_held;
      holds = was.holds;
      knows_each = was.knows_each;
      knows_prefix = was.knows_prefix;
      claims = was.claims;
    }

    pub meet_keeps : (c : ℕ) → IsRuled r (with_pass p (met c s) x)
    meet_keeps c = rule_same r x rule p s (met c s) lives.0 x.numbers refl refl refl refl refl record {
      heavy = was.heavy;
      empty = λ e. not_both s.ended lives.1 e;
      numbered = was.numbered;
      ticket_held = was.ticket_held;
      holds = was.holds;
      knows_each = was.knows_each;
      knows_prefix = was.knows_prefix;
      claims = was.claims;
    }

    -- nobody holds c: now p does
    module _ (c : ℕ) (numbered : s.numbers ≢ []) (free : s.held ≡ None) (home : slice_get x.holders c ≡ Some None) where
      abbrev now_held : List (Option ℕ)
      now_held = set x.holders c (Some p)

      taken_pass : IsPass r x.table.cells now_held p (took c (size x c) s)
      taken_pass = record {
        heavy = was.heavy;
        empty = λ e. not_both s.ended lives.1 e;
        numbered = λ e. absurd (numbered e);
        ticket_held = λ e. absurd (cc);
        holds = λ d h. let is : c ≡ d = some_same c d h in subst (λ z. slice_get now_held z ≡ Some (Some p)) is (set_there x.holders c (Some p) None home);
        knows_each = λ e. length-set s.known c (size x c) ∙ was.knows_each e;
        knows_prefix = λ d. dite (ℕ_discrete d c)
            (λ is.
            let room : c < length s.known = let a = slice_get_within x.holders c None home in let b = rule.shape.holder_each in let k = was.knows_each lives.1 in omega arith in
            let g = get_or-set_same s.known c (size x c) 0 room in
            subst (λ z. get_or (set s.known c (size x c)) z 0 ≤ length (entries_of x.table.cells z)) (sym is) (omega arith))
            (λ n. let g = get_or-set_other s.known c d (size x c) 0 n in let h = was.knows_prefix d in omega arith);
        claims = was.claims;
      }

      pub take_keeps : IsRuled r (after_take x p c s)
      take_keeps = rule_changed r x rule p s (took c (size x c) s) lives.0 x.table.cells now_held x.numbers x.tickets
          (shape_changed r x.table.cells x.holders x.passes rule.shape p s (took c (size x c) s) lives.0 x.table.cells now_held
          rule.shape.worked
          (length-set x.holders c (Some p) ∙ rule.shape.holder_each)
          (λ d q h. ⊎_elim
          (λ (a : (d ≡ c) × (Some q ≡ Some p)). inl (some_same q p a.1, ap Some (sym a.0)))
          (λ (a : (d ≢ c) × (slice_get x.holders d ≡ Some (Some q))). inr (
            λ is.
                ⊎_elim (λ (b : (q ≡ p) × (s.held ≡ Some d)). none_or_some s.held d free b.1) (λ n. n is)
                (held_by r x.table.cells x.holders x.passes rule.shape p s s lives.0 d q a.1),
            a.1,
          ))
          (at_set x.holders c d (Some p) (Some q) h))
          taken_pass
          (λ q v n old.
          let it = rule.shape.each q v old in
          pass_still r x.table.cells x.table.cells x.holders now_held q v it
          (λ d h. let there = it.holds d h in set_apart x.holders c d (Some p) (λ is. none_in_some (slice_get x.holders d) q (ap (λ z. slice_get x.holders z) is ∙ home) there) ∙ there)
          refl (λ d. omega arith) it.claims))
          (λ q. refl) refl refl (inr (omega arith))

  -- p holds c and has no ticket: now nobody holds c
  module _ (c : ℕ) (holds : HoldsAt x p s c) where
    held : IsPass r x.table.cells x.holders p s
    held = rule.shape.each p s holds.0

    module _ (no_ticket : s.ticket ≡ false) where
      freed_pass : IsPass r x.table.cells (set x.holders c None) p (freed s)
      freed_pass = record {
        heavy = held.heavy;
        empty = λ e. not_both s.ended holds.1 e;
        numbered = λ e. (refl, (held.numbered e).1);
        ticket_held = λ _. no_ticket;
        holds = λ d h. absurd (cc);
        knows_each = held.knows_each;
        knows_prefix = held.knows_prefix;
        claims = held.claims;
      }

      pub back_keeps : IsRuled r (after_back x p c s)
      back_keeps = rule_changed r x rule p s (freed s) holds.0 x.table.cells (set x.holders c None) x.numbers x.tickets
          (shape_changed r x.table.cells x.holders x.passes rule.shape p s (freed s) holds.0 x.table.cells (set x.holders c None)
          rule.shape.worked
          (length-set x.holders c None ∙ rule.shape.holder_each)
          (λ d q h. ⊎_elim
          (λ (a : (d ≡ c) × (Some q ≡ None)). absurd (let k = a.1 in cc))
          (λ (a : (d ≢ c) × (slice_get x.holders d ≡ Some (Some q))). inr (
            λ is.
                ⊎_elim (λ (b : (q ≡ p) × (s.held ≡ Some d)). a.0 (some_same d c (sym b.1 ∙ holds.2))) (λ n. n is)
                (held_by r x.table.cells x.holders x.passes rule.shape p s s holds.0 d q a.1),
            a.1,
          ))
          (at_set x.holders c d None (Some q) h))
          freed_pass
          (λ q v n old.
          let it = rule.shape.each q v old in
          pass_still r x.table.cells x.table.cells x.holders (set x.holders c None) q v it
          (λ d h.
          let there = it.holds d h in
          set_apart x.holders c d None (λ is. n (some_same q p (some_same (Some q) (Some p) (sym there ∙ ap (λ z. slice_get x.holders z) is ∙ held.holds c holds.2)))) ∙ there)
          refl (λ d. omega arith) it.claims))
          (λ q. refl) refl refl (inr (omega arith))

      -- a ticket below the limit
      early_ticket_keeps : x.tickets < x.limit → IsRuled r (ticket_drawn x p (ticketed s))
      early_ticket_keeps below = rule_changed r x rule p s (ticketed s) holds.0 x.table.cells x.holders x.numbers (x.tickets + 1)
          (shape_same r x.table.cells x.holders x.passes rule.shape p s (ticketed s) holds.0 refl record {
            heavy = held.heavy;
            empty = λ e. not_both s.ended holds.1 e;
            numbered = held.numbered;
            ticket_held = λ e. none_or_some s.held c e holds.2;
            holds = held.holds;
            knows_each = held.knows_each;
            knows_prefix = held.knows_prefix;
            claims = held.claims;
          })
          (λ q. refl) refl
          (let h : in_hand s ≡ 0 = ap (λ b. let n : ℕ = cond b 1 0 in n) no_ticket in omega arith)
          (inl (omega arith))

      -- a ticket at or above the limit
      late_ticket_keeps : s.over ≡ false → x.limit ≤ x.tickets → IsRuled r (ticket_drawn x p (over_now s))
      late_ticket_keeps not_over late = rule_changed r x rule p s (over_now s) holds.0 x.table.cells x.holders x.numbers (x.tickets + 1)
          (shape_same r x.table.cells x.holders x.passes rule.shape p s (over_now s) holds.0 refl record {
            heavy = held.heavy;
            empty = λ e. not_both s.ended holds.1 e;
            numbered = held.numbered;
            ticket_held = held.ticket_held;
            holds = held.holds;
            knows_each = held.knows_each;
            knows_prefix = held.knows_prefix;
            claims = held.claims;
          })
          (λ q. refl) refl
          (omega arith)
          (inr (let h : weight_over s ≡ 0 = ap (λ b. cond b s.weight 0) not_over in let k = held.heavy holds.1 in omega arith))

      pub ticket_keeps : s.over ≡ false → IsRuled r (after_ticket x p s)
      ticket_keeps not_over = cond_both (ltb x.tickets x.limit) (ticketed s) (over_now s) (λ z. IsRuled r (ticket_drawn x p z))
          (λ yes. early_ticket_keeps (ltb-true x.tickets x.limit yes))
          (λ no. late_ticket_keeps not_over (ltb-false x.tickets x.limit no))

  -- p gives half its weight to a new pass
  module _ (lives : LivesAt x p s) (free : s.held ≡ None) (heavy : 2 ≤ s.weight) where
    whole : IsPass r x.table.cells x.holders p s
    whole = rule.shape.each p s lives.0

    abbrev left : List PassState
    left = set x.passes p (halved s)

    halves : (n : ℕ) → 2 ≤ n → (0 < n / 2) × (n / 2 < n)
    halves n h = (omega arith, omega arith)

    split_sum : (f : PassState → ℕ) → f (halved s) + f (other_half s) ≡ f s → sum_by f (left ++ other_half s ∷ []) ≡ sum_by f x.passes
    split_sum f even =
        let h = sum_set f x.passes p s (halved s) lives.0 in
        let k = sum_by_push f left (other_half s) in
        omega arith

    pub split_keeps : IsRuled r (after_split x p s)
    split_keeps = record {
      shape = shape_pushed r x.table.cells x.holders left
          (shape_same r x.table.cells x.holders x.passes rule.shape p s (halved s) lives.0 refl record {
            heavy = λ _. let h = halves s.weight heavy in omega arith;
            empty = λ e. not_both s.ended lives.1 e;
            numbered = whole.numbered;
            ticket_held = whole.ticket_held;
            holds = whole.holds;
            knows_each = whole.knows_each;
            knows_prefix = whole.knows_prefix;
            claims = whole.claims;
          })
          (other_half s)
          record {
            heavy = λ _. (halves s.weight heavy).0;
            empty = λ e. absurd (cc);
            numbered = λ _. (refl, refl);
            ticket_held = λ _. refl;
            holds = λ d h. absurd (cc);
            knows_each = λ _. whole.knows_each lives.1;
            knows_prefix = whole.knows_prefix;
            claims = λ i k e. absurd (cc);
          };
      claimed_once = λ q. split_sum (claims_of q) (omega arith) ∙ rule.claimed_once q;
      weights = split_sum (λ (z : PassState). z.weight) (let h = halves s.weight heavy in omega arith) ∙ rule.weights;
      tickets = let h = split_sum in_hand (let k : in_hand s ≡ 0 = ap (λ b. let n : ℕ = cond b 1 0 in n) (whole.ticket_held free) in omega arith) in let k = rule.tickets in omega arith;
      counter = let h = split_sum weight_over (over_parts s.over) in let k = rule.counter in omega arith;
    }
      where
        over_parts : (b : Bool) → cond b (s.weight - s.weight / 2) 0 + cond b (s.weight / 2) 0 ≡ cond b s.weight 0
        over_parts true = let h = halves s.weight heavy in omega arith
        over_parts false = omega arith

  -- p takes over what q had
  module _ (q : ℕ) (u : PassState) (apart : p ≢ q) (lives : LivesAt x p s) (other : LivesAt x q u) (free : s.held ≡ None) (idle : u.held ≡ None) where
    one : IsPass r x.table.cells x.holders p s
    one = rule.shape.each p s lives.0

    two : IsPass r x.table.cells x.holders q u
    two = rule.shape.each q u other.0

    abbrev together : List PassState
    together = set x.passes p (joined s u)

    still : slice_get together q ≡ Some u
    still = set_apart x.passes p q (joined s u) (λ e. apart (sym e)) ∙ other.0

    join_sum : (f : PassState → ℕ) → sum_by f (set together q ended_pass) + f s + f u ≡ sum_by f x.passes + f (joined s u) + f ended_pass
    join_sum f =
        let h = sum_set f x.passes p s (joined s u) lives.0 in
        let k = sum_set f together q u ended_pass still in
        omega arith

    both_none : (l m : List ℕ) → l ++ m ≡ [] → (l ≡ []) × (m ≡ [])
    both_none [] m e = (refl, e)
    both_none (a ∷ l) m e = absurd (cc)

    joined_pass : IsPass r x.table.cells x.holders p (joined s u)
    joined_pass = record {
      heavy = λ e. let h = one.heavy e in omega arith;
      empty = λ e. not_both s.ended lives.1 e;
      numbered = λ e.
          let n = both_none s.numbers u.numbers e in
          let a = (one.numbered n.0).1 in
          let b = (two.numbered n.1).1 in
          (free, ap (λ l. l ++ u.claims) a ∙ b);
      ticket_held = one.ticket_held;
      holds = one.holds;
      knows_each = λ e.
          let h = length-greater s.known u.known in
          let a = one.knows_each lives.1 in
          let b = two.knows_each other.1 in
          omega arith;
      knows_prefix = λ c.
          let h = get_or-greater s.known u.known c in
          let a = one.knows_prefix c in
          let b = two.knows_prefix c in
          omega arith;
      claims = λ i k e. ⊎_elim
          (λ h. one.claims i k h)
          (λ (h : (j : ℕ) × (i ≡ length s.claims + j) × (slice_get u.claims j ≡ Some k)). two.claims h.0 k h.2)
          (at_append s.claims u.claims i k e);
    }

    pub join_keeps : IsRuled r (after_join x p q s u)
    join_keeps = record {
      shape = shape_same r x.table.cells x.holders together
          (shape_same r x.table.cells x.holders x.passes rule.shape p s (joined s u) lives.0 refl joined_pass)
          q u ended_pass still (sym idle)
          record {
            heavy = λ e. absurd (cc);
            empty = λ _. refl;
            numbered = λ _. (refl, refl);
            ticket_held = λ _. refl;
            holds = λ d h. absurd (cc);
            knows_each = λ e. absurd (cc);
            knows_prefix = λ c. omega arith;
            claims = λ i k e. absurd (cc);
          };
      claimed_once = λ w. let h = join_sum (claims_of w) in let k = sum_by-append (counts w) s.claims u.claims in let n = rule.claimed_once w in omega arith;
      weights = let h = join_sum (λ (z : PassState). z.weight) in let k = rule.weights in omega arith;
      tickets =
          let h = join_sum in_hand in
          let a : in_hand s ≡ 0 = ap (λ b. let n : ℕ = cond b 1 0 in n) (one.ticket_held free) in
          let b : in_hand u ≡ 0 = ap (λ b. let n : ℕ = cond b 1 0 in n) (two.ticket_held idle) in
          let k = rule.tickets in
          omega arith;
      counter = let h = join_sum weight_over in let k = rule.counter in let o = over_either s.over u.over in omega arith;
    }
      where
        over_either : (a b : Bool) → cond a s.weight 0 + cond b u.weight 0 ≤ cond (a || b) (s.weight + u.weight) 0
        over_either true true = omega arith
        over_either true false = omega arith
        over_either false true = omega arith
        over_either false false = omega arith
