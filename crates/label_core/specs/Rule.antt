-- The rule of the label machine: what holds between any two events.
use Rattle.std.specs.Prelude.{◌≡◌, ℕ, ◌+◌, ◌<◌, ◌≤◌, min, Bool, true, false, cond, ◌&&◌, ◌==◌, Option, Some, None, List, [], length, sum_by, slice_get, slice_index_or}
use Rattle.label_space.specs.Rules.{Rules}
use Rattle.label_core.specs.declared.table.Place.{Place}
use Rattle.label_core.specs.declared.table.Origin.{Origin}
use Rattle.label_core.specs.declared.table.Turn.{Turn}
use Rattle.label_core.specs.declared.table.Turn.TheVariants.{Fresh, Claimed, Done}
use Rattle.label_core.specs.declared.table.Entry.{Entry}
use Rattle.label_core.specs.Tables.{Cells, entries_of, StandsAt, entry_count}
use Rattle.label_core.specs.Points.{IsSound}
use Rattle.label_core.specs.Fates.{HasFates, AreLegal}
use Rattle.label_core.specs.declared.machine.ClaimState.{ClaimState}
use Rattle.label_core.specs.declared.machine.PassState.{PassState}
use Rattle.label_core.specs.declared.machine.Core.{Core}
use Rattle.label_core.specs.Passes.{ended_pass}

-- 1 for a ticket in hand
abbrev pub in_hand : PassState → ℕ
in_hand s = cond s.ticket 1 0

-- the weight of a pass that is over
abbrev pub weight_over : PassState → ℕ
weight_over s = cond s.over s.weight 0

-- the claim is that of the entry at q
abbrev pub is_of : Place → ClaimState → Bool
is_of q k = (k.place.cell == q.cell) && (k.place.index == q.index)

-- 1 for a claim of the entry at q
abbrev pub counts : Place → ClaimState → ℕ
counts q k = cond (is_of q k) 1 0

-- how many claims of the entry at q the pass has
abbrev pub claims_of : Place → PassState → ℕ
claims_of q s = sum_by (counts q) s.claims

-- how many claims of the entry at q all passes have
abbrev pub claims_at : List PassState → Place → ℕ
claims_at ps q = sum_by (claims_of q) ps

-- how many claims an entry with this turn should have
abbrev pub due_turn : Turn → ℕ
due_turn Fresh = 0
due_turn (Claimed n) = 1
due_turn (Done fates) = 0

module _ {L : Type 0} where
  abbrev pub due : Option (Entry L) → ℕ
  due None = 0
  due (Some e) = due_turn e.turn

  -- how many claims of the entry at q there should be: one where it is Claimed
  abbrev pub due_at : Cells L → Place → ℕ
  due_at t q = due (slice_get (entries_of t q.cell) q.index)

  module _ (r : Rules L) where
    -- What holds of a table that a machine fills, besides what holds of every table
    pub record IsWorked (t : Cells L) : Type 0 where
      pub sound : IsSound r t
      pub fated : HasFates r t
      -- what has a child is not Fresh
      pub parents : (q : Place) (e : Entry L) (o : Origin) (d : Entry L) → StandsAt t q e
          → e.origin ≡ Some o → StandsAt t o.parent d → d.turn ≡ Fresh → ⊥

    -- What holds of a claim: its entry is Claimed, the fates are legal, and each child of the
    -- entry came over an arc whose fate is noted
    pub record IsClaim (t : Cells L) (k : ClaimState) : Type 0 where
      pub entry : Entry L
      pub number : ℕ
      pub stands : StandsAt t k.place entry
      pub turn_is : entry.turn ≡ Claimed number
      pub legal : AreLegal r t entry.label k.fates
      pub within : length k.fates ≤ r.degree entry.label
      pub noted : (q : Place) (e : Entry L) (o : Origin) → StandsAt t q e → e.origin ≡ Some o
          → o.parent ≡ k.place → o.arc < length k.fates

    -- What holds of each pass
    pub record IsPass (t : Cells L) (holders : List (Option ℕ)) (p : ℕ) (s : PassState) : Type 0 where
      pub heavy : s.ended ≡ false → 0 < s.weight
      pub empty : s.ended ≡ true → s ≡ ended_pass
      pub numbered : s.numbers ≡ [] → (s.held ≡ None) × (s.claims ≡ [])
      pub ticket_held : s.held ≡ None → s.ticket ≡ false
      pub holds : (c : ℕ) → s.held ≡ Some c → slice_get holders c ≡ Some (Some p)
      pub knows_each : s.ended ≡ false → length s.known ≡ length t
      pub knows_prefix : (c : ℕ) → slice_index_or s.known c 0 ≤ length (entries_of t c)
      pub claims : (i : ℕ) (k : ClaimState) → slice_get s.claims i ≡ Some k → IsClaim t k

    -- What holds of each part of a core
    pub record HasShape (t : Cells L) (holders : List (Option ℕ)) (ps : List PassState) : Type 0 where
      pub worked : IsWorked t
      pub holder_each : length holders ≡ length t
      pub holder : (c p : ℕ) → slice_get holders c ≡ Some (Some p)
          → (s : PassState) × (slice_get ps p ≡ Some s) × (s.held ≡ Some c)
      pub each : (p : ℕ) (s : PassState) → slice_get ps p ≡ Some s → IsPass t holders p s

    -- What holds between any two events
    pub record IsRuled (x : Core L) : Type 0 where
      pub shape : HasShape x.table.cells x.holders x.passes
      -- each Claimed entry is in the claims of exactly one pass, once, and no other entry in any
      pub claimed_once : (q : Place) → claims_at x.passes q ≡ due_at x.table.cells q
      pub weights : sum_by (λ s. s.weight) x.passes ≡ x.weight
      pub tickets : entry_count x.table.cells + sum_by in_hand x.passes ≡ min x.tickets x.limit
      pub counter : x.tickets ≤ x.limit + sum_by weight_over x.passes
