-- The label machine: which event is legal, and what it does.
use Rattle.std.specs.Prelude.{◌≡◌, ◌≢◌, ℕ, ◌+◌, ◌%◌, ◌^◌, ◌<◌, ◌≤◌, true, false, cond, nat_lt, Some, None, List, [], ◌∷◌, ◌++◌, length, replicate, slice_get, slice_index_or, slice_set}
use Rattle.label_space.specs.Rules.{Rules, Dominates, Extends}
use Rattle.label_core.specs.declared.table.Place.{Place}
use Rattle.label_core.specs.declared.table.Fate.{Fate}
use Rattle.label_core.specs.declared.table.Fate.TheVariants.{Void, At}
use Rattle.label_core.specs.declared.table.Turn.TheVariants.{Fresh, Claimed, Done}
use Rattle.label_core.specs.declared.table.Entry.{Entry}
use Rattle.label_core.specs.Tables.{Cells, place, entries_of, StandsAt, IsKept}
use Rattle.label_core.specs.Walks.{origin}
use Rattle.label_core.specs.Puts.{set_at, gone_by, with_turn, fresh, put, opening, CoversNot}
use Rattle.label_core.specs.Fates.{IsLegal}
use Rattle.label_core.specs.declared.machine.ClaimState.{ClaimState}
use Rattle.label_core.specs.declared.machine.PassState.{PassState}
use Rattle.label_core.specs.declared.machine.Core.{Core}
use Rattle.label_core.specs.declared.machine.Mark.{Mark}
use Rattle.label_core.specs.declared.machine.Mark.TheVariants.{Claim, Done as Finish, Gone}
use Rattle.label_core.specs.declared.machine.Event.{Event}
use Rattle.label_core.specs.declared.machine.Event.TheVariants.{Draw, Take, Meet, Back, PutEntry, PutMarks, Ticket, Split, Join}
use Rattle.label_core.specs.Passes.{claim, drew, took, met, freed, ticketed, over_now, spent, claimed, finished, halved, other_half, joined, ended_pass}

-- the pass knows the entry at q
abbrev pub Knows : PassState → Place → Type 0
Knows s q = q.index < slice_index_or s.known q.cell 0

-- the pass knows the entry that the fate names
abbrev pub KnowsFate : PassState → Fate → Type 0
KnowsFate s Void = Unit {0}
KnowsFate s (At q) = Knows s q

-- the number that an entry carries from now on which the pass claims
abbrev pub claim_number : PassState → ℕ
claim_number s = slice_index_or s.numbers 0 0 % 2 ^ 32

-- the pass that is there at first, over so many cells
abbrev pub first_pass : ℕ → ℕ → PassState
first_pass cells weight = record {
  weight = weight;
  numbers = 0 ∷ [];
  claims = [];
  meetings = [];
  known = replicate cells 0;
  held = None;
  ticket = false;
  over = false;
  ended = false;
}

module _ {L : Type 0} where
  -- the pass at p is s
  abbrev pub PassAt : Core L → ℕ → PassState → Type 0
  PassAt x p s = slice_get x.passes p ≡ Some s

  -- the pass at p is s and is not ended
  abbrev pub LivesAt : Core L → ℕ → PassState → Type 0
  LivesAt x p s = PassAt x p s × (s.ended ≡ false)

  -- the pass at p is s, is not ended and holds the cell c
  abbrev pub HoldsAt : Core L → ℕ → PassState → ℕ → Type 0
  HoldsAt x p s c = PassAt x p s × (s.ended ≡ false) × (s.held ≡ Some c)

  -- how many entries the cell c has
  abbrev pub size : Core L → ℕ → ℕ
  size x c = length (entries_of x.table.cells c)

  -- the core with another state of the pass at p
  abbrev pub with_pass : ℕ → PassState → Core L → Core L
  with_pass p s x = record x { passes = slice_set x.passes p s }

  -- the core with another table
  abbrev pub with_table : Cells L → Core L → Core L
  with_table t x = record x { table = record { cells = t } }

  abbrev pub after_draw : Core L → ℕ → PassState → Core L
  after_draw x p s = record (with_pass p (drew x.numbers s) x) { numbers = (x.numbers + 1) % 2 ^ 64 }

  abbrev pub after_take : Core L → ℕ → ℕ → PassState → Core L
  after_take x p c s = record (with_pass p (took c (size x c) s) x) { holders = slice_set x.holders c (Some p) }

  abbrev pub after_back : Core L → ℕ → ℕ → PassState → Core L
  after_back x p c s = record (with_pass p (freed s) x) { holders = slice_set x.holders c None }

  -- the core with another state of the pass at p, which drew a ticket
  abbrev pub ticket_drawn : Core L → ℕ → PassState → Core L
  ticket_drawn x p s = record (with_pass p s x) { tickets = x.tickets + 1 }

  -- the pass has the ticket that it drew where it is below the limit, else it is over
  abbrev pub after_ticket : Core L → ℕ → PassState → Core L
  after_ticket x p s = ticket_drawn x p (cond (nat_lt x.tickets x.limit) (ticketed s) (over_now s))

  abbrev pub after_split : Core L → ℕ → PassState → Core L
  after_split x p s = record x { passes = slice_set x.passes p (halved s) ++ other_half s ∷ [] }

  abbrev pub after_join : Core L → ℕ → ℕ → PassState → PassState → Core L
  after_join x p q s u = with_pass q ended_pass (with_pass p (joined s u) x)

  -- a mark changes the entry at q, and what the pass has claimed
  abbrev pub after_mark : Core L → ℕ → PassState → Place → Entry L → Core L
  after_mark x p s q e = with_table (set_at x.table.cells q e) (with_pass p s x)

  -- the last place that an event at a cell of this size gives
  abbrev pub next_place : Core L → ℕ → Place
  next_place x c = place c (size x c)

  abbrev pub Draws : Core L → ℕ → Core L → Type 0
  Draws x p y = (s : PassState) × LivesAt x p s × (s.numbers ≡ []) × (y ≡ after_draw x p s)

  abbrev pub Takes : Core L → ℕ → ℕ → Core L → Type 0
  Takes x p c y = (s : PassState) × LivesAt x p s × (s.numbers ≢ []) × (s.held ≡ None)
      × (slice_get x.holders c ≡ Some None) × (y ≡ after_take x p c s)

  abbrev pub Meets : Core L → ℕ → ℕ → Core L → Type 0
  Meets x p c y = (s : PassState) × LivesAt x p s × (s.numbers ≢ []) × (s.held ≡ None)
      × (q : ℕ) × (q ≢ p) × (slice_get x.holders c ≡ Some (Some q)) × (y ≡ with_pass p (met c s) x)

  -- the pass holds c and has no ticket, and then the cell is home
  abbrev pub GivesBack : Core L → ℕ → ℕ → Core L → Type 0
  GivesBack x p c y = (s : PassState) × HoldsAt x p s c × (s.ticket ≡ false) × (y ≡ after_back x p c s)

  abbrev pub Backs : Core L → ℕ → Core L → Type 0
  Backs x p y = (c : ℕ) × GivesBack x p c y

  abbrev pub Tickets : Core L → ℕ → Core L → Type 0
  Tickets x p y = (c : ℕ) × (s : PassState) × HoldsAt x p s c × (s.claims ≢ [])
      × (s.ticket ≡ false) × (s.over ≡ false)
      × (y ≡ after_ticket x p s)

  abbrev pub Splits : Core L → ℕ → ℕ → Core L → Type 0
  Splits x p q y = (s : PassState) × LivesAt x p s × (s.held ≡ None) × (2 ≤ s.weight)
      × (q ≡ length x.passes) × (y ≡ after_split x p s)

  abbrev pub Joins : Core L → ℕ → ℕ → Core L → Type 0
  Joins x p q y = (p ≢ q) × (s u : PassState) × LivesAt x p s × LivesAt x q u
      × (s.held ≡ None) × (u.held ≡ None) × (y ≡ after_join x p q s u)

  -- What it takes to make the entry e at q Claimed
  pub record MayClaim (x : Core L) (q : Place) (e : Entry L) : Type 0 where
    pub stands : StandsAt x.table.cells q e
    pub fresh_still : e.turn ≡ Fresh
    pub kept : IsKept e

  -- the pass at p claims the entry at q
  abbrev pub Claims : Core L → ℕ → Place → Core L → Type 0
  Claims x p q y = (s : PassState) × HoldsAt x p s q.cell × (e : Entry L) × MayClaim x q e
      × (y ≡ after_mark x p (claimed q s) q (with_turn (Claimed (claim_number s)) e))

  module _ (r : Rules L) where
    -- this fate may be noted for the choice n
    abbrev pub MayNote : Cells L → PassState → L → ℕ → Fate → Type 0
    MayNote t s l n f = (n < r.degree l) × IsLegal r t l n f × KnowsFate s f

    -- each of these fates may be noted, the first for the choice n
    abbrev pub MayNoteAll : Cells L → PassState → L → ℕ → List Fate → Type 0
    MayNoteAll t s l n fates = (j : ℕ) (f : Fate) → slice_get fates j ≡ Some f
        → MayNote t s l (n + j) f

    -- What it takes to make the entry e at q Done, by the claim k that the pass has at i
    pub record MayFinish (x : Core L) (s : PassState) (q : Place) (e : Entry L) (i : ℕ) (k : ClaimState) (fates : List Fate) : Type 0 where
      pub stands : StandsAt x.table.cells q e
      pub claim_at : slice_get s.claims i ≡ Some k
      pub of_it : k.place ≡ q
      pub legal : MayNoteAll x.table.cells s e.label (length k.fates) fates
      pub one_each : length k.fates + length fates ≡ r.degree e.label

    -- What it takes to make the entry e at q gone by d at w
    pub record MayErase (x : Core L) (s : PassState) (q w : Place) (e d : Entry L) : Type 0 where
      pub stands : StandsAt x.table.cells q e
      pub other : StandsAt x.table.cells w d
      pub known : Knows s w
      pub apart : q ≢ w
      pub dominates : Dominates r d.label e.label
      pub kept_here : w.cell ≡ q.cell → IsKept d

    -- the pass at p is done with the entry at q, these fates being the last
    abbrev pub Finishes : Core L → ℕ → Place → List Fate → Core L → Type 0
    Finishes x p q fates y = (s : PassState) × HoldsAt x p s q.cell
        × (e : Entry L) × (i : ℕ) × (k : ClaimState) × MayFinish x s q e i k fates
        × (y ≡ after_mark x p (finished i s) q (with_turn (Done (k.fates ++ fates)) e))

    -- the pass at p marks the entry at q gone by the one at w
    abbrev pub Erases : Core L → ℕ → Place → Place → Core L → Type 0
    Erases x p q w y = (s : PassState) × HoldsAt x p s q.cell
        × (e d : Entry L) × MayErase x s q w e d
        × (y ≡ after_mark x p s q (gone_by w e))

    -- one mark by the pass at p, which holds the cell c
    abbrev pub Marks : Core L → ℕ → ℕ → Mark → Core L → Type 0
    Marks x p c (Claim j) y = Claims x p (place c j) y
    Marks x p c (Finish j fates) y = Finishes x p (place c j) fates y
    Marks x p c (Gone j w) y = Erases x p (place c j) w y

    -- the marks, in order
    abbrev pub MarksAll : Core L → ℕ → ℕ → List Mark → Core L → Type 0
    MarksAll x p c [] y = y ≡ x
    MarksAll x p c (m ∷ ms) y = (z : Core L) × Marks x p c m z × MarksAll z p c ms y

    -- What the label and the fates have to be for PutEntry, by the claim k of an entry with the
    -- label `parent`
    pub record FitsClaim (t : Cells L) (c : ℕ) (s : PassState) (k : ClaimState) (parent : L) (fates : List Fate) (l : L) : Type 0 where
      pub cell_is : r.cell l ≡ c
      pub legal : MayNoteAll t s parent (length k.fates) fates
      pub extends : Extends r parent (length k.fates + length fates) l
      pub uncovered : CoversNot r (entries_of t c) l

    -- What it takes to put an entry with the label l over the next arc of the claim k, which the
    -- pass has at i, after these fates; e is the claimed entry
    pub record MayPutEntry (x : Core L) (p c : ℕ) (s : PassState) (i : ℕ) (k : ClaimState) (e : Entry L) (fates : List Fate) (l : L) : Type 0 where
      pub holds : HoldsAt x p s c
      pub ticket : s.ticket ≡ true
      pub claim_at : slice_get s.claims i ≡ Some k
      pub parent : StandsAt x.table.cells k.place e
      pub new : FitsClaim x.table.cells c s k e.label fates l

    -- the new entry
    abbrev pub new_entry : ClaimState → List Fate → L → Entry L
    new_entry k fates l = fresh l (Some (origin k.place (length k.fates + length fates)))

    -- the new entry has come, the ticket is spent, and the cell is held still
    abbrev pub after_put : Core L → ℕ → ℕ → PassState → ℕ → ClaimState → List Fate → L → Core L
    after_put x p c s i k fates l =
        with_table (put r x.table.cells c (new_entry k fates l))
        (with_pass p (spent c (size x c + 1) i (claim k.place (k.fates ++ fates ++ At (next_place x c) ∷ [])) s) x)

    -- the claim of q that the pass has comes to an entry with the label l, and the cell is home
    abbrev pub PutsEntry : Core L → ℕ → Place → List Fate → L → Core L → Type 0
    PutsEntry x p q fates l y = (c : ℕ) × (s : PassState) × (i : ℕ) × (k : ClaimState)
        × (e : Entry L) × MayPutEntry x p c s i k e fates l × (k.place ≡ q)
        × GivesBack (after_put x p c s i k fates l) p c y

    -- the marks are made, and the cell is home
    abbrev pub PutsMarks : Core L → ℕ → List Mark → Core L → Type 0
    PutsMarks x p ms y = (c : ℕ) × (z : Core L) × MarksAll x p c ms z × GivesBack z p c y

    -- the event is legal in x, and makes y of it
    abbrev pub Steps : Core L → Event L → Core L → Type 0
    Steps x (Draw p) y = Draws x p y
    Steps x (Take p c) y = Takes x p c y
    Steps x (Meet p c) y = Meets x p c y
    Steps x (Back p) y = Backs x p y
    Steps x (PutEntry p q fates l) y = PutsEntry x p q fates l y
    Steps x (PutMarks p ms) y = PutsMarks x p ms y
    Steps x (Ticket p) y = Tickets x p y
    Steps x (Split p q) y = Splits x p q y
    Steps x (Join p q) y = Joins x p q y

    -- the root as the one entry, and one pass with the whole weight
    abbrev pub opened : ℕ → ℕ → Core L
    opened limit weight = record {
      table = record { cells = opening r };
      holders = replicate r.cells None;
      numbers = 1;
      tickets = 1;
      limit = limit;
      weight = weight;
      passes = first_pass r.cells weight ∷ [];
    }
