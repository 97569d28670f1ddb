-- What each event makes of the state of a pass.
use Rattle.std.specs.Prelude.{ℕ, ◌+◌, ◌-◌, ◌/◌, max, true, false, ◌||◌, Some, None, List, [], ◌∷◌, ◌++◌, slice_set}
use Rattle.std.specs.List.{remove}
use Rattle.label_core.specs.declared.table.Place.{Place}
use Rattle.label_core.specs.declared.table.Fate.{Fate}
use Rattle.label_core.specs.declared.machine.ClaimState.{ClaimState}
use Rattle.label_core.specs.declared.machine.PassState.{PassState}

-- the claim of the entry at q, with these fates noted
abbrev pub claim : Place → List Fate → ClaimState
claim q fates = record { place = q; fates = fates }

-- the pass drew the number n
abbrev pub drew : ℕ → PassState → PassState
drew n s = record s { numbers = n ∷ [] }

-- the pass holds the cell c and knows its n entries
abbrev pub took : ℕ → ℕ → PassState → PassState
took c n s = record s { held = Some c; known = slice_set s.known c n }

-- the pass found the cell c taken
abbrev pub met : ℕ → PassState → PassState
met c s = record s { meetings = s.meetings ++ c ∷ [] }

-- the pass holds no cell any more
abbrev pub freed : PassState → PassState
freed s = record s { held = None }

-- the pass has a ticket
abbrev pub ticketed : PassState → PassState
ticketed s = record s { ticket = true }

-- the pass drew a ticket at or above the limit
abbrev pub over_now : PassState → PassState
over_now s = record s { over = true }

-- the pass spent its ticket: it knows n entries of the cell c, and its claim i is now k
abbrev pub spent : ℕ → ℕ → ℕ → ClaimState → PassState → PassState
spent c n i k s = record s { ticket = false; known = slice_set s.known c n; claims = slice_set s.claims i k }

-- the pass claimed the entry at q
abbrev pub claimed : Place → PassState → PassState
claimed q s = record s { claims = s.claims ++ claim q [] ∷ [] }

-- the pass finished its claim i
abbrev pub finished : ℕ → PassState → PassState
finished i s = record s { claims = remove s.claims i }

-- the pass gave half its weight away, rounded down
abbrev pub halved : PassState → PassState
halved s = record s { weight = s.weight - s.weight / 2 }

-- the new pass with that half
abbrev pub other_half : PassState → PassState
other_half s = record {
  weight = s.weight / 2;
  numbers = [];
  claims = [];
  meetings = [];
  known = s.known;
  held = None;
  ticket = false;
  over = s.over;
  ended = false;
}

-- the greater number at each index
abbrev pub greater_each : List ℕ → List ℕ → List ℕ
greater_each [] ys = ys
greater_each (x ∷ xs) [] = x ∷ xs
greater_each (x ∷ xs) (y ∷ ys) = max x y ∷ greater_each xs ys

-- the pass with what another one had
abbrev pub joined : PassState → PassState → PassState
joined s u = record s {
  weight = s.weight + u.weight;
  numbers = s.numbers ++ u.numbers;
  claims = s.claims ++ u.claims;
  meetings = s.meetings ++ u.meetings;
  known = greater_each s.known u.known;
  over = s.over || u.over;
}

-- a pass after another one took over what it had
abbrev pub ended_pass : PassState
ended_pass = record {
  weight = 0;
  numbers = [];
  claims = [];
  meetings = [];
  known = [];
  held = None;
  ticket = false;
  over = false;
  ended = true;
}
