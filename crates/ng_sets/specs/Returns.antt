-- The first visit of a walk to a set that it visited before, as it is found.
use Rattle.std.specs.Prelude.{◌≡◌, ℕ, ◌<◌, Option, None, Some, List, length, slice_index_or}
use Rattle.path_graph.specs.declared.limits.TheConstants.{MAX_SETS}
use Rattle.path_graph.specs.Walk.{GraphParts}
use Rattle.ng_sets.specs.declared.widening.Return.{Return}
use Rattle.ng_sets.specs.Widening.{HasNoneBefore, set_visited}

-- the arcs are the graph's
abbrev pub AreThere : GraphParts → List ℕ → Type 0
AreThere graph arcs = (k : ℕ) → k < length arcs → slice_index_or arcs k 0 < length graph.arcs

-- a visit before this place is to the set
abbrev pub IsVisitedBefore : GraphParts → List ℕ → ℕ → ℕ → Type 0
IsVisitedBefore graph arcs to s = (i : ℕ) × (i < to) × (set_visited graph arcs i ≡ Some s)

-- this is the first visit to a set that was visited before; or there is none
pub record IsReturnIn (graph : GraphParts) (arcs : List ℕ) (found : Return) : Type 0 where
  pub within : found.to < length arcs
  pub set : set_visited graph arcs found.to ≡ Some found.set
  pub before : IsVisitedBefore graph arcs found.to found.set
  pub earliest : HasNoneBefore graph arcs found.to
  pub few : found.set < MAX_SETS

abbrev pub IsFoundIn : GraphParts → List ℕ → Option Return → Type 0
IsFoundIn graph arcs None = HasNoneBefore graph arcs (length arcs)
IsFoundIn graph arcs (Some found) = IsReturnIn graph arcs found
