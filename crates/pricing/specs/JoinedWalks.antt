-- Walks that joins of a half pair show.
use Rattle.std.specs.Prelude.{◌≡◌, ◌≢◌, ℕ, ◌≤◌, List, length, All}
use Rattle.std.specs.List.{AllPairs}
use Rattle.path_graph.specs.Walk.{GraphParts, IsFeasibleWalk}
use Rattle.route_model.specs.declared.plan.Taken.{Taken}
use Rattle.label_core.specs.declared.table.Entry.{Entry}
use Rattle.label_core.specs.Tables.{Cells}
use Rattle.label_rules.specs.declared.label.Label.{Label}
use Rattle.label_rules.specs.Labels.{Setting}
use Rattle.concatenate.specs.Fit.{MayJoin}

-- a feasible walk of the graph of this number, taken once
pub record IsTakenOnce (g : GraphParts) (number : ℕ) (taken : Taken) : Type 0 where
  pub graph : taken.graph ≡ number
  pub once : taken.count ≡ 1
  pub feasible : IsFeasibleWalk g taken.arcs

-- at most k of them, no two the same
pub record AreTakenOnce (g : GraphParts) (number k : ℕ) (walks : List Taken) : Type 0 where
  pub each : All (IsTakenOnce g number) walks
  pub differ : AllPairs (λ (x y : Taken). x.arcs ≢ y.arcs) walks
  pub few : length walks ≤ k

-- the labels of entries may be joined
abbrev pub MayAllJoin : Setting → List (Entry Label) → Type 0
MayAllJoin S entries = All (λ (e : Entry Label). MayJoin S e.label) entries

abbrev pub MayCellsJoin : Setting → Cells Label → Type 0
MayCellsJoin S t = All (MayAllJoin S) t
