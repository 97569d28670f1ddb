-- The cheapest walks that a table of partial walks shows.
use Rattle.std.specs.Prelude.{◌≡◌, ◌⊎◌, ℕ, ◌<◌, ◌≤◌, ℤ, pos, List, length, All, Contains}
use lib.Signed.{◌<ℤ◌}
use Rattle.std.specs.List.{AllPairs, AllZip}
use Rattle.path_graph.specs.Walk.{GraphParts, IsFeasibleWalk}
use Rattle.route_model.specs.declared.plan.Taken.{Taken}
use Rattle.label_core.specs.declared.table.Entry.{Entry}
use Rattle.label_core.specs.Tables.{Cells, IsKept, StandsAt, place}
use Rattle.label_core.specs.Walks.{IsWalkOf}
use Rattle.label_rules.specs.declared.label.Label.{Label}
use Rattle.pricing.specs.declared.ranking.Ranked.{Ranked}
use Rattle.pricing.specs.Walks.{arcs_chosen}

-- in the cell, at the index, stands a kept entry at the sink, at this cost, which is below 0
pub record IsCheap (sink : ℕ) (t : Cells Label) (r : Ranked) : Type 0 where
  pub entry : Entry Label
  pub stands : StandsAt t (place r.cell r.index) entry
  pub kept : IsKept entry
  pub at_sink : entry.label.vertex ≡ sink
  pub same : entry.label.cost ≡ r.cost
  pub negative : r.cost <ℤ pos 0

-- the one comes before the other: by cost, then cell, then index
abbrev pub IsBefore : Ranked → Ranked → Type 0
IsBefore r s = (r.cost <ℤ s.cost) ⊎ ((r.cost ≡ s.cost) × ((r.cell < s.cell) ⊎ ((r.cell ≡ s.cell) × (r.index < s.index))))

-- the first k of the cheap entries, or all where they are fewer
pub record AreFirst (sink : ℕ) (t : Cells Label) (k : ℕ) (ranked : List Ranked) : Type 0 where
  pub each : All (IsCheap sink t) ranked
  pub order : AllPairs IsBefore ranked
  pub few : length ranked ≤ k
  pub others : (r : Ranked) → IsCheap sink t r → Contains ranked r ⊎ ((length ranked ≡ k) × All (λ s. IsBefore s r) ranked)

-- the walk of an entry, taken once
pub record IsTakenFrom (g : GraphParts) (number : ℕ) (t : Cells Label) (r : Ranked) (taken : Taken) : Type 0 where
  pub graph : taken.graph ≡ number
  pub once : taken.count ≡ 1
  pub choices : List ℕ
  pub walk : IsWalkOf t (place r.cell r.index) choices
  pub arcs : taken.arcs ≡ arcs_chosen g g.ends.source choices
  pub feasible : IsFeasibleWalk g taken.arcs

-- the walks of the first k cheap entries, in their order
pub record AreCheapest (g : GraphParts) (number : ℕ) (t : Cells Label) (k : ℕ) (walks : List Taken) : Type 0 where
  pub ranked : List Ranked
  pub first : AreFirst g.ends.sink t k ranked
  pub taken : AllZip (IsTakenFrom g number t) ranked walks
