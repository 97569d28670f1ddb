-- Tidy plans: equal walks merged, in order by graph, then by arc list.
use Rattle.std.specs.Prelude.{◌≡◌, ℕ, ◌+◌, ◌*◌, ◌<◌, ◌≤◌, ◌⊎◌, List, length, Result, Ok, Err}
use Rattle.std.specs.declared.cmp.Ordering.{Ordering}
use Rattle.std.specs.declared.cmp.Ordering.TheVariants.{Less, Equal, Greater}
use Rattle.std.specs.Ordering.{nat_cmp, ordering_then}
use Rattle.std.specs.Cmp.Lexicographic.{slice_cmp}
use Rattle.path_graph.specs.declared.limits.TheConstants.{MAX_PATHS}
use Rattle.route_model.specs.declared.plan.Taken.{Taken}
use Rattle.route_model.specs.declared.plan.Plan.{Plan}
use Rattle.route_model.specs.Parts.{taken_at}
use Rattle.route_model.specs.Quantities.{quantity, paths_of}

-- how the walks of two paths stand: by graph, then by arc list, number by number
abbrev pub walk_order : Taken → Taken → Ordering
walk_order s t = ordering_then (nat_cmp s.graph t.graph) (slice_cmp nat_cmp s.arcs t.arcs)

-- each walk comes before the next, so no two are equal
abbrev pub IsTidy : Plan → Type 0
IsTidy plan =
    (k : ℕ) → k + 1 < length plan.paths → walk_order (taken_at plan.paths k) (taken_at plan.paths (k + 1)) ≡ Less

-- every quantity is the same in both plans
abbrev pub KeepsQuantities : Plan → Plan → Type 0
KeepsQuantities old new = (of_walk : ℕ → List ℕ → ℕ) → quantity of_walk new ≡ quantity of_walk old

-- the same walk, taken at least as often
pub record Covers (t u : Taken) : Type 0 where
  pub graph : u.graph ≡ t.graph
  pub arcs : u.arcs ≡ t.arcs
  pub count : t.count ≤ u.count

-- a path of the plan is covered
abbrev pub ComesFrom : Plan → Taken → Type 0
ComesFrom plan u = (i : ℕ) × (i < length plan.paths) × Covers (taken_at plan.paths i) u

-- each path of the new plan covers one of the old
abbrev pub AllComeFrom : Plan → Plan → Type 0
AllComeFrom old new = (k : ℕ) → k < length new.paths → ComesFrom old (taken_at new.paths k)

-- the walk of a path is that of some path of the plan
abbrev pub HasWalk : Plan → Taken → Type 0
HasWalk plan t =
    (i : ℕ) × (i < length plan.paths) × ((taken_at plan.paths i).graph ≡ t.graph) × ((taken_at plan.paths i).arcs ≡ t.arcs)

-- each walk of the old plan that is taken at least once stands in the new; paths of count 0 may be left out
abbrev pub KeepsWalks : Plan → Plan → Type 0
KeepsWalks old new = (k : ℕ) → k < length old.paths → 1 ≤ (taken_at old.paths k).count → HasWalk new (taken_at old.paths k)

-- the counts of each graph sum to at most MAX_PATHS
abbrev pub AreFew : Plan → Type 0
AreFew plan = (g : ℕ) → paths_of plan g ≤ MAX_PATHS

-- the place of the path with the same walk, or the place before which all walks come before it, and after which none do
abbrev pub IsPlaceOf : List Taken → Taken → Result ℕ ℕ → Type 0
IsPlaceOf paths t (Ok i) = (i < length paths) × (walk_order (taken_at paths i) t ≡ Equal)
IsPlaceOf paths t (Err i) =
    (i ≤ length paths)
    × ((k : ℕ) → k < i → walk_order (taken_at paths k) t ≡ Less)
    × ((k : ℕ) → i ≤ k → k < length paths → walk_order (taken_at paths k) t ≡ Greater)

-- every quantity grows by that of the path
abbrev pub AddsPath : Plan → Plan → Taken → Type 0
AddsPath old new t = (of_walk : ℕ → List ℕ → ℕ) → quantity of_walk new ≡ quantity of_walk old + t.count * of_walk t.graph t.arcs

-- each path of the new plan covers one of the old, or the path
abbrev pub AllComeFromOr : Plan → Taken → Plan → Type 0
AllComeFromOr old t new =
    (k : ℕ) → k < length new.paths → ComesFrom old (taken_at new.paths k) ⊎ Covers t (taken_at new.paths k)
