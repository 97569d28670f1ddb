-- One round of the growth of a tree over counts: the node of the counts that are taken next, and what it opens.
use Rattle.std.specs.Prelude.{◌≡◌, ℕ, ◌+◌, ◌≤◌, ◌^◌, ◌⊎◌, ℤ, ◌≤ℤ◌, Option, None, Some, List, [], ◌∷◌, ◌++◌, length, slice_set, All}
use Rattle.path_graph.specs.Within.{IsWithin}
use Rattle.route_model.specs.declared.places.Span.{Span}
use Rattle.route_model.specs.declared.plan.Plan.{Plan}
use Rattle.route_model.specs.Fit.{ModelFits}
use Rattle.route_model.specs.Parts.{ModelParts}
use Rattle.route_model.specs.PlaceParts.{high_part, low_part}
use Rattle.route_model.specs.Places.{span_at}
use Rattle.route_model.specs.Quantities.{cost_of}
use Rattle.route_model.specs.Solution.{IsSolution}
use Rattle.proof_rules.specs.Counts.{Walk}
use Rattle.certificate.specs.declared.cert.NodeForm.TheVariants as node
use Rattle.cert_check.specs.Reads.{CountsFit}
use Rattle.walk_list.specs.Walks.{walks_said}
use Rattle.made_nodes.specs.declared.node.MadeNode.{MadeNode}
use Rattle.made_nodes.specs.Better.{IsBetter}
use Rattle.count_trees.specs.declared.growth.CountGrowth.{CountGrowth}
use Rattle.count_trees.specs.declared.growth.Found.{Found}
use Rattle.count_trees.specs.declared.growth.Growth.{Growth}
use Rattle.count_trees.specs.declared.rounds.Task.{Task}
use Rattle.count_trees.specs.Costs.{walk_costs}
use Rattle.count_trees.specs.Growth.{IsGrown}

-- the walks of a task, counts over them, and what its costs are
abbrev pub walks_in : Task → List Walk
walks_in t = walks_said t.walks.now

abbrev pub CountsAt : Task → List Span → Type 0
CountsAt t boxes = CountsFit t.model.now t.spot.now (walks_in t) boxes

pub record TaskFits (t : Task) : Type 0 where
  pub model : ModelFits t.model.now
  pub costs : t.costs.now ≡ walk_costs t.model.now (walks_in t)
  pub small : All (IsWithin (2 ^ 88)) t.costs.now

-- no node yet, and one item
pub record IsStart (boxes : List Span) (z : ℤ) (g : Growth) : Type 0 where
  pub nodes : g.nodes ≡ []
  pub rest : g.rest ≡ boxes ∷ []
  pub same : g.z ≡ z
  pub best : g.best ≡ None

-- a node more
pub record AddsNode (old : Growth) (node : MadeNode) (new : Growth) : Type 0 where
  pub nodes : new.nodes ≡ old.nodes ++ node ∷ []
  pub rest : new.rest ≡ old.rest
  pub same : new.z ≡ old.z
  pub best : new.best ≡ old.best

-- both parts of a box, divided at its low end
abbrev pub parts_at : List Span → ℕ → List (List Span)
parts_at boxes i =
    slice_set boxes i (high_part (span_at boxes i) (span_at boxes i).low) ∷ slice_set boxes i (low_part (span_at boxes i) (span_at boxes i).low) ∷ []

pub record AddsParts (old : Growth) (boxes : List Span) (i : ℕ) (new : Growth) : Type 0 where
  pub nodes : new.nodes ≡ old.nodes
  pub rest : new.rest ≡ old.rest ++ parts_at boxes i
  pub same : new.z ≡ old.z
  pub best : new.best ≡ old.best

-- a node that splits the box there, with its bound, and both parts
pub record SplitsAt (old : Growth) (boxes : List Span) (i : ℕ) (bound : ℤ) (new : Growth) : Type 0 where
  pub nodes : new.nodes ≡ old.nodes ++ record { form = node.CountSplit i (span_at boxes i).low; bound = bound } ∷ []
  pub rest : new.rest ≡ old.rest ++ parts_at boxes i
  pub same : new.z ≡ old.z
  pub best : new.best ≡ old.best

-- the best plan so far, where one was found
pub record HasFound (old : Growth) (found : Found) (new : Growth) : Type 0 where
  pub nodes : new.nodes ≡ old.nodes
  pub rest : new.rest ≡ old.rest
  pub less : new.z ≡ found.cost
  pub best : new.best ≡ Some found.plan

abbrev pub TakesFound : Growth → Option Found → Growth → Type 0
TakesFound old None new = new ≡ old
TakesFound old (Some found) new = HasFound old found new

-- what is found of a plan: if it is a solution that costs less than z, it, tidied
abbrev pub IsFoundBelow : ModelParts → ℤ → Plan → Option Found → Type 0
IsFoundBelow m z plan None = IsSolution m plan → z ≤ℤ cost_of m plan
IsFoundBelow m z plan (Some found) = IsBetter m z (Some found.plan) found.cost × (cost_of m plan ≡ found.cost)

-- a tree that was grown so far, from any boxes and against any cost to beat, with these counts last grows on
pub record IsRound (t : Task) (old : Growth) (boxes : List Span) (new : Growth) : Type 0 where
  pub grown : (first : List Span) (z : ℤ) → IsGrown t.model.now t.spot.now (walks_in t) first z old.nodes (old.rest ++ boxes ∷ []) old.z old.best
      → IsGrown t.model.now t.spot.now (walks_in t) first z new.nodes new.rest new.z new.best
  pub count : length new.nodes ≡ length old.nodes + 1

-- grown from boxes against z, with so many nodes at most, and where there are fewer nothing is open
pub record IsGrownWithin (t : Task) (boxes : List Span) (z : ℤ) (budget : ℕ) (g : Growth) : Type 0 where
  pub grown : IsGrown t.model.now t.spot.now (walks_in t) boxes z g.nodes g.rest g.z g.best
  pub few : length g.nodes ≤ budget
  pub ended : (g.rest ≡ []) ⊎ (length g.nodes ≡ budget)

-- the same in the hands of a caller
pub record IsTold (g : Growth) (told : CountGrowth) : Type 0 where
  pub nodes : told.nodes.items ≡ g.nodes
  pub rest : told.rest.items ≡ g.rest
  pub same : told.z ≡ g.z
  pub best : told.best ≡ g.best
