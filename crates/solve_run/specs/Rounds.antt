-- What a round of a search comes to: it goes on, with less left to do, or it ends.
use Rattle.std.specs.Prelude.{◌≡◌, ◌≢◌, ◌⊎◌, ℕ, ◌+◌, ◌<◌, ◌≤◌, ℤ, true, List, []}
use Rattle.route_model.specs.Parts.{ModelParts}
use Rattle.proof_rules.specs.OpenTrees.{valued_root}
use Rattle.certificate.specs.declared.limits.TheConstants.{MAX_NODES}
use Rattle.open_tree.specs.declared.slots.Slot.{Slot}
use Rattle.open_tree.specs.Slots.{IsOpenAt}
use Rattle.made_nodes.specs.declared.node.MadeNode.{MadeNode}
use Rattle.search_tree.specs.declared.growing.Grown.{Grown}
use Rattle.search_tree.specs.declared.places.OpenPlace.{OpenPlace}
use Rattle.search_tree.specs.declared.search.Search.{Search}
use Rattle.search_tree.specs.Grown.{IsGrownAt}
use Rattle.search_tree.specs.Places.{valued}
use Rattle.search_tree.specs.Search.{IsSearch, made_in, opens_in, slots_in}
use Rattle.search_steps.specs.declared.plain.Plain.{Plain}
use Rattle.search_steps.specs.declared.stepping.Stepped.{Stepped}
use Rattle.search_steps.specs.Passed.{PassesLabels, PassesNodes}
use Rattle.search_steps.specs.Steps.{IsPlain, IsStep}
use Rattle.solve_run.specs.declared.outcome.Limits.{Limits}
use Rattle.solve_run.specs.declared.rounds.Next.{Next}
use Rattle.solve_run.specs.declared.rounds.Next.TheVariants.{Ends, Goes}
use Rattle.solve_run.specs.Told.{IsEnding}
use Rattle.solve_run.specs.Work.{work_left}

-- a search that made no more nodes than it may
pub record IsWithin (m : ModelParts) (limits : Limits) (s : Search) : Type 0 where
  pub search : IsSearch m s
  pub few : made_in s ≤ limits.nodes

pub record GoesOn (m : ModelParts) (limits : Limits) (old new : Search) : Type 0 where
  pub within : IsWithin m limits new
  pub less : work_left m limits.nodes new < work_left m limits.nodes old

abbrev pub IsRound : ModelParts → Limits → Search → Next → Type 0
IsRound m limits s (Goes new) = GoesOn m limits s new
IsRound m limits s (Ends outcome) = IsEnding m limits outcome

-- an item is open at a place of the slots
abbrev pub HasOpenAt : List (Slot OpenPlace MadeNode) → ℕ → Type 0
HasOpenAt slots at = (place : OpenPlace) × IsOpenAt slots at place

-- so many nodes may be made yet, and at least one
abbrev pub IsRoom : Limits → Search → ℕ → Type 0
IsRoom limits s budget = (1 ≤ budget) × (made_in s + budget ≡ limits.nodes)

-- a search with the same slots, and no more left to do
pub record IsKept (m : ModelParts) (limits : Limits) (old new : Search) : Type 0 where
  pub within : IsWithin m limits new
  pub slots : new.slots ≡ old.slots
  pub most : work_left m limits.nodes new ≤ work_left m limits.nodes old

-- it is the step at the place that is open there
pub record IsStepAt (m : ModelParts) (s : Search) (at labels budget : ℕ) (step : Stepped) : Type 0 where
  pub place : OpenPlace
  pub is_open : IsOpenAt (slots_in s) at place
  pub comes : IsStep m place s.z labels budget step

-- as many nodes as may be are made, and tested, and some place is open
pub record IsFull (m : ModelParts) (limits : Limits) (s : Search) : Type 0 where
  pub within : IsWithin m limits s
  pub made : made_in s ≡ limits.nodes
  pub tested : s.is_tested ≡ true
  pub some_open : opens_in s ≢ []

-- the limits are passed
abbrev pub Passes : ModelParts → Limits → Type 0
Passes m limits = PassesLabels m limits.labels ⊎ PassesNodes m limits.nodes

-- a whole tree was grown at the root, of so many nodes at most as a certificate may have
pub record IsWholeAtRoot (m : ModelParts) (z : ℤ) (g : Grown) : Type 0 where
  pub root : OpenPlace
  pub at_root : valued root ≡ valued_root m
  pub grown : IsGrownAt m root z MAX_NODES g
  pub whole : g.rest.items ≡ []

-- what comes of the plain tree at the root
pub record IsPlainAtRoot (m : ModelParts) (z : ℤ) (limits : Limits) (plain : Plain) : Type 0 where
  pub root : OpenPlace
  pub at_root : valued root ≡ valued_root m
  pub comes : IsPlain m root z limits.labels limits.nodes plain
