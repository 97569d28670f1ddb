-- What a limit is passed by, where a search stops at it.
use Rattle.std.specs.Prelude.{◌⊎◌, ℕ, ◌<◌, List, length}
use Rattle.route_model.specs.Parts.{ModelParts}
use Rattle.proof_rules.specs.Counts.{Walk}
use Rattle.search_rules.specs.Completeness.{AllPartialWalks, AllRests, AllWalks, enough_nodes}

-- the model has more feasible partial walks, or more rests, than the limit
abbrev pub PassesLabels : ModelParts → ℕ → Type 0
PassesLabels m limit = (partials rests : List Walk) → AllPartialWalks m partials → AllRests m rests → (limit < length partials) ⊎ (limit < length rests)

-- so many nodes are fewer than are enough
abbrev pub PassesNodes : ModelParts → ℕ → Type 0
PassesNodes m nodes = (walks : List Walk) → AllWalks m walks → nodes < enough_nodes m walks
