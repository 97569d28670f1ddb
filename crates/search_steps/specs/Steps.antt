-- One step of a search at an open place, and the tree that is tried before a search stops at a limit of nodes.
use Rattle.std.specs.Prelude.{◌≡◌, ◌⊎◌, ℕ, ℤ, []}
use Rattle.route_model.specs.Parts.{ModelParts}
use Rattle.made_nodes.specs.Better.{IsBetter}
use Rattle.search_tree.specs.declared.places.OpenPlace.{OpenPlace}
use Rattle.search_tree.specs.Grown.{IsGrownAt}
use Rattle.place_nodes.specs.Walls.{IsLabelWall}
use Rattle.search_steps.specs.declared.stepping.Stepped.{Stepped}
use Rattle.search_steps.specs.declared.stepping.Stepped.TheVariants as stepped
use Rattle.search_steps.specs.declared.plain.Plain.{Plain}
use Rattle.search_steps.specs.declared.plain.Plain.TheVariants as plain
use Rattle.search_steps.specs.Passed.{PassesLabels, PassesNodes}

-- a tree that was grown there, with so many nodes at most; or a wall
abbrev pub IsStep : ModelParts → OpenPlace → ℤ → ℕ → ℕ → Stepped → Type 0
IsStep m at z labels budget (stepped.Grown g) = IsGrownAt m at z budget g
IsStep m at z labels budget (stepped.Wall wall) = IsLabelWall m labels wall
IsStep m at z labels budget stepped.Memory = Unit {0}

-- a whole tree at the root place; or there is none within the limits, which are passed by what the model has, and perhaps a
-- better plan was found
abbrev pub IsPlain : ModelParts → OpenPlace → ℤ → ℕ → ℕ → Plain → Type 0
IsPlain m root z labels nodes (plain.Whole g) = IsGrownAt m root z nodes g × (g.rest.items ≡ [])
IsPlain m root z labels nodes (plain.Left less best) = IsBetter m z best less × (PassesLabels m labels ⊎ PassesNodes m nodes)
IsPlain m root z labels nodes plain.Memory = Unit {0}
