-- The best plan that was found, and the cost to beat with it.
use Rattle.std.specs.Prelude.{◌≡◌, ℤ, Option, None, Some}
use lib.Signed.{◌<ℤ◌}
use Rattle.route_model.specs.declared.plan.Plan.{Plan}
use Rattle.route_model.specs.Parts.{ModelParts}
use Rattle.route_model.specs.Quantities.{cost_of}
use Rattle.route_model.specs.Solution.{IsSolution}
use Rattle.route_model.specs.Tidy.{IsTidy}

-- no plan was found, and the cost to beat is as before; or a tidy solution that costs less was, and its cost is to beat
abbrev pub IsBetter : ModelParts → ℤ → Option Plan → ℤ → Type 0
IsBetter m z None less = less ≡ z
IsBetter m z (Some plan) less = IsSolution m plan × IsTidy plan × (cost_of m plan ≡ less) × (less <ℤ z)
