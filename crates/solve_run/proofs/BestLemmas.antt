-- The best plan of a search, and the cost to beat with it.
use Rattle.std.proofs.Common.{◌≡◌, ℤ, ◌≤ℤ◌, Option, None, Some, refl}
use Rattle.std.specs.Prelude.{◌≢◌, IfSome}
use Rattle.route_model.specs.declared.plan.Plan.{Plan}
use Rattle.route_model.specs.Parts.{ModelParts}
use Rattle.made_nodes.specs.Better.{IsBetter}
use Rattle.solve_run.specs.declared.outcome.Best.{Best}
use Rattle.solve_run.specs.Stops.{IsBestPlan, plan_in}
use Rattle.solve_run.specs.Told.{best_said}

pub best_plan : (m : ModelParts) (a : ℤ) (plan : Plan) (z : ℤ) → IsBetter m a (Some plan) z → IsBestPlan m (record { cost = z; plan = plan })
best_plan m a plan z better = record { solution = better.0; tidy = better.1; costs = better.2 }

-- what is told of it
pub best_is : (m : ModelParts) (a : ℤ) (best : Option Plan) (z : ℤ) → IsBetter m a best z → IfSome (best_said z best) (IsBestPlan m)
best_is m a None z better = tt
best_is m a (Some plan) z better = best_plan m a plan z better

pub plan_said : (z : ℤ) (best : Option Plan) → plan_in (best_said z best) ≡ best
plan_said z None = refl
plan_said z (Some plan) = refl

pub bound_most : (z bound : ℤ) (best : Option Plan) → (best ≢ None → bound ≤ℤ z) → IfSome (best_said z best) (λ (b : Best). bound ≤ℤ b.cost)
bound_most z bound None most = tt
bound_most z bound (Some plan) most = most (λ e. cc)
