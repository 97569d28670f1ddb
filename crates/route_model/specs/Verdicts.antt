-- What a verdict on a plan says.
use Rattle.std.specs.Prelude.{◌≡◌, ◌-◌, ◌<◌, ◌≤◌, ◌^◌, length, All}
use Rattle.path_graph.specs.declared.limits.TheConstants.{MAX_PATHS}
use Rattle.path_graph.specs.First.{EachBelow, IsFirstFault}
use Rattle.route_model.specs.declared.plan.Plan.{Plan}
use Rattle.route_model.specs.declared.plan.Verdict.{Verdict}
use Rattle.route_model.specs.declared.plan.Verdict.TheVariants.{Fine, NotWalk, Count, Packing, VarBox, RowBox}
use Rattle.route_model.specs.Parts.{ModelParts, taken_at}
use Rattle.route_model.specs.Quantities.{cost_of}
use Rattle.route_model.specs.Solution.{IsPath, ArePaths, CountFits, SetFits, InBox, RowHolds, IsSolution}

-- a plan that can be judged: fewer than 2^32 - 1 paths, none taken more than 4,096 times
pub record IsCounted (plan : Plan) : Type 0 where
  pub few : length plan.paths < 2 ^ 32 - 1
  pub each : All (λ t. t.count ≤ MAX_PATHS) plan.paths

-- the plan is a solution of that cost, or this is its first fault: paths before counts before sets before variables before rows
abbrev pub IsVerdict : ModelParts → Plan → Verdict → Type 0
IsVerdict m plan (Fine cost) = IsSolution m plan × (cost ≡ cost_of m plan)
IsVerdict m plan (NotWalk i) = IsFirstFault (length plan.paths) (λ k. IsPath m (taken_at plan.paths k)) i
IsVerdict m plan (Count g) =
    ArePaths m plan
    × IsFirstFault (length m.graphs) (CountFits m.graphs plan) g
IsVerdict m plan (Packing s) =
    ArePaths m plan
    × EachBelow (length m.graphs) (CountFits m.graphs plan)
    × IsFirstFault m.sets (SetFits m plan) s
IsVerdict m plan (VarBox j) =
    ArePaths m plan
    × EachBelow (length m.graphs) (CountFits m.graphs plan)
    × EachBelow m.sets (SetFits m plan)
    × IsFirstFault (length m.vars) (InBox m plan) j
IsVerdict m plan (RowBox i) =
    ArePaths m plan
    × EachBelow (length m.graphs) (CountFits m.graphs plan)
    × EachBelow m.sets (SetFits m plan)
    × EachBelow (length m.vars) (InBox m plan)
    × IsFirstFault (length m.rows) (RowHolds m plan) i
