-- What a verdict on a plan says of it.
use Rattle.std.proofs.Common.{◌≡◌, ℤ, refl}
use Rattle.route_model.specs.declared.plan.Plan.{Plan}
use Rattle.route_model.specs.declared.plan.Verdict.{Verdict}
use Rattle.route_model.specs.declared.plan.Verdict.TheVariants.{Fine, NotWalk, Count, Packing, VarBox, RowBox}
use Rattle.route_model.specs.Parts.{ModelParts}
use Rattle.route_model.specs.Solution.{IsSolution}
use Rattle.route_model.specs.Verdicts.{IsVerdict}

-- a plan with a fault is no solution
pub fault_unsolved : (m : ModelParts) (plan : Plan) (verdict : Verdict) → IsVerdict m plan verdict → ((cost : ℤ) → verdict ≡ Fine cost → ⊥) → ¬ (IsSolution m plan)
fault_unsolved m plan (Fine cost) is other solves = other cost refl
fault_unsolved m plan (NotWalk i) is other solves = is.fails (solves.paths i is.within)
fault_unsolved m plan (Count g) is other solves = is.1.fails (solves.counts g is.1.within)
fault_unsolved m plan (Packing s) is other solves = is.2.fails (solves.sets s is.2.within)
fault_unsolved m plan (VarBox j) is other solves = is.3.fails (solves.vars j is.3.within)
fault_unsolved m plan (RowBox i) is other solves = is.4.fails (solves.rows i is.4.within)
