-- What each outcome of a search says.
use Rattle.std.specs.Prelude.{◌⊎◌}
use Rattle.route_model.specs.Parts.{ModelParts}
use Rattle.place_nodes.specs.Walls.{IsLabelWall}
use Rattle.search_steps.specs.Passed.{PassesLabels, PassesNodes}
use Rattle.solve_run.specs.declared.outcome.Limits.{Limits}
use Rattle.solve_run.specs.declared.outcome.Outcome.{Outcome}
use Rattle.solve_run.specs.declared.outcome.Outcome.TheVariants.{Infeasible, LabelLimit, Memory, NodeLimit, Optimal}
use Rattle.solve_run.specs.Certificates.{IsProvedLeast, IsProvedNone}
use Rattle.solve_run.specs.Stops.{IsBoundBeside, IsStoppedTree}

-- a least plan, or that there is none, with a certificate that the check accepts; or a wall of the limit, kept with the best plan
-- and a bound
abbrev pub IsOutcome : ModelParts → Limits → Outcome → Type 0
IsOutcome m limits (Optimal cost plan cert) = IsProvedLeast m cost plan cert
IsOutcome m limits (Infeasible cert) = IsProvedNone m cert
IsOutcome m limits (LabelLimit wall best bound) = IsLabelWall m limits.labels wall × IsBoundBeside m best bound
IsOutcome m limits (NodeLimit nodes best bound) = IsStoppedTree m limits.nodes best nodes bound × IsBoundBeside m best bound
IsOutcome m limits Memory = Unit {0}

-- a limit is answered only where the model has more than it: more partial walks, or rests, than labels; or those, or fewer nodes
-- than are enough
abbrev pub IsPassed : ModelParts → Limits → Outcome → Type 0
IsPassed m limits (Optimal cost plan cert) = Unit {0}
IsPassed m limits (Infeasible cert) = Unit {0}
IsPassed m limits (LabelLimit wall best bound) = PassesLabels m limits.labels
IsPassed m limits (NodeLimit nodes best bound) = PassesLabels m limits.labels ⊎ PassesNodes m limits.nodes
IsPassed m limits Memory = Unit {0}
