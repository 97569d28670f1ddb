-- What `solve` tells of the model in its input.
use Rattle.std.specs.Prelude.{◌≡◌, ℕ, ◌⊎◌, ℤ, List, Option}
use Rattle.route_model.specs.declared.plan.Plan.{Plan}
use Rattle.route_model.specs.Parts.{ModelParts}
use Rattle.route_model.specs.Quantities.{cost_of}
use Rattle.route_model.specs.Solution.{HasNoSolution, IsLeast}
use Rattle.route_model.specs.Tidy.{IsTidy}
use Rattle.model_text.specs.Spelling.{Spells}
use Rattle.certificate.specs.declared.cert.Cert.{Cert}
use Rattle.certificate.specs.declared.cert.Goal.{Goal}
use Rattle.certificate.specs.declared.cert.Goal.TheVariants as goal
use Rattle.certificate.specs.declared.cert.Node.{Node}
use Rattle.certificate.specs.CertPrint.{cert_text}
use Rattle.certificate.specs.Spelling.{SpellsCert}
use Rattle.cert_check.specs.Verdicts.{IsAccepted}
use Rattle.place_nodes.specs.declared.wall.LabelWall.{LabelWall}
use Rattle.place_nodes.specs.Walls.{IsLabelWall}
use Rattle.search_steps.specs.Passed.{PassesLabels, PassesNodes}
use Rattle.solve_run.specs.declared.outcome.Best.{Best}
use Rattle.solve_run.specs.declared.outcome.Limits.{Limits}
use Rattle.solve_run.specs.Stops.{IsBoundBeside, IsStoppedTree}

-- the text is one of this certificate, and of no other
pub record SpellsOnly (m : ModelParts) (text : List ℕ) (cert : Cert) : Type 0 where
  pub spelled : SpellsCert m text cert
  pub only : (other : Cert) → SpellsCert m text other → other ≡ cert

-- the text is the printed text of a certificate with this claim, and of no other, and the check accepts it
pub record IsProofText (m : ModelParts) (claim : Goal) (cert : Cert) (text : List ℕ) : Type 0 where
  pub certified : SpellsOnly m text cert
  pub accepted : IsAccepted m cert
  pub claimed : cert.goal ≡ claim
  pub printed : text ≡ cert_text m cert

-- the text is one of a certificate with the same claim and plan, and of no other; it is accepted where that one is
pub record IsProofTold (m : ModelParts) (cert : Cert) (text : List ℕ) : Type 0 where
  pub told : Cert
  pub certified : SpellsOnly m text told
  pub accepted : IsAccepted m cert → IsAccepted m told
  pub claimed : told.goal ≡ cert.goal
  pub planned : told.plan ≡ cert.plan
  pub printed : text ≡ cert_text m told

-- the input spells a model; the text is that of a certificate of a tidy plan, which is a solution, and none costs less
pub record TellsLeast (text input : List ℕ) : Type 0 where
  pub model : ModelParts
  pub spelled : Spells input model
  pub plan : Plan
  pub least : IsLeast model plan
  pub tidy : IsTidy plan
  pub cert : Cert
  pub proof : IsProofText model (goal.Optimal (cost_of model plan)) cert text
  pub planned : cert.plan ≡ plan

-- the input spells a model that has no solution; the text is that of a certificate of it
pub record TellsNone (text input : List ℕ) : Type 0 where
  pub model : ModelParts
  pub spelled : Spells input model
  pub none : HasNoSolution model
  pub cert : Cert
  pub proof : IsProofText model goal.Infeasible cert text

-- the input spells a model; the search stopped at the limit of labels, by this wall, with this best plan and bound
pub record StopsAtLabels (limit : ℕ) (wall : LabelWall) (best : Option Best) (bound : ℤ) (input : List ℕ) : Type 0 where
  pub model : ModelParts
  pub spelled : Spells input model
  pub wall_is : IsLabelWall model limit wall
  pub bound_is : IsBoundBeside model best bound
  pub passes : PassesLabels model limit

-- the input spells a model; the search stopped at the limit of nodes, with these nodes, this best plan and bound
pub record StopsAtNodes (limits : Limits) (nodes : List Node) (best : Option Best) (bound : ℤ) (input : List ℕ) : Type 0 where
  pub model : ModelParts
  pub spelled : Spells input model
  pub stopped : IsStoppedTree model limits.nodes best nodes bound
  pub bound_is : IsBoundBeside model best bound
  pub passes : PassesLabels model limits.labels ⊎ PassesNodes model limits.nodes
