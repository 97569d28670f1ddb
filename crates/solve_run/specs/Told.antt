-- What the endings of a search tell: the nodes of a certificate, and the tree of a search that stops.
use Rattle.std.specs.Prelude.{◌≡◌, ◌⊎◌, ℤ, Option, None, Some, List, All}
use Rattle.route_model.specs.declared.plan.Plan.{Plan}
use Rattle.route_model.specs.Parts.{ModelParts}
use Rattle.proof_rules.specs.Validity.{IsProofTree}
use Rattle.certificate.specs.declared.cert.Node.{Node}
use Rattle.certificate.specs.declared.cert.NodeForm.TheVariants as node
use Rattle.certificate.specs.CertFits.{NodeIsTold}
use Rattle.cert_rules.specs.Meaning.{nodes_of}
use Rattle.cert_check.specs.Verdicts.{IsNamedNode}
use Rattle.open_tree.specs.declared.slots.Slot.{Slot}
use Rattle.open_tree.specs.declared.slots.Slot.TheVariants.{Made, Open}
use Rattle.made_nodes.specs.declared.node.MadeNode.{MadeNode}
use Rattle.search_tree.specs.declared.places.OpenPlace.{OpenPlace}
use Rattle.search_tree.specs.declared.search.Search.{Search}
use Rattle.search_tree.specs.Search.{made_in}
use Rattle.place_nodes.specs.declared.wall.LabelWall.{LabelWall}
use Rattle.place_nodes.specs.Walls.{IsLabelWall}
use Rattle.search_steps.specs.Passed.{PassesLabels, PassesNodes}
use Rattle.solve_run.specs.declared.outcome.Best.{Best}
use Rattle.solve_run.specs.declared.outcome.Limits.{Limits}
use Rattle.solve_run.specs.declared.outcome.Outcome.{Outcome}
use Rattle.solve_run.specs.Outcomes.{IsOutcome, IsPassed}

-- a node of a certificate that no text tells yet
abbrev pub told_node : MadeNode → Node
told_node made = record { line = 0; form = made.form }

-- the nodes of a certificate are a proof tree against z, with trees that are named in order, and a text can tell them
pub record IsToldTree (m : ModelParts) (z : ℤ) (nodes : List Node) : Type 0 where
  pub tree : IsProofTree m z (nodes_of m nodes)
  pub named : All (λ (n : Node). IsNamedNode m n.form) nodes
  pub told : All (λ (n : Node). NodeIsTold m n.form) nodes

-- a made node has the line 1; an open place the line 0, and the form of a point
abbrev pub told_slot : Slot OpenPlace MadeNode → Node
told_slot (Open p) = record { line = 0; form = node.Point }
told_slot (Made made) = record { line = 1; form = made.form }

-- the best plan, with its cost
abbrev pub best_said : ℤ → Option Plan → Option Best
best_said z None = None
best_said z (Some plan) = Some (record { cost = z; plan = plan })

-- the outcome is right, and its limit, if it tells one, is passed
pub record IsEnding (m : ModelParts) (limits : Limits) (o : Outcome) : Type 0 where
  pub outcome : IsOutcome m limits o
  pub passed : IsPassed m limits o

-- with any limits; where it has the wall of labels; and where so many nodes are made and are not enough
abbrev pub EndsAs : ModelParts → Outcome → Type 0
EndsAs m o = (limits : Limits) → IsEnding m limits o

abbrev pub EndsAtWall : ModelParts → LabelWall → Outcome → Type 0
EndsAtWall m wall o = (limits : Limits) → IsLabelWall m limits.labels wall → IsEnding m limits o

abbrev pub EndsAtNodes : ModelParts → Search → Outcome → Type 0
EndsAtNodes m s o = (limits : Limits) → made_in s ≡ limits.nodes → PassesLabels m limits.labels ⊎ PassesNodes m limits.nodes → IsEnding m limits o
