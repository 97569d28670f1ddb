-- The first fault of a certificate, and the certificates that have none.
use Rattle.std.specs.Prelude.{◌≡◌, ℕ, ◌⊎◌, ℤ, List, [], ◌∷◌, map, take, drop, All}
use Rattle.route_model.specs.declared.plan.Plan.{Plan}
use Rattle.route_model.specs.Costs.{cost_above_all}
use Rattle.route_model.specs.Parts.{ModelParts}
use Rattle.route_model.specs.Places.{root_place}
use Rattle.route_model.specs.Quantities.{cost_of}
use Rattle.route_model.specs.Solution.{IsSolution}
use Rattle.proof_rules.specs.Grows.{Grows}
use Rattle.proof_rules.specs.Nodes.{AtPlace, Item}
use Rattle.proof_rules.specs.Validity.{IsValid}
use Rattle.certificate.specs.declared.cert.Cert.{Cert}
use Rattle.certificate.specs.declared.cert.Goal.{Goal}
use Rattle.certificate.specs.declared.cert.Goal.TheVariants as goal
use Rattle.certificate.specs.declared.cert.Node.{Node}
use Rattle.certificate.specs.declared.cert.NodeForm.{NodeForm}
use Rattle.certificate.specs.declared.cert.NodeForm.TheVariants as node
use Rattle.cert_rules.specs.Meaning.{certificate_of}
use Rattle.cert_check.specs.declared.fault.CheckError.{CheckError}
use Rattle.cert_check.specs.declared.fault.CheckError.TheVariants.{Refused, Memory}
use Rattle.cert_check.specs.declared.fault.CheckFault.{CheckFault}
use Rattle.cert_check.specs.declared.fault.CheckKind.{CheckKind}
use Rattle.cert_check.specs.declared.fault.CheckKind.TheVariants as kind
use Rattle.cert_check.specs.declared.fault.NodeError.{NodeError}
use Rattle.cert_check.specs.declared.fault.NodeError.TheVariants as node_error
use Rattle.cert_check.specs.Faults.{AreNamed, IsNodeFault, form_rules}

abbrev pub forms_of : List Node → List NodeForm
forms_of nodes = map (λ (n : Node). n.form) nodes

abbrev pub root_items : ModelParts → List Item
root_items m = AtPlace (root_place m) ∷ []

-- the nodes are a proof tree against z, with trees that are named in order
abbrev pub IsTreeOf : ModelParts → ℤ → List Node → Type 0
IsTreeOf m z nodes = Grows (form_rules m z) (root_items m) (forms_of nodes) []

-- reading stops at open items before nodes: a node stands after the tree's end, or lacks at the line of the end, or has a
-- fault at the first item
abbrev pub StopsWith : ModelParts → ℤ → ℕ → List Item → List Node → CheckFault → Type 0
StopsWith m z end [] [] fault = ⊥
StopsWith m z end [] (n ∷ nodes) fault = fault ≡ record { line = n.line; kind = kind.Tail }
StopsWith m z end (item ∷ items) [] fault = fault ≡ record { line = end; kind = kind.Tail }
StopsWith m z end (item ∷ items) (n ∷ nodes) fault = (fault.line ≡ n.line) × IsNodeFault m z item n.form fault.kind

-- the first fault of a tree: the nodes before it grow from the root place, and reading stops there
pub record IsTreeFault (m : ModelParts) (z : ℤ) (nodes : List Node) (end : ℕ) (fault : CheckFault) : Type 0 where
  pub place : ℕ
  pub open_items : List Item
  pub grows : Grows (form_rules m z) (root_items m) (forms_of (take place nodes)) open_items
  pub stops : StopsWith m z end open_items (drop place nodes) fault

-- why nodes are no proof tree
abbrev pub IsTreeError : ModelParts → ℤ → List Node → ℕ → CheckError → Type 0
IsTreeError m z nodes end (Refused fault) = IsTreeFault m z nodes end fault
IsTreeError m z nodes end Memory = Unit {0}

-- what is wrong at a node, with its line
abbrev pub error_at : ℕ → NodeError → CheckError
error_at line (node_error.Fault kind) = Refused (record { line = line; kind = kind })
error_at line node_error.Memory = Memory

-- a plan is no solution, or its cost is not this one
abbrev pub IsPlanFault : ModelParts → Plan → ℤ → CheckKind → Type 0
IsPlanFault m plan cost kind.Plan = ¬ (IsSolution m plan)
IsPlanFault m plan cost kind.Cost = IsSolution m plan × ¬ (cost_of m plan ≡ cost)
IsPlanFault m plan cost k = ⊥

-- the first fault of a claim of this cost: of the plan, at the line of the goal, or else of the tree
abbrev pub IsOptimalFault : ModelParts → ℤ → Cert → CheckFault → Type 0
IsOptimalFault m cost cert fault =
    ((fault.line ≡ cert.goal_line) × IsPlanFault m cert.plan cost fault.kind)
    ⊎ (IsSolution m cert.plan × (cost_of m cert.plan ≡ cost) × IsTreeFault m cost cert.nodes cert.end_line fault)

-- the first fault of a certificate with this goal
abbrev pub IsFaultOf : ModelParts → Cert → CheckFault → Goal → Type 0
IsFaultOf m cert fault (goal.Optimal cost) = IsOptimalFault m cost cert fault
IsFaultOf m cert fault goal.Infeasible = IsTreeFault m (cost_above_all m) cert.nodes cert.end_line fault

abbrev pub IsFirstFault : ModelParts → Cert → CheckFault → Type 0
IsFirstFault m cert fault = IsFaultOf m cert fault cert.goal

-- the certificate is valid, and the trees of each of its lists are named in order
abbrev pub IsNamedNode : ModelParts → NodeForm → Type 0
IsNamedNode m (node.List p tries) = AreNamed m tries
IsNamedNode m form = Unit {0}

pub record IsAccepted (m : ModelParts) (cert : Cert) : Type 0 where
  pub valid : IsValid m (certificate_of m cert)
  pub named : All (λ (n : Node). IsNamedNode m n.form) cert.nodes

-- why a certificate is not accepted: its first fault, and it is not valid so; or want of memory, which says nothing
abbrev pub IsRefusal : ModelParts → Cert → CheckError → Type 0
IsRefusal m cert (Refused fault) = IsFirstFault m cert fault × ¬ (IsAccepted m cert)
IsRefusal m cert Memory = Unit {0}

-- a goal is supported: by a plan of the cost and a tree against it, or by a tree against more than all costs
abbrev pub IsSupportedBy : ModelParts → Cert → Goal → Type 0
IsSupportedBy m cert (goal.Optimal cost) = IsSolution m cert.plan × (cost_of m cert.plan ≡ cost) × IsTreeOf m cost cert.nodes
IsSupportedBy m cert goal.Infeasible = IsTreeOf m (cost_above_all m) cert.nodes

-- why it is not
abbrev pub IsGoalError : ModelParts → Cert → Goal → CheckError → Type 0
IsGoalError m cert g (Refused fault) = IsFaultOf m cert fault g
IsGoalError m cert g Memory = Unit {0}
