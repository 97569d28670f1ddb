-- What the parts of a certificate say in the words of the rules of proofs.
use Rattle.std.specs.Prelude.{◌≡◌, ℕ, ◌+◌, ◌==◌, ◌&&◌, if◌then◌else◌, ℤ, Option, None, Some, List, [], ◌∷◌, length, map, option_map}
use Rattle.std.specs.List.{range_with_len}
use Rattle.path_graph.specs.declared.set_bits.SetBits.{SetBits}
use Rattle.path_graph.specs.SetBits.{set_of}
use Rattle.path_graph.specs.Walk.{GraphParts}
use Rattle.route_model.specs.Parts.{ModelParts}
use Rattle.label_rules.specs.Leasts.{Form, Full, Both, Half}
use Rattle.label_rules.specs.Memories.{nothing}
use Rattle.label_rules.specs.declared.table.Form.{Form as TextForm}
use Rattle.label_rules.specs.declared.table.Form.TheVariants as text
use Rattle.label_rules.specs.declared.table.ProofTable.{ProofTable}
use Rattle.proof_rules.specs.PrefixTrees.{Step}
use Rattle.proof_rules.specs.Proofs.{Proof, Table, leasts_of}
use Rattle.proof_rules.specs.Nodes.{Node, SplitAt, Close, Fix, ListWalks, CountSplit, CountClose, Point}
use Rattle.proof_rules.specs.Validity.{Certificate, Claim, Optimal, Infeasible}
use Rattle.certificate.specs.declared.cert.Cert.{Cert}
use Rattle.certificate.specs.declared.cert.Goal.{Goal}
use Rattle.certificate.specs.declared.cert.Goal.TheVariants as goal
use Rattle.certificate.specs.declared.cert.Node.{Node as TextNode}
use Rattle.certificate.specs.declared.cert.NodeForm.{NodeForm}
use Rattle.certificate.specs.declared.cert.NodeForm.TheVariants as node
use Rattle.certificate.specs.declared.cert.Proof.{Proof as TextProof}
use Rattle.certificate.specs.declared.cert.Step.{Step as TextStep}
use Rattle.certificate.specs.declared.cert.Trie.{Trie}

-- the sets near a vertex of a graph: those of its line, and none without one
abbrev pub near_sets : List (ℕ × ℕ × SetBits) → ℕ → ℕ → SetBits
near_sets [] g v = set_of nothing
near_sets (line ∷ rest) g v = if (line.0 == g) && (line.1 == v) then line.2 else near_sets rest g v

abbrev pub near_in : List (ℕ × ℕ × SetBits) → ℕ → List GraphParts → List (List SetBits)
near_in lines g [] = []
near_in lines g (graph ∷ graphs) = map (near_sets lines g) (range_with_len 0 (length graph.vertices)) ∷ near_in lines (g + 1) graphs

abbrev pub near_lists : ModelParts → List (ℕ × ℕ × SetBits) → List (List SetBits)
near_lists m lines = near_in lines 0 m.graphs

-- the table of a graph
abbrev pub form_of : TextForm → Form
form_of text.Full = Full
form_of (text.Half t) = Half t
form_of text.Both = Both

abbrev pub table_of : ProofTable → Table
table_of t = record { form = form_of t.form; least = t.least; fore = t.fore; back = t.back }

-- a proof; the table of graph g is the g-th
abbrev pub proof_of : ModelParts → TextProof → Proof
proof_of m p = record { mult = p.mult; cuts = p.cuts; near = near_lists m p.near; tables = map table_of p.tables }

-- the steps of a prefix tree
abbrev pub step_of : TextStep → Step
step_of s = record { parent = s.parent; arc = s.arc }

abbrev pub steps_of : Trie → List Step
steps_of t = map step_of t.steps

-- a node
abbrev pub node_of : ModelParts → NodeForm → Node
node_of m (node.Split split None) = SplitAt split None
node_of m (node.Split split (Some p)) = SplitAt split (Some (proof_of m p))
node_of m (node.Close p) = Close (proof_of m p)
node_of m (node.Fix p arcs) = Fix (proof_of m p) arcs
node_of m (node.List p tries) = ListWalks (proof_of m p) (map steps_of tries)
node_of m (node.CountSplit i d) = CountSplit i d
node_of m (node.CountClose mult) = CountClose mult
node_of m node.Point = Point

abbrev pub nodes_of : ModelParts → List TextNode → List Node
nodes_of m nodes = map (λ (n : TextNode). node_of m n.form) nodes

-- the certificate
abbrev pub claim_of : Cert → Claim
claim_of cert = claim_by cert.goal
  where
    claim_by : Goal → Claim
    claim_by (goal.Optimal cost) = Optimal cost cert.plan
    claim_by goal.Infeasible = Infeasible

abbrev pub certificate_of : ModelParts → Cert → Certificate
certificate_of m cert = record { claim = claim_of cert; nodes = nodes_of m cert.nodes }

-- the leasts of a proof are those of its tables
abbrev pub LeastsAreTold : Type 0
LeastsAreTold = (m : ModelParts) (p : TextProof) → leasts_of (proof_of m p) ≡ map (λ (t : ProofTable). t.least) p.tables
