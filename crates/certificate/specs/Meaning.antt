-- The certificate that lines say.
use Rattle.std.specs.Prelude.{ℕ, ◌+◌, ◌-◌, ℤ, pos, List, [], ◌∷◌, length, map, fold, replicate, slice_index, slice_set, if◌then◌else◌, ◌==◌, None}
use Rattle.std.specs.List.{flat_map}
use Rattle.route_model.specs.declared.multipliers.Mult.{Mult}
use Rattle.certificate.specs.declared.cert.Cert.{Cert}
use Rattle.certificate.specs.declared.cert.Node.{Node}
use Rattle.certificate.specs.declared.cert.NodeForm.{NodeForm}
use Rattle.certificate.specs.declared.cert.NodeForm.TheVariants as node
use Rattle.certificate.specs.declared.cert.Proof.{Proof}
use Rattle.certificate.specs.declared.draft.DropLine.{DropLine}
use Rattle.certificate.specs.declared.draft.Head.{Head}
use Rattle.certificate.specs.declared.draft.Head.TheVariants as head
use Rattle.certificate.specs.declared.draft.MultKind.{MultKind}
use Rattle.certificate.specs.declared.draft.MultKind.TheVariants as kind
use Rattle.certificate.specs.declared.draft.MultLine.{MultLine}
use Rattle.certificate.specs.declared.draft.NodeDraft.{NodeDraft}
use Rattle.certificate.specs.declared.sizes.Sizes.{Sizes}
use Rattle.certificate.specs.ProofWords.{rank, kind_count}
use Rattle.certificate.specs.CertText.{Written}

-- the multipliers of a kind: 0 where no line names the number
abbrev pub set_by : MultKind → List ℤ → MultLine → List ℤ
set_by kind values m = if rank m.kind == rank kind then slice_set values m.number m.value else values

abbrev pub values_of : Sizes → MultKind → List MultLine → List ℤ
values_of s kind lines = fold (set_by kind) (replicate (kind_count s kind) (pos 0)) lines

abbrev pub mult_of : Sizes → NodeDraft → Mult
mult_of s n =
    record {
      vars = values_of s kind.Var n.mults;
      rows = values_of s kind.Row n.mults;
      sets = values_of s kind.Set n.mults;
      cuts = map (λ c. c.weight) n.cuts;
      paths = values_of s kind.Paths n.mults;
    }

abbrev pub proof_of : Sizes → NodeDraft → Proof
proof_of s n = record { mult = mult_of s n; cuts = map (λ c. c.cut) n.cuts; near = n.near; tables = n.tables }

-- the dropped arcs of a line, each with its graph
abbrev pub arcs_of : DropLine → List (ℕ × ℕ)
arcs_of d = map (λ arc. (d.graph, arc)) d.arcs

abbrev pub form_of : Sizes → NodeDraft → Head → NodeForm
form_of s n (head.Split split) = node.Split split None
form_of s n head.Close = node.Close (proof_of s n)
form_of s n head.Fix = node.Fix (proof_of s n) (flat_map arcs_of n.drops)
form_of s n head.List = node.List (proof_of s n) n.tries
form_of s n (head.CountSplit walk at) = node.CountSplit walk at
form_of s n head.CountClose = node.CountClose (mult_of s n)
form_of s n head.Point = node.Point

abbrev pub node_of : Sizes → NodeDraft → ℕ → Node
node_of s n number = record { line = number; form = form_of s n n.head }

-- the nodes, where the number of the first one's line stands at this place
abbrev pub nodes_from : Sizes → List NodeDraft → List ℕ → ℕ → List Node
nodes_from s [] lines k = []
nodes_from s (n ∷ nodes) lines k = node_of s n (slice_index lines k) ∷ nodes_from s nodes lines (k + 1)

-- the certificate, where these are the numbers of the lines of the claim, of each node and of the end
abbrev pub cert_of : Sizes → Written → List ℕ → Cert
cert_of s w lines =
    record {
      goal = w.goal;
      goal_line = slice_index lines 0;
      end_line = slice_index lines (length lines - 1);
      plan = w.plan;
      nodes = nodes_from s w.nodes lines 1;
    }
