-- What the lines of a certificate say so far, and with one more line.
use Rattle.std.specs.Prelude.{ℕ, ◌-◌, List, [], ◌∷◌, ◌++◌, length, Bool, true, false, ◌&&◌, slice_index_or, slice_set, None}
use Rattle.route_model.specs.Parts.{plan_with}
use Rattle.label_rules.specs.declared.label.Label.{Label}
use Rattle.label_rules.specs.declared.table.Form.{Form}
use Rattle.label_rules.specs.declared.table.Form.TheVariants as form
use Rattle.label_rules.specs.declared.table.ProofTable.{ProofTable}
use Rattle.line_text.specs.Words.{is_none}
use Rattle.certificate.specs.declared.cert.Step.{Step}
use Rattle.certificate.specs.declared.cert.Trie.{Trie}
use Rattle.certificate.specs.declared.draft.Head.{Head}
use Rattle.certificate.specs.declared.draft.Head.TheVariants as head
use Rattle.certificate.specs.declared.draft.NodeDraft.{NodeDraft}
use Rattle.certificate.specs.declared.draft.CertDraft.{CertDraft}
use Rattle.certificate.specs.declared.sizes.Sizes.{Sizes}
use Rattle.certificate.specs.Sizes.{graph_at}
use Rattle.certificate.specs.LabelWords.{Shape}

abbrev pub empty_draft : CertDraft
empty_draft =
    record { goal = None; opened = false; ended = false; plan = plan_with []; nodes = []; lines = [] }

-- a node of which the first line alone is read
abbrev pub begun : Head → NodeDraft
begun head = record { head = head; mults = []; cuts = []; near = []; tables = []; drops = []; tries = [] }

-- the last of a list, or another thing where there is none; and the list with another last
abbrev pub last_or : {A : Type 0} → A → List A → A
last_or other xs = slice_index_or xs (length xs - 1) other

abbrev pub with_last : {A : Type 0} → List A → A → List A
with_last xs x = slice_set xs (length xs - 1) x

-- the node, the table and the prefix tree whose lines are read; a point has no lines but its first
abbrev pub open_node : CertDraft → NodeDraft
open_node d = last_or (begun head.Point) d.nodes

abbrev pub open_table : NodeDraft → ProofTable
open_table n = last_or (record { graph = 0; form = form.Full; least = None; fore = []; back = [] }) n.tables

abbrev pub open_trie : NodeDraft → Trie
open_trie n = last_or (record { graph = 0; steps = [] }) n.tries

abbrev pub with_node : CertDraft → NodeDraft → CertDraft
with_node d n = record d { nodes = with_last d.nodes n }

abbrev pub with_table : NodeDraft → ProofTable → NodeDraft
with_table n t = record n { tables = with_last n.tables t }

abbrev pub with_fore : ProofTable → Label → ProofTable
with_fore t l = record t { fore = t.fore ++ l ∷ [] }

abbrev pub with_back : ProofTable → Label → ProofTable
with_back t l = record t { back = t.back ++ l ∷ [] }

abbrev pub with_step : NodeDraft → Step → NodeDraft
with_step n p = record n { tries = with_last n.tries (record (open_trie n) { steps = (open_trie n).steps ++ p ∷ [] }) }

-- the forms of nodes that have a proof, and those that have multipliers
abbrev pub has_proof : Head → Bool
has_proof head.Close = true
has_proof head.Fix = true
has_proof head.List = true
has_proof h = false

abbrev pub has_mults : Head → Bool
has_mults head.CountClose = true
has_mults h = has_proof h

abbrev pub is_fix : Head → Bool
is_fix head.Fix = true
is_fix h = false

abbrev pub is_list : Head → Bool
is_list head.List = true
is_list h = false

-- which table has backward labels
abbrev pub has_back : Form → Bool
has_back form.Full = false
has_back f = true

-- The lines of a node stand in this order: multipliers, cuts, near lists, tables, then dropped arcs or prefix trees. So one of each
-- may stand where no later one was read.
abbrev pub tables_go_on : NodeDraft → Bool
tables_go_on n = is_none n.drops && is_none n.tries

abbrev pub near_goes_on : NodeDraft → Bool
near_goes_on n = is_none n.tables && tables_go_on n

abbrev pub cuts_go_on : NodeDraft → Bool
cuts_go_on n = is_none n.near && near_goes_on n

abbrev pub mults_go_on : NodeDraft → Bool
mults_go_on n = is_none n.cuts && cuts_go_on n

-- what the label lines of a table show, and those of the last table
abbrev pub shape_of : Sizes → ℕ → ProofTable → Shape
shape_of s cuts t =
    record { vertices = (graph_at s t.graph).vertices; ends = (graph_at s t.graph).ends; sets = s.sets; cuts = cuts }

abbrev pub shape_in : Sizes → NodeDraft → Shape
shape_in s n = shape_of s (length n.cuts) (open_table n)
