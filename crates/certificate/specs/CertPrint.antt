-- The printed text of a certificate.
use Rattle.std.specs.Prelude.{◌≡◌, ℕ, ◌+◌, ◌≤◌, ℤ, pos, List, [], ◌∷◌, ◌++◌, length, map, ◌==◌, if◌then◌else◌}
use Rattle.std.specs.List.{flat_map, zip}
use Rattle.std.specs.Ordering.{int_eq}
use Rattle.rank1_cuts.specs.declared.cut.Cut.{Cut}
use Rattle.route_model.specs.declared.multipliers.Mult.{Mult}
use Rattle.route_model.specs.Parts.{ModelParts}
use Rattle.line_text.specs.Words.{Words}
use Rattle.line_text.specs.Spelling.{line_of_words, text_of_lines}
use Rattle.certificate.specs.declared.cert.Cert.{Cert}
use Rattle.certificate.specs.declared.cert.NodeForm.{NodeForm}
use Rattle.certificate.specs.declared.cert.NodeForm.TheVariants as node
use Rattle.certificate.specs.declared.cert.Proof.{Proof}
use Rattle.certificate.specs.declared.draft.CutLine.{CutLine}
use Rattle.certificate.specs.declared.draft.DropLine.{DropLine}
use Rattle.certificate.specs.declared.draft.Head.{Head}
use Rattle.certificate.specs.declared.draft.Head.TheVariants as head
use Rattle.certificate.specs.declared.draft.MultKind.{MultKind}
use Rattle.certificate.specs.declared.draft.MultKind.TheVariants as kind
use Rattle.certificate.specs.declared.draft.MultLine.{MultLine}
use Rattle.certificate.specs.declared.draft.NodeDraft.{NodeDraft}
use Rattle.certificate.specs.declared.limits.TheConstants.{MAX_CUTS}
use Rattle.certificate.specs.declared.sizes.Sizes.{Sizes}
use Rattle.certificate.specs.Sizes.{sizes_of}
use Rattle.certificate.specs.Draft.{begun}
use Rattle.certificate.specs.ProofWords.{mult_words, cut_words, near_words, drop_words}
use Rattle.certificate.specs.CertText.{Written, table_lines, node_lines, claim_lines, version_words, proof_lines}

-- the multipliers of a kind from a number on; one that is 0 has no line
abbrev pub kind_lines : MultKind → ℕ → List ℤ → List MultLine
kind_lines kind k [] = []
kind_lines kind k (v ∷ values) =
    (if int_eq v (pos 0) then [] else record { kind = kind; number = k; value = v } ∷ []) ++ kind_lines kind (k + 1) values

-- those of variables, rows, packing sets and path counts
abbrev pub mult_lines : Mult → List MultLine
mult_lines m =
    kind_lines kind.Var 0 m.vars ++ (kind_lines kind.Row 0 m.rows ++ (kind_lines kind.Set 0 m.sets ++ kind_lines kind.Paths 0 m.paths))

-- each cut with its multiplier
abbrev pub cut_lines : List ℕ → List Cut → List CutLine
cut_lines weights cuts = map (λ p. record { weight = p.0; cut = p.1 }) (zip weights cuts)

-- further words of a line, each with a blank before it
abbrev pub further : Words → List ℕ
further words = flat_map (λ word. 32 ∷ word) words

-- the line of a cut with its multiplier
abbrev pub cut_line : ℕ → Cut → List ℕ
cut_line weight cut = line_of_words (cut_words (record { weight = weight; cut = cut }))

-- dropped arcs: one line for each run of arcs of one graph
abbrev pub drop_before : ℕ × ℕ → List DropLine → List DropLine
drop_before d [] = record { graph = d.0; arcs = d.1 ∷ [] } ∷ []
drop_before d (line ∷ lines) =
    if line.graph == d.0 then record { graph = d.0; arcs = d.1 ∷ line.arcs } ∷ lines
    else record { graph = d.0; arcs = d.1 ∷ [] } ∷ line ∷ lines

abbrev pub drop_lines : List (ℕ × ℕ) → List DropLine
drop_lines [] = []
drop_lines (d ∷ drops) = drop_before d (drop_lines drops)

abbrev pub drops_text : List (ℕ × ℕ) → List ℕ
drops_text drops = text_of_lines (map drop_words (drop_lines drops))

-- a dropped arc of this graph comes first
abbrev pub BeginsWith : ℕ → List (ℕ × ℕ) → Type 0
BeginsWith graph [] = ⊥
BeginsWith graph (d ∷ drops) = d.0 ≡ graph

-- the lines of a proof
abbrev pub proof_part : Sizes → Proof → List Words
proof_part s p =
    map mult_words (mult_lines p.mult) ++ (map cut_words (cut_lines p.mult.cuts p.cuts)
    ++ (map near_words p.near ++ flat_map (table_lines s (length p.cuts)) p.tables))

-- at most MAX_CUTS cuts, each with a multiplier
abbrev pub HasWeights : Proof → Type 0
HasWeights p = (length p.mult.cuts ≡ length p.cuts) × (length p.cuts ≤ MAX_CUTS)

abbrev pub ProofHasWeights : NodeForm → Type 0
ProofHasWeights (node.Close p) = HasWeights p
ProofHasWeights (node.Fix p drops) = HasWeights p
ProofHasWeights (node.List p tries) = HasWeights p
ProofHasWeights form = Unit {0}

-- what the lines of a node say; the proof of a split has none
abbrev pub with_proof : Head → Proof → NodeDraft
with_proof h p =
    record (begun h) { mults = mult_lines p.mult; cuts = cut_lines p.mult.cuts p.cuts; near = p.near; tables = p.tables }

abbrev pub draft_of : NodeForm → NodeDraft
draft_of (node.Split split proof) = begun (head.Split split)
draft_of (node.Close p) = with_proof head.Close p
draft_of (node.Fix p drops) = record (with_proof head.Fix p) { drops = drop_lines drops }
draft_of (node.List p tries) = record (with_proof head.List p) { tries = tries }
draft_of (node.CountSplit walk at) = begun (head.CountSplit walk at)
draft_of (node.CountClose mult) = record (begun head.CountClose) { mults = mult_lines mult }
draft_of node.Point = begun head.Point

-- the text of a node
abbrev pub node_text : Sizes → NodeForm → List ℕ
node_text s form = text_of_lines (node_lines s (draft_of form))

-- what the lines of a certificate say
abbrev pub written : Cert → Written
written c = record { goal = c.goal; plan = c.plan; nodes = map (λ n. draft_of n.form) c.nodes }

-- all lines of a certificate
abbrev pub cert_lines : Sizes → Written → List Words
cert_lines s w = claim_lines w ++ version_words ∷ proof_lines s w

abbrev pub cert_text : ModelParts → Cert → List ℕ
cert_text m c = text_of_lines (cert_lines (sizes_of m) (written c))
