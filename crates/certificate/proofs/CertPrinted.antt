-- A certificate and what its lines say; the printed text of a certificate spells it.
use Rattle.std.proofs.Common.{◌≡◌, ℕ, suc, ◌+◌, List, [], ◌∷◌, length, map, refl, ap, subst, sym, ◌∙◌, arith, slice_index}
use Rattle.std.specs.Prelude.{All}
use Rattle.std.proofs.lemmas.List.{length-map}
use Rattle.std.proofs.lemmas.List.Elements.{All-nil, All-cons, All-head, All-tail, All-map}
use Rattle.route_model.specs.Parts.{ModelParts}
use Rattle.line_text.specs.Spelling.{text_of_lines, IsPrintedText}
use Rattle.line_text.proofs.TextLaws.{printed_spells, printed_is_printed}
use Rattle.certificate.specs.declared.cert.Cert.{Cert}
use Rattle.certificate.specs.declared.cert.Node.{Node}
use Rattle.certificate.specs.declared.cert.NodeForm.{NodeForm}
use Rattle.certificate.specs.declared.cert.NodeForm.TheVariants as node
use Rattle.certificate.specs.declared.draft.NodeDraft.{NodeDraft}
use Rattle.certificate.specs.declared.sizes.Sizes.{Sizes}
use Rattle.certificate.specs.Sizes.{sizes_of, SizesFit}
use Rattle.certificate.specs.LineKinds.{Version}
use Rattle.certificate.specs.Meaning.{node_of, nodes_from, cert_of}
use Rattle.certificate.specs.CertText.{Written, NodeFits, WrittenFits}
use Rattle.certificate.specs.Spelling.{line_numbers, SpellsCert}
use Rattle.certificate.specs.CertFits.{NodeIsTold, CertFits}
use Rattle.certificate.specs.CertPrint.{draft_of, written, cert_text}
use Rattle.certificate.specs.PrintedText.{told_form, IsSameAside, SpellsAside}
use Rattle.certificate.proofs.CertForms.{form, claim_part, proof_part, claim_forms, proof_forms, map_two}
use Rattle.certificate.proofs.CertLeads.{cert_items}
use Rattle.certificate.proofs.CertLaws.{cert_text as text_laws, spelled}
use Rattle.certificate.proofs.DraftFits.{draft_fits, form_back, form_told, IsLean, lean_same}

-- What lines say fits, where the lines do.
nodes_told : (m : ModelParts) (drafts : List NodeDraft) (lines : List ℕ) (k : ℕ) → All (NodeFits (sizes_of m)) drafts → All (λ (n : Node). NodeIsTold m n.form) (nodes_from (sizes_of m) drafts lines k)
nodes_told m [] lines k all = All-nil (λ (n : Node). NodeIsTold m n.form)
nodes_told m (d ∷ drafts) lines k all =
    All-cons (λ (n : Node). NodeIsTold m n.form) (node_of (sizes_of m) d (slice_index lines k)) (nodes_from (sizes_of m) drafts lines (k + 1))
    (form_told m d d.head refl (All-head (NodeFits (sizes_of m)) d drafts all)) (nodes_told m drafts lines (k + 1) (All-tail (NodeFits (sizes_of m)) d drafts all))

node_count : (s : Sizes) (drafts : List NodeDraft) (lines : List ℕ) (k : ℕ) → length (nodes_from s drafts lines k) ≡ length drafts
node_count s [] lines k = refl
node_count s (d ∷ drafts) lines k = ap suc (node_count s drafts lines (k + 1))

pub said_cert_fits : (m : ModelParts) (w : Written) (lines : List ℕ) → WrittenFits (sizes_of m) w → CertFits m (cert_of (sizes_of m) w lines)
said_cert_fits m w lines fits =
    let few = fits.few in
    let count = node_count (sizes_of m) w.nodes lines 1 in
    record { goal = fits.goal; plan = fits.plan; few = omega (arith, few, count); each = nodes_told m w.nodes lines 1 fits.each }

pub spelled_cert_fits : (m : ModelParts) (text : List ℕ) (c : Cert) → SpellsCert m text c → CertFits m c
spelled_cert_fits m text c s = subst (CertFits m) (sym s.is) (said_cert_fits m s.written (line_numbers text) s.fits)

-- The lines of a certificate that fits fit, and say it.
pub written_fits : (m : ModelParts) (c : Cert) → CertFits m c → WrittenFits (sizes_of m) (written c)
written_fits m c fits =
    let few = fits.few in
    let count : length (map (λ (n : Node). draft_of n.form) c.nodes) ≡ length c.nodes = length-map c.nodes (λ n. draft_of n.form) in
    record {
      goal = fits.goal;
      plan = fits.plan;
      few = omega (arith, few, count);
      each = All-map (NodeFits (sizes_of m)) (λ (n : Node). draft_of n.form) c.nodes (λ k d below. draft_fits m _ (fits.each k d below));
    }

told_twice : (f : NodeForm) → told_form (told_form f) ≡ told_form f
told_twice (node.Split split proof) = refl
told_twice (node.Close p) = refl
told_twice (node.Fix p drops) = refl
told_twice (node.List p tries) = refl
told_twice (node.CountSplit walk at) = refl
told_twice (node.CountClose mult) = refl
told_twice node.Point = refl

nodes_back : (m : ModelParts) (nodes : List Node) (lines : List ℕ) (k : ℕ) → All (λ (n : Node). NodeIsTold m n.form) nodes → map (λ (n : Node). told_form n.form) (nodes_from (sizes_of m) (map (λ (n : Node). draft_of n.form) nodes) lines k) ≡ map (λ (n : Node). told_form n.form) nodes
nodes_back m [] lines k all = refl
nodes_back m (n ∷ nodes) lines k all =
    let here = ap told_form (form_back m n.form (All-head (λ (n : Node). NodeIsTold m n.form) n nodes all)) ∙ told_twice n.form in
    let rest = nodes_back m nodes lines (k + 1) (All-tail (λ (n : Node). NodeIsTold m n.form) n nodes all) in
    λ i. here i ∷ rest i

pub said_again : (m : ModelParts) (c : Cert) (lines : List ℕ) → CertFits m c → IsSameAside (cert_of (sizes_of m) (written c) lines) c
said_again m c lines fits = record { goal = refl; plan = refl; nodes = nodes_back m c.nodes lines 1 fits.each }

-- The printed text spells it.
pub text_is : (m : ModelParts) (c : Cert) → text_of_lines (map form (cert_items (sizes_of m) (written c))) ≡ cert_text m c
text_is m c =
    ap text_of_lines (map_two form (claim_part (written c)) (Version ∷ proof_part (sizes_of m) (written c)) (claim_forms (written c)) (ap (λ ls. form Version ∷ ls) (proof_forms (sizes_of m) (written c))))

pub cert_text_spells : (m : ModelParts) (c : Cert) → SizesFit (sizes_of m) → CertFits m c → SpellsAside m (cert_text m c) c
cert_text_spells m c sizes fits =
    let s : Sizes = sizes_of m in
    let text : List ℕ = text_of_lines (map form (cert_items s (written c))) in
    subst (λ t. SpellsAside m t c) (text_is m c)
    (record {
      read = cert_of s (written c) (line_numbers text);
      spells = spelled m text (written c) (printed_spells (text_laws s sizes) (written c) (cert_items s (written c)) (refl, written_fits m c fits));
      same = said_again m c (line_numbers text) fits;
    })

pub cert_text_printed : (m : ModelParts) (c : Cert) → SizesFit (sizes_of m) → CertFits m c → IsPrintedText (cert_text m c)
cert_text_printed m c sizes fits =
    let s : Sizes = sizes_of m in
    subst IsPrintedText (text_is m c) (printed_is_printed (text_laws s sizes) (written c) (cert_items s (written c)) (refl, written_fits m c fits))

-- What is printed rests on what a text tells alone.
told_draft : (f : NodeForm) → draft_of (told_form f) ≡ draft_of f
told_draft (node.Split split proof) = refl
told_draft (node.Close p) = refl
told_draft (node.Fix p drops) = refl
told_draft (node.List p tries) = refl
told_draft (node.CountSplit walk at) = refl
told_draft (node.CountClose mult) = refl
told_draft node.Point = refl

told_drafts : (nodes : List Node) → map draft_of (map (λ (n : Node). told_form n.form) nodes) ≡ map (λ (n : Node). draft_of n.form) nodes
told_drafts [] = refl
told_drafts (n ∷ nodes) = let here = told_draft n.form in let rest = told_drafts nodes in λ i. here i ∷ rest i

pub same_written : (c d : Cert) → IsSameAside c d → written c ≡ written d
same_written c d same =
    let goal = same.goal in
    let plan = same.plan in
    let nodes = sym (told_drafts c.nodes) ∙ (ap (map draft_of) same.nodes ∙ told_drafts d.nodes) in
    λ i. record { goal = goal i; plan = plan i; nodes = nodes i }

-- lines without waste are those of the certificate that they say
lean_nodes : (s : Sizes) (drafts : List NodeDraft) (lines : List ℕ) (k : ℕ) → All (NodeFits s) drafts → All IsLean drafts → map (λ (n : Node). draft_of n.form) (nodes_from s drafts lines k) ≡ drafts
lean_nodes s [] lines k all lean = refl
lean_nodes s (d ∷ drafts) lines k all lean =
    let here = lean_same s d d.head refl (All-head (NodeFits s) d drafts all) (All-head IsLean d drafts lean) in
    let rest = lean_nodes s drafts lines (k + 1) (All-tail (NodeFits s) d drafts all) (All-tail IsLean d drafts lean) in
    λ i. here i ∷ rest i

pub lean_written : (s : Sizes) (w : Written) (lines : List ℕ) → WrittenFits s w → All IsLean w.nodes → written (cert_of s w lines) ≡ w
lean_written s w lines fits lean = let nodes = lean_nodes s w.nodes lines 1 fits.each lean in λ i. record { goal = w.goal; plan = w.plan; nodes = nodes i }
