-- Of the texts of a certificate exactly one has the printed form.
use Rattle.std.proofs.Common.{◌≡◌, ℕ, List, [], ◌∷◌, map, refl, ap, subst, sym, ◌∙◌}
use Rattle.std.specs.Prelude.{All}
use Rattle.std.proofs.lemmas.List.Elements.{All-nil, All-append, All-map}
use Rattle.route_model.specs.declared.multipliers.Mult.{Mult}
use Rattle.route_model.specs.Parts.{ModelParts}
use Rattle.line_text.specs.Words.{Words}
use Rattle.line_text.specs.Spelling.{in_printed_form, lines_with_words, text_of_lines, IsPrintedText}
use Rattle.line_text.proofs.TextLaws.{Pairwise, SpellsBy, printed_spells}
use Rattle.certificate.specs.declared.cert.Cert.{Cert}
use Rattle.certificate.specs.declared.cert.Node.{Node}
use Rattle.certificate.specs.declared.cert.NodeForm.{NodeForm}
use Rattle.certificate.specs.declared.cert.NodeForm.TheVariants as node
use Rattle.certificate.specs.declared.draft.MultKind.TheVariants as kind
use Rattle.certificate.specs.declared.sizes.Sizes.{Sizes}
use Rattle.certificate.specs.Sizes.{sizes_of, SizesFit}
use Rattle.certificate.specs.LineKinds.{Item, Version}
use Rattle.certificate.specs.CertText.{Written}
use Rattle.certificate.specs.Spelling.{line_numbers, SpellsCert}
use Rattle.certificate.specs.CertFits.{CertFits}
use Rattle.certificate.specs.CertPrint.{kind_lines, mult_lines, draft_of, written, cert_lines, cert_text}
use Rattle.certificate.specs.PrintedText.{SpellsAside, IsPrintedCertText, PrintedCertLaw, PrintedAgainLaw}
use Rattle.certificate.proofs.CertReads.{CertLine, cert_lines as cert_grammar_lines}
use Rattle.certificate.proofs.CertForms.{form, claim_part, proof_part, claim_forms, proof_forms, map_two}
use Rattle.certificate.proofs.CertLeads.{cert_items}
use Rattle.certificate.proofs.CertLaws.{SaysCert, cert_text as text_laws, spelled_by}
use Rattle.certificate.proofs.SizesLemmas.{sizes_fit}
use Rattle.certificate.proofs.MultLines.{each_line}
use Rattle.certificate.proofs.MultOrder.{IsSome}
use Rattle.certificate.proofs.DropRuns.{are_runs}
use Rattle.certificate.proofs.DraftFits.{IsLean}
use Rattle.certificate.proofs.CertPrinted.{written_fits, text_is, cert_text_spells, cert_text_printed, same_written, lean_written}
use Rattle.certificate.proofs.LeanLines.{NoZero, WholeRuns, lean_zeros, lean_runs, lines_lean}

-- the lines of a printed text are those of what it says
lines_are : (s : Sizes) → SizesFit s → (lines : List Words) (items : List Item) → Pairwise CertLine lines items → map (map in_printed_form) lines ≡ lines → lines ≡ map form items
lines_are s fit [] [] pairs stays = refl
lines_are s fit [] (i ∷ items) pairs stays = absurd pairs
lines_are s fit (words ∷ lines) [] pairs stays = absurd pairs
lines_are s fit (words ∷ lines) (i ∷ items) pairs stays =
    let here : map in_printed_form words ≡ words = cc in
    let rest : map (map in_printed_form) lines ≡ lines = cc in
    let first = (cert_grammar_lines s fit).only i words pairs.0 here in
    let others = lines_are s fit lines items pairs.1 rest in
    cc

item_lines : (s : Sizes) (w : Written) → map form (cert_items s w) ≡ cert_lines s w
item_lines s w = map_two form (claim_part w) (Version ∷ proof_part s w) (claim_forms w) (ap (λ ls. form Version ∷ ls) (proof_forms s w))

said_lines : (s : Sizes) → SizesFit s → (text : List ℕ) (w : Written) → IsPrintedText text → SpellsBy CertLine (SaysCert s) text w → lines_with_words text ≡ cert_lines s w
said_lines s fit text w printed spells =
    lines_are s fit (lines_with_words text) spells.items spells.words printed.numbers ∙ (ap (map form) spells.says.0 ∙ item_lines s w)

-- what is printed has no waste
lean_mults : (m : Mult) → All IsSome (mult_lines m)
lean_mults m =
    All-append IsSome (kind_lines kind.Var 0 m.vars) _ (each_line IsSome kind.Var 0 m.vars (λ n v some. some))
    (All-append IsSome (kind_lines kind.Row 0 m.rows) _ (each_line IsSome kind.Row 0 m.rows (λ n v some. some))
    (All-append IsSome (kind_lines kind.Set 0 m.sets) _ (each_line IsSome kind.Set 0 m.sets (λ n v some. some)) (each_line IsSome kind.Paths 0 m.paths (λ n v some. some))))

draft_lean : (f : NodeForm) → IsLean (draft_of f)
draft_lean (node.Split split proof) = record { mults = All-nil IsSome; drops = tt }
draft_lean (node.Close p) = record { mults = lean_mults p.mult; drops = tt }
draft_lean (node.Fix p drops) = record { mults = lean_mults p.mult; drops = are_runs drops }
draft_lean (node.List p tries) = record { mults = lean_mults p.mult; drops = tt }
draft_lean (node.CountSplit walk at) = record { mults = All-nil IsSome; drops = tt }
draft_lean (node.CountClose mult) = record { mults = lean_mults mult; drops = tt }
draft_lean node.Point = record { mults = All-nil IsSome; drops = tt }

written_lean : (c : Cert) → All IsLean (written c).nodes
written_lean c = All-map IsLean (λ (n : Node). draft_of n.form) c.nodes (λ k d below. draft_lean _)

printed_lines : (m : ModelParts) (c : Cert) → SizesFit (sizes_of m) → CertFits m c → lines_with_words (cert_text m c) ≡ cert_lines (sizes_of m) (written c)
printed_lines m c fit fits =
    let s : Sizes = sizes_of m in
    let text : List ℕ = text_of_lines (map form (cert_items s (written c))) in
    let printed = subst IsPrintedText (sym (text_is m c)) (cert_text_printed m c fit fits) in
    ap lines_with_words (sym (text_is m c))
    ∙ said_lines s fit text (written c) printed (printed_spells (text_laws s fit) (written c) (cert_items s (written c)) (refl, written_fits m c fits))

cert_text_form : (m : ModelParts) (c : Cert) → SizesFit (sizes_of m) → CertFits m c → IsPrintedCertText (cert_text m c)
cert_text_form m c fit fits =
    let s : Sizes = sizes_of m in
    let lines = printed_lines m c fit fits in
    record {
      form = cert_text_printed m c fit fits;
      no_zeros = subst (All NoZero) (sym lines) (lean_zeros s (written c) (written_fits m c fits) (written_lean c));
      whole_runs = subst WholeRuns (sym lines) (lean_runs s (written c) fit.graphs (written_fits m c fits) (written_lean c));
    }

-- a printed text says what is printed of its certificate
said_written : (m : ModelParts) (text : List ℕ) (c : Cert) → SizesFit (sizes_of m) → IsPrintedCertText text → (spells : SpellsCert m text c) → (lines_with_words text ≡ cert_lines (sizes_of m) spells.written) × (spells.written ≡ written c)
said_written m text c fit printed spells =
    let s : Sizes = sizes_of m in
    let w : Written = spells.written in
    let lines = said_lines s fit text w printed.form (spelled_by m text c spells) in
    let lean = lines_lean s w spells.fits (subst (All NoZero) lines printed.no_zeros) (subst WholeRuns lines printed.whole_runs) in
    (lines, sym (lean_written s w (line_numbers text) spells.fits lean) ∙ ap written (sym spells.is))

text_only : (m : ModelParts) (c : Cert) → SizesFit (sizes_of m) → (text : List ℕ) → IsPrintedCertText text → SpellsAside m text c → text ≡ cert_text m c
text_only m c fit text printed aside =
    let said = said_written m text aside.read fit printed aside.spells in
    printed.form.spaced ∙ ap text_of_lines (said.0 ∙ ap (cert_lines (sizes_of m)) (said.1 ∙ same_written aside.read c aside.same))

pub printed_cert_law : PrintedCertLaw
printed_cert_law m c is fits =
    let fit = sizes_fit m is.fits in
    record { printed = cert_text_form m c fit fits; spells = cert_text_spells m c fit fits; only = text_only m c fit }

pub printed_again_law : PrintedAgainLaw
printed_again_law m c d is fits spells =
    let fit = sizes_fit m is.fits in
    let printed = cert_text_form m c fit fits in
    let said = said_written m (cert_text m c) d fit printed spells in
    ap (λ w. text_of_lines (cert_lines (sizes_of m) w)) (sym said.1) ∙ (ap text_of_lines (sym said.0) ∙ sym printed.form.spaced)
