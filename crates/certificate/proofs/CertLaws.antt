-- The laws of the texts of certificates: a text that is read spells what is read, and the other way round.
use Rattle.std.proofs.Common.{◌≡◌, ℕ, true, List, [], ◌∷◌, ◌++◌, refl, ap, subst, sym, ◌∙◌, Option, None, Some, Ok, Err}
use Rattle.std.specs.Prelude.{is_some}
use Rattle.route_model.specs.Parts.{ModelParts}
use Rattle.vrp_lex.specs.Text.{lines_of}
use Rattle.line_text.specs.declared.fault.TextFault.{TextFault}
use Rattle.line_text.specs.declared.fault.ReadError.{ReadError}
use Rattle.line_text.specs.declared.fault.ReadError.TheVariants as read
use Rattle.line_text.specs.Gives.{FailsText}
use Rattle.line_text.specs.Words.{Words}
use Rattle.line_text.specs.Spelling.{lines_with_words}
use Rattle.line_text.specs.Reading.{lines_read}
use Rattle.line_text.proofs.TextLaws.{Pairwise, IsText, SpellsBy, Runs, Leads, runs_said, reads_spelled, reads_one, fault_spells_nothing, after_lines}
use Rattle.certificate.specs.declared.cert.Cert.{Cert}
use Rattle.certificate.specs.declared.cert.Goal.{Goal}
use Rattle.certificate.specs.declared.draft.CertDraft.{CertDraft}
use Rattle.certificate.specs.declared.sizes.Sizes.{Sizes}
use Rattle.certificate.specs.Sizes.{sizes_of, SizesFit}
use Rattle.certificate.specs.LineKinds.{Item, Version}
use Rattle.certificate.specs.CertText.{Written, version_words, WrittenFits}
use Rattle.certificate.specs.Meaning.{cert_of}
use Rattle.certificate.specs.Reading.{cert_grammar, cert_reading, cert_read, written_of}
use Rattle.certificate.specs.Spelling.{line_numbers, SpellsCert, SpellsNoCert, IsCertRefusal}
use Rattle.certificate.proofs.CertReads.{CertLine, CertMay, cert_lines}
use Rattle.certificate.proofs.CertForms.{form, claim_part, proof_part, claim_forms, proof_forms, plain_claim, plain_proof, lines_form, form_lines, pairs_cut, pairs_two}
use Rattle.certificate.proofs.CertSteps.{told_items, cert_steps}
use Rattle.certificate.proofs.CertLeads.{cert_items, leads}
use Rattle.certificate.proofs.LineNumbers.{lines_numbers}

abbrev pub SaysCert : Sizes → Written → List Item → Type 0
SaysCert s w items = (items ≡ cert_items s w) × WrittenFits s w

some_goal : (g : Option Goal) → is_some g ≡ true → (h : Goal) × (g ≡ Some h)
some_goal None is = cc
some_goal (Some h) is = (h, refl)

whole_items : (s : Sizes) (e : CertDraft) (g : Goal) → e.goal ≡ Some g → e.opened ≡ true → e.ended ≡ true → told_items s e ≡ cert_items s (written_of e)
whole_items s e g is opened ended = rw (is, opened, ended) refl

says : (s : Sizes) (items : List Item) (e : CertDraft) → Runs (cert_grammar s) (CertMay s) (cert_grammar s).empty items e → e.ended ≡ true → SaysCert s (written_of e) items
says s items e runs ended =
    let said = runs_said (cert_steps s) items e runs in
    let fits = said.1 in
    let opened = fits.closed ended in
    let g = some_goal e.goal (fits.some_goal opened) in
    let is = g.1 in
    (said.0 ∙ whole_items s e g.0 is opened ended, record { goal = fits.goal; plan = fits.plan; few = fits.few; each = fits.each })

pub cert_text : (s : Sizes) → SizesFit s → IsText (cert_grammar s) (λ _. Unit {0}) CertLine form (CertMay s) written_of (SaysCert s)
cert_text s fit =
    record {
      grammar = cert_lines s fit;
      runs = says s;
      leads = λ w items is. subst (λ is. Leads (cert_grammar s) (CertMay s) (cert_grammar s).empty is (λ e. (e.ended ≡ true) × (written_of e ≡ w))) (sym is.0) (leads s w is.1);
    }

-- the lines of a certificate, in its three parts
items_are : (s : Sizes) (w : Written) → cert_items s w ≡ claim_part w ++ (Version ∷ proof_part s w)
items_are s w = refl

record Parts (s : Sizes) (lines : List Words) (w : Written) : Type 0 where
  pub claim : List Words
  pub proof : List Words
  pub is : lines ≡ claim ++ version_words ∷ proof
  pub first : Pairwise CertLine claim (claim_part w)
  pub second : Pairwise CertLine proof (proof_part s w)

parts_of : (s : Sizes) (lines : List Words) (w : Written) → Pairwise CertLine lines (cert_items s w) → Parts s lines w
parts_of s lines w pairs =
    let cut = pairs_cut CertLine lines (claim_part w) (Version ∷ proof_part s w) pairs in
    behind cut.back cut.second (λ proof same second. record { claim = cut.front; proof = proof; is = cut.is ∙ ap (λ ls. cut.front ++ ls) same; first = cut.first; second = second })
  where
    behind : (back : List Words) → Pairwise CertLine back (Version ∷ proof_part s w) → ((proof : List Words) → back ≡ version_words ∷ proof → Pairwise CertLine proof (proof_part s w) → Parts s lines w) → Parts s lines w
    behind [] second make = absurd second
    behind (v ∷ proof) second make = make proof (ap (λ l. l ∷ proof) second.0) second.1

pub spelled : (m : ModelParts) (text : List ℕ) (w : Written) → SpellsBy CertLine (SaysCert (sizes_of m)) text w → SpellsCert m text (cert_of (sizes_of m) w (line_numbers text))
spelled m text w s =
    let parts = parts_of (sizes_of m) (lines_with_words text) w (subst (Pairwise CertLine (lines_with_words text)) s.says.0 s.words) in
    record {
      written = w;
      accepted = s.accepted;
      claim = parts.claim;
      proof = parts.proof;
      lines = parts.is;
      claim_words = lines_form parts.claim (claim_part w) (plain_claim w) parts.first ∙ claim_forms w;
      proof_words = lines_form parts.proof (proof_part (sizes_of m) w) (plain_proof (sizes_of m) w) parts.second ∙ proof_forms (sizes_of m) w;
      fits = s.says.1;
      is = refl;
    }

pub spelled_by : (m : ModelParts) (text : List ℕ) (cert : Cert) → (s : SpellsCert m text cert) → SpellsBy CertLine (SaysCert (sizes_of m)) text s.written
spelled_by m text cert s =
    record {
      accepted = s.accepted;
      items = cert_items (sizes_of m) s.written;
      words = subst (λ lines. Pairwise CertLine lines (cert_items (sizes_of m) s.written)) (sym s.lines)
          (pairs_two CertLine s.claim (version_words ∷ s.proof) (claim_part s.written) (Version ∷ proof_part (sizes_of m) s.written)
          (form_lines s.claim (claim_part s.written) (plain_claim s.written) (s.claim_words ∙ sym (claim_forms s.written)))
          (refl, form_lines s.proof (proof_part (sizes_of m) s.written) (plain_proof (sizes_of m) s.written) (s.proof_words ∙ sym (proof_forms (sizes_of m) s.written))));
      says = (refl, s.fits);
    }

-- the numbers of the lines of what is read
read_numbers : (s : Sizes) → SizesFit s → (text : List ℕ) (d : CertDraft) → cert_read s text ≡ Ok d → d.lines ≡ line_numbers text
read_numbers s fit text d h =
    lines_numbers s fit (cert_grammar s).empty d 1 (lines_of text) (after_lines (cert_grammar s) text d (lines_read (cert_reading s) (cert_grammar s).empty 1 (lines_of text)) h).0

abbrev pub cert_read_as : Sizes → CertDraft → Cert
cert_read_as s d = cert_of s (written_of d) d.lines

pub cert_reads_spelled : (m : ModelParts) → SizesFit (sizes_of m) → (text : List ℕ) (d : CertDraft) → cert_read (sizes_of m) text ≡ Ok d → SpellsCert m text (cert_read_as (sizes_of m) d)
cert_reads_spelled m fit text d h =
    subst (λ lines. SpellsCert m text (cert_of (sizes_of m) (written_of d) lines)) (sym (read_numbers (sizes_of m) fit text d h))
    (spelled m text (written_of d) (reads_spelled (cert_text (sizes_of m) fit) text d h))

pub spelled_cert_is_read : (m : ModelParts) → SizesFit (sizes_of m) → (text : List ℕ) (d : CertDraft) (cert : Cert) → cert_read (sizes_of m) text ≡ Ok d → SpellsCert m text cert → cert ≡ cert_read_as (sizes_of m) d
spelled_cert_is_read m fit text d cert h s =
    s.is ∙ (ap (λ w. cert_of (sizes_of m) w (line_numbers text)) (reads_one (cert_text (sizes_of m) fit) text d s.written h (spelled_by m text cert s))
    ∙ ap (cert_of (sizes_of m) (written_of d)) (sym (read_numbers (sizes_of m) fit text d h)))

pub fault_spells_no_cert : (m : ModelParts) → SizesFit (sizes_of m) → (text : List ℕ) (fault : TextFault) → cert_read (sizes_of m) text ≡ Err fault → SpellsNoCert m text
fault_spells_no_cert m fit text fault h cert s = fault_spells_nothing (cert_text (sizes_of m) fit) text fault s.written h (spelled_by m text cert s)

pub cert_refused : (m : ModelParts) → SizesFit (sizes_of m) → (text : List ℕ) (e : ReadError) → FailsText e (cert_read (sizes_of m) text) → IsCertRefusal m text e
cert_refused m fit text read.Memory h = tt
cert_refused m fit text (read.Text fault) h = (h, fault_spells_no_cert m fit text fault h)
