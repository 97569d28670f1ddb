-- Texts of certificates in printed form, and what a text tells of a certificate.
use Rattle.std.specs.Prelude.{◌≡◌, ℕ, List, [], ◌∷◌, map, codes, All, None}
use Rattle.route_model.specs.Parts.{ModelParts}
use Rattle.route_model.specs.Fit.{IsModel}
use Rattle.line_text.specs.Words.{Words}
use Rattle.line_text.specs.Spelling.{lines_with_words, IsPrintedText}
use Rattle.certificate.specs.declared.cert.Cert.{Cert}
use Rattle.certificate.specs.declared.cert.NodeForm.{NodeForm}
use Rattle.certificate.specs.declared.cert.NodeForm.TheVariants as node
use Rattle.certificate.specs.Spelling.{SpellsCert}
use Rattle.certificate.specs.CertFits.{CertFits}
use Rattle.certificate.specs.CertPrint.{cert_text}

-- what a text tells of a node: not the proof of a split
abbrev pub told_form : NodeForm → NodeForm
told_form (node.Split split proof) = node.Split split None
told_form form = form

-- two certificates are the same, line numbers and proofs of splits aside
pub record IsSameAside (c d : Cert) : Type 0 where
  pub goal : c.goal ≡ d.goal
  pub plan : c.plan ≡ d.plan
  pub nodes : map (λ n. told_form n.form) c.nodes ≡ map (λ n. told_form n.form) d.nodes

-- a text is a valid text of a certificate, line numbers and proofs of splits aside
pub record SpellsAside (m : ModelParts) (text : List ℕ) (c : Cert) : Type 0 where
  pub read : Cert
  pub spells : SpellsCert m text read
  pub same : IsSameAside read c

-- a line of a multiplier of 0, and two lines of dropped arcs of one graph
abbrev pub IsZeroMult : Words → Type 0
IsZeroMult words = (kind : List ℕ) × (number : List ℕ) × (words ≡ codes "mult" ∷ kind ∷ number ∷ codes "0" ∷ [])

abbrev pub AreOneRun : Words → Words → Type 0
AreOneRun u v = (graph : List ℕ) × (a : Words) × (b : Words) × (u ≡ codes "drop" ∷ graph ∷ a) × (v ≡ codes "drop" ∷ graph ∷ b)

-- a line and the first of these lines stand so; no two lines in a row do
abbrev pub MeetsFirst : (Words → Words → Type 0) → Words → List Words → Type 0
MeetsFirst Stand u [] = ⊥
MeetsFirst Stand u (v ∷ lines) = Stand u v

abbrev pub NoneInARow : (Words → Words → Type 0) → List Words → Type 0
NoneInARow Stand [] = Unit {0}
NoneInARow Stand (u ∷ lines) = (¬ (MeetsFirst Stand u lines)) × NoneInARow Stand lines

-- a text of a certificate in printed form: no multiplier of 0 has a line, and each run of dropped arcs of one graph has one line
pub record IsPrintedCertText (text : List ℕ) : Type 0 where
  pub form : IsPrintedText text
  pub no_zeros : All (λ words. ¬ (IsZeroMult words)) (lines_with_words text)
  pub whole_runs : NoneInARow AreOneRun (lines_with_words text)

-- of the texts of a certificate exactly one has the printed form: its printed text
pub record HasOnePrintedText (m : ModelParts) (c : Cert) : Type 0 where
  pub printed : IsPrintedCertText (cert_text m c)
  pub spells : SpellsAside m (cert_text m c) c
  pub only : (text : List ℕ) → IsPrintedCertText text → SpellsAside m text c → text ≡ cert_text m c

abbrev pub PrintedCertLaw : Type 0
PrintedCertLaw = (m : ModelParts) (c : Cert) → IsModel m → CertFits m c → HasOnePrintedText m c

-- the certificate that a printed text spells is printed as that text again
abbrev pub PrintedAgainLaw : Type 0
PrintedAgainLaw =
    (m : ModelParts) (c d : Cert) → IsModel m → CertFits m c → SpellsCert m (cert_text m c) d → cert_text m d ≡ cert_text m c
