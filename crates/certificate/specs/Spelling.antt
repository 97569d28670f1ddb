-- Which texts spell which certificate of a model.
use Rattle.std.specs.Prelude.{◌≡◌, ℕ, ◌+◌, List, [], ◌∷◌, ◌++◌, map, All, Bool, false, if◌then◌else◌}
use Rattle.std.specs.List.{list_any}
use Rattle.route_model.specs.Parts.{ModelParts}
use Rattle.vrp_lex.specs.Text.{lines_of, words_of, has_bad_byte}
use Rattle.line_text.specs.declared.fault.ReadError.{ReadError}
use Rattle.line_text.specs.declared.fault.ReadError.TheVariants as read
use Rattle.line_text.specs.Words.{Words}
use Rattle.line_text.specs.Spelling.{in_printed_form, lines_with_words}
use Rattle.certificate.specs.declared.cert.Cert.{Cert}
use Rattle.certificate.specs.declared.line_kind.LineKind.{LineKind}
use Rattle.certificate.specs.declared.line_kind.LineKind.TheVariants as line
use Rattle.certificate.specs.Sizes.{sizes_of}
use Rattle.certificate.specs.LineKinds.{name_of}
use Rattle.certificate.specs.CertText.{Written, claim_lines, version_words, proof_lines, WrittenFits}
use Rattle.certificate.specs.Meaning.{cert_of}
use Rattle.certificate.specs.Reading.{begins_with, IsFirstCertFault}

-- the claim, the nodes and the end keep the numbers of their lines
abbrev pub numbered : List LineKind
numbered =
    line.Optimal ∷ line.Infeasible ∷ line.Split ∷ line.Close ∷ line.Fix ∷ line.List ∷ line.CountSplit ∷ line.CountClose
    ∷ line.Point ∷ line.End ∷ []

abbrev pub is_numbered : Words → Bool
is_numbered words = list_any (λ kind. begins_with (name_of kind) words) numbered

-- the numbers of these lines, where the first has this number
abbrev pub numbers_from : ℕ → List (List ℕ) → List ℕ
numbers_from n [] = []
numbers_from n (line ∷ lines) =
    if is_numbered (words_of line) then n ∷ numbers_from (n + 1) lines else numbers_from (n + 1) lines

abbrev pub line_numbers : List ℕ → List ℕ
line_numbers text = numbers_from 1 (lines_of text)

-- A text spells a certificate of a model: its bytes are accepted; its words are those of the lines that say the certificate, but for
-- the form of the numbers, and the line of the version is written in one way only; all limits are kept.
pub record SpellsCert (m : ModelParts) (text : List ℕ) (cert : Cert) : Type 0 where
  pub written : Written
  pub accepted : All (λ line. has_bad_byte line ≡ false) (lines_of text)
  pub claim : List Words
  pub proof : List Words
  pub lines : lines_with_words text ≡ claim ++ version_words ∷ proof
  pub claim_words : map (map in_printed_form) claim ≡ claim_lines written
  pub proof_words : map (map in_printed_form) proof ≡ proof_lines (sizes_of m) written
  pub fits : WrittenFits (sizes_of m) written
  pub is : cert ≡ cert_of (sizes_of m) written (line_numbers text)

abbrev pub SpellsNoCert : ModelParts → List ℕ → Type 0
SpellsNoCert m text = (cert : Cert) → ¬ (SpellsCert m text cert)

-- why a text is not read: there was no memory, which says nothing, or its first fault, where it spells no certificate
abbrev pub IsCertRefusal : ModelParts → List ℕ → ReadError → Type 0
IsCertRefusal m text read.Memory = Unit {0}
IsCertRefusal m text (read.Text fault) = IsFirstCertFault m text fault × SpellsNoCert m text
