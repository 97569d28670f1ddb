-- The grammar of certificates, and the first fault of a text.
use Rattle.std.specs.Prelude.{◌≡◌, ℕ, List, [], ◌∷◌, map, codes, Bool, false, ◌&&◌, not, is_some, if◌then◌else◌, unwrap_or, Result, Err}
use Rattle.std.specs.Str.{bytes_eq}
use Rattle.route_model.specs.Parts.{ModelParts}
use Rattle.line_text.specs.declared.fault.TextFault.{TextFault}
use Rattle.line_text.specs.Words.{Words, Wants, ◌>>◌, give, version_wanted}
use Rattle.line_text.specs.Reading.{Reading, Grammar, by_first_word, reading_of, text_read}
use Rattle.certificate.specs.declared.cert.Goal.TheVariants as goal
use Rattle.certificate.specs.declared.draft.CertDraft.{CertDraft}
use Rattle.certificate.specs.declared.sizes.Sizes.{Sizes}
use Rattle.certificate.specs.Sizes.{sizes_of}
use Rattle.certificate.specs.Draft.{empty_draft}
use Rattle.certificate.specs.LineKinds.{Item, Version, kinds, rule_of, put}
use Rattle.certificate.specs.CertText.{Written}

abbrev pub begins_with : List ℕ → Words → Bool
begins_with key [] = false
begins_with key (w ∷ words) = bytes_eq w key

-- behind the claim and the paths the line of the version is wanted
abbrev pub wants_version : CertDraft → Words → Bool
wants_version d words = is_some d.goal && (not d.opened && not (begins_with (codes "path") words))

abbrev pub cert_item : Sizes → CertDraft → Wants Item
cert_item s d words =
    if wants_version d words
    then (version_wanted (codes "proof") (codes "1") >> give Version) words
    else by_first_word (map (rule_of s) kinds) d words

abbrev pub cert_grammar : Sizes → Grammar CertDraft Item
cert_grammar s = record { empty = empty_draft; is_ended = λ d. d.ended; item = cert_item s; put = put }

abbrev pub cert_reading : Sizes → Reading CertDraft
cert_reading s = reading_of (cert_grammar s)

-- what a text says of a model's certificate, or its first fault
abbrev pub cert_read : Sizes → List ℕ → Result CertDraft TextFault
cert_read s text = text_read (cert_reading s) text

abbrev pub written_of : CertDraft → Written
written_of d = record { goal = unwrap_or d.goal goal.Infeasible; plan = d.plan; nodes = d.nodes }

abbrev pub IsFirstCertFault : ModelParts → List ℕ → TextFault → Type 0
IsFirstCertFault m text fault = cert_read (sizes_of m) text ≡ Err fault
