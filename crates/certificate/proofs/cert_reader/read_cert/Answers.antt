use Rattle.std.proofs.Common.{◌≡◌, subst, sym, ap, ◌∙◌, Ok}
use Rattle.std.proofs.lemmas.Result.{err_from_is_err_and}
use Rattle.line_text.specs.Gives.{FailsText}
use Rattle.certificate.specs.Sizes.{SizesFit}
use Rattle.certificate.specs.Meaning.{cert_of}
use Rattle.certificate.specs.Reading.{cert_read, written_of}
use Rattle.certificate.specs.Spelling.{SpellsCert}
use Rattle.certificate.proofs.CertPrinted.{spelled_cert_fits}
use Rattle.certificate.proofs.CertLaws.{cert_reads_spelled, cert_refused, spelled_cert_is_read}
use Rattle.certificate.proofs.cert_reader.read_cert.Goals as goal

pub returns-in_err-reader-clause-refused : goal.returns-in_err-reader-clause-refused
returns-in_err-reader-clause-refused c =
    let m = c.args.model.now in
    let fit = subst SizesFit c.in_ok-sizes.ensures.is c.in_ok-sizes.ensures.fit in
    let same = c.new.ensures.sizes ∙ c.in_ok-sizes.ensures.is in
    let fails = subst (λ s. FailsText c.in_err-reader.field-0.0 (cert_read s c.args.bytes.now)) same c.in_err-reader.ensures.gives in
    let handed = err_from_is_err_and c.from_residual-in_err-reader.result c.from_residual-in_err-reader.ensures.1 in
    rw (handed.1, handed.2) (cert_refused m fit c.args.bytes.now c.in_err-reader.field-0.0 fails)

pub returns-clause-ok : goal.returns-clause-ok
returns-clause-ok c =
    let m = c.args.model.now in
    let draft = c.in_ok-reader.reader.draft in
    let fit = subst SizesFit c.in_ok-sizes.ensures.is c.in_ok-sizes.ensures.fit in
    let same = c.new.ensures.sizes ∙ c.in_ok-sizes.ensures.is in
    let read = subst (λ s. cert_read s c.args.bytes.now ≡ Ok draft) same c.in_ok-reader.ensures.gives in
    let cert_is = c.in_ok-cert.ensures ∙ ap (λ s. cert_of s (written_of draft) draft.lines) c.in_ok-sizes-2.ensures.is in
    subst (SpellsCert m c.args.bytes.now) (sym cert_is) (cert_reads_spelled m fit c.args.bytes.now draft read)

pub returns-clause-only : goal.returns-clause-only
returns-clause-only c other spells =
    let m = c.args.model.now in
    let draft = c.in_ok-reader.reader.draft in
    let fit = subst SizesFit c.in_ok-sizes.ensures.is c.in_ok-sizes.ensures.fit in
    let same = c.new.ensures.sizes ∙ c.in_ok-sizes.ensures.is in
    let read = subst (λ s. cert_read s c.args.bytes.now ≡ Ok draft) same c.in_ok-reader.ensures.gives in
    let cert_is = c.in_ok-cert.ensures ∙ ap (λ s. cert_of s (written_of draft) draft.lines) c.in_ok-sizes-2.ensures.is in
    spelled_cert_is_read m fit c.args.bytes.now draft other read spells ∙ sym cert_is

pub returns-clause-fits : goal.returns-clause-fits
returns-clause-fits c = spelled_cert_fits c.args.model.now c.args.bytes.now c.in_ok-cert.cert (returns-clause-ok c)
