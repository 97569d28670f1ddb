use Rattle.std.proofs.Common.{subst, sym, ◌∙◌}
use Rattle.certificate.specs.PrintedText.{SpellsAside}
use Rattle.certificate.proofs.CertPrinted.{cert_text_spells}
use Rattle.certificate.proofs.cert_print.write_cert.Goals as goal

pub returns-clause-spells : goal.returns-clause-spells
returns-clause-spells c =
    subst (λ text. SpellsAside c.args.model.now text c.args.cert.now) (sym (c.into_list.ensures ∙ c.in_ok-text.ensures.text))
    (cert_text_spells c.args.model.now c.args.cert.now c.in_ok-text.ensures.sizes c.requires)
