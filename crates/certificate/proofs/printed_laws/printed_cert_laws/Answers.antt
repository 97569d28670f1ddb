use Rattle.certificate.proofs.CertPrintLaws.{printed_cert_law, printed_again_law}
use Rattle.certificate.proofs.printed_laws.printed_cert_laws.Goals as goal

pub returns-clause-certs : goal.returns-clause-certs
returns-clause-certs c = printed_cert_law

pub returns-clause-again : goal.returns-clause-again
returns-clause-again c = printed_again_law
