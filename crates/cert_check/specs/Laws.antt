-- A certificate has at most one first fault, and one that has a fault is not accepted.
use Rattle.std.specs.Prelude.{◌≡◌}
use Rattle.route_model.specs.Parts.{ModelParts}
use Rattle.certificate.specs.declared.cert.Cert.{Cert}
use Rattle.certificate.specs.CertFits.{CertFits}
use Rattle.cert_check.specs.declared.fault.CheckFault.{CheckFault}
use Rattle.cert_check.specs.Verdicts.{IsAccepted, IsFirstFault}

-- two first faults of a certificate are the same
abbrev pub OneFaultLaw : Type 0
OneFaultLaw = (m : ModelParts) (cert : Cert) (one other : CheckFault) → CertFits m cert → IsFirstFault m cert one → IsFirstFault m cert other → one ≡ other

-- a certificate with a fault is not accepted
abbrev pub FaultRefusesLaw : Type 0
FaultRefusesLaw = (m : ModelParts) (cert : Cert) (fault : CheckFault) → CertFits m cert → IsFirstFault m cert fault → ¬ (IsAccepted m cert)
