-- Certificates that a search gives.
use Rattle.std.specs.Prelude.{◌≡◌, ℤ}
use Rattle.route_model.specs.declared.plan.Plan.{Plan}
use Rattle.route_model.specs.Parts.{ModelParts}
use Rattle.route_model.specs.Quantities.{cost_of}
use Rattle.route_model.specs.Solution.{HasNoSolution, IsLeast}
use Rattle.route_model.specs.Tidy.{IsTidy}
use Rattle.certificate.specs.declared.cert.Cert.{Cert}
use Rattle.certificate.specs.declared.cert.Goal.{Goal}
use Rattle.certificate.specs.declared.cert.Goal.TheVariants as goal
use Rattle.certificate.specs.CertFits.{CertFits}
use Rattle.cert_check.specs.Verdicts.{IsAccepted}

-- the check accepts it, a text can tell it, and this is its claim
pub record IsCertified (m : ModelParts) (claim : Goal) (cert : Cert) : Type 0 where
  pub accepted : IsAccepted m cert
  pub fits : CertFits m cert
  pub claimed : cert.goal ≡ claim

-- a tidy plan is a solution of this cost, none costs less, and it is the certificate's
pub record IsProvedLeast (m : ModelParts) (cost : ℤ) (plan : Plan) (cert : Cert) : Type 0 where
  pub least : IsLeast m plan
  pub costs : cost_of m plan ≡ cost
  pub tidy : IsTidy plan
  pub certified : IsCertified m (goal.Optimal cost) cert
  pub planned : cert.plan ≡ plan

-- there is no solution
pub record IsProvedNone (m : ModelParts) (cert : Cert) : Type 0 where
  pub none : HasNoSolution m
  pub certified : IsCertified m goal.Infeasible cert
