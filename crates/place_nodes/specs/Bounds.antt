-- Bounds that leave a place open.
use Rattle.std.specs.Prelude.{◌≡◌, ℤ, pos, ◌-ℤ◌, ◌≤ℤ◌, Option, None, Some}
use Rattle.multipliers.specs.Quantities.{scaled}
use Rattle.safe_bound.specs.declared.bounds.Bound.{Bound}
use Rattle.safe_bound.specs.declared.bounds.Bound.TheVariants.{Value}
use Rattle.safe_bound.specs.Bounds.{Closes}
use Rattle.proof_rules.specs.Proofs.{ClosesAgainst, bound_at}
use Rattle.place_nodes.specs.declared.proof.Known.{Known}
use Rattle.place_nodes.specs.declared.task.Task.{Task}
use Rattle.place_nodes.specs.declared.tabled.Bounded.{Bounded}
use Rattle.place_nodes.specs.declared.tabled.Bounded.TheVariants.{Ends, Open}
use Rattle.place_nodes.specs.Proofs.{IsPlaceProof, proof_in}
use Rattle.place_nodes.specs.Tasks.{IsWorkedAt}

-- a bound closes against z; or this is its value, which does not
abbrev pub IsOpenValue : Bound → ℤ → Option ℤ → Type 0
IsOpenValue bound z None = Closes bound z
IsOpenValue bound z (Some b) = (bound ≡ Value b) × (b ≤ℤ scaled (z -ℤ pos 1))

-- this is the bound of a place, and it does not close it
pub record IsOpenBound (t : Task) (k : Known) (b : ℤ) : Type 0 where
  pub is : bound_at t.model.now t.spot.now (proof_in t k) ≡ Some b
  pub below : b ≤ℤ scaled (t.z -ℤ pos 1)

abbrev pub LeavesOpen : Task → Known → Option ℤ → Type 0
LeavesOpen t k None = ClosesAgainst t.z (bound_at t.model.now t.spot.now (proof_in t k))
LeavesOpen t k (Some b) = IsOpenBound t k b

-- what the tables of a place tell: its node or a wall; or a proof that leaves it open, with its bound
abbrev pub IsBounded : Task → Bounded → Type 0
IsBounded t (Ends worked) = IsWorkedAt t worked
IsBounded t (Open known b) = IsPlaceProof t.model.now t.spot.now known × IsOpenBound t known b
