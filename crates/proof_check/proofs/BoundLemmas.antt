-- The bound of a place as it is told, and as the rules have it.
use Rattle.std.proofs.Common.{◌≡◌, ℕ, ℤ, Option, None, List, All, length, sym, ap, subst, arith}
use Rattle.std.specs.Prelude.{◌↔◌}
use Rattle.std.proofs.lemmas.Bool.{cond-false}
use Rattle.std.proofs.lemmas.List.{length-map}
use Rattle.std.proofs.lemmas.List.Elements.{All-map, All-weaker}
use Rattle.route_model.specs.declared.places.Span.{Span}
use Rattle.route_model.specs.Places.{span_at}
use Rattle.label_rules.specs.declared.table.ProofTable.{ProofTable}
use Rattle.safe_bound.specs.declared.bounds.Bound.{Bound}
use Rattle.safe_bound.specs.declared.bounds.Bound.TheVariants.{Value, NoPaths}
use Rattle.safe_bound.specs.Bounds.{Closes, IsBound, bound_of, is_possible, least_at}
use Rattle.safe_bound.specs.Promise.{IsLeastNear, LeastsFit}
use Rattle.safe_bound.proofs.BoundLemmas.{passes_fails}
use Rattle.proof_rules.specs.Proofs.{ClosesAgainst, Table}
use Rattle.cert_rules.specs.Meaning.{table_of}
use Rattle.proof_check.specs.declared.proved.Proved.{Proved}
use Rattle.proof_check.specs.Checked.{IsProved, bound_in, proof_in}
use Rattle.proof_check.specs.Keeps.{TableKeeps}

-- a bound closes against z exactly where the one that is told does
module _ (spans : List Span) (leasts : List (Option ℤ)) (base z : ℤ) where
  none_told : (g : ℕ) → IsBound spans leasts base (NoPaths g) → bound_of (length spans) spans leasts base ≡ None
  none_told g fault = cond-false _ _ _ (passes_fails (length spans) (λ h. is_possible (least_at leasts h) (span_at spans h)) g fault.within fault.fails)

  pub closes_told : (b : Bound) → IsBound spans leasts base b → (Closes b z ↔ ClosesAgainst z (bound_of (length spans) spans leasts base))
  closes_told (Value x) is = (
    λ h. subst (ClosesAgainst z) (sym is) h,
    λ h. subst (ClosesAgainst z) is h,
  )
  closes_told (NoPaths g) is = (
    λ h. subst (ClosesAgainst z) (sym (none_told g is)) tt,
    λ h. tt,
  )

module _ (at : Proved) (proved : IsProved at) where
  pub paths_count : length at.spot.now.boxes.paths ≡ length at.model.now.graphs
  paths_count = proved.ready.spot.boxes.paths

  -- the leasts are one for each graph
  pub leasts_fit : LeastsFit at.spot.now.boxes.paths at.checked.now.leasts
  leasts_fit = record {
    count =
        let same = ap length proved.ready.checked.leasts in
        let mapped = length-map (proof_in at).tables (λ (t : Table). t.least) in
        let tables = proved.proof.count in
        let paths = paths_count in
        omega (arith, same, mapped, tables, paths);
    each = subst (λ (xs : List (Option ℤ)). All IsLeastNear xs) (sym proved.ready.checked.leasts)
        (All-map IsLeastNear (λ (t : Table). t.least) (proof_in at).tables
        (All-map (λ (t : Table). IsLeastNear t.least) table_of at.proof.now.tables
        (All-weaker (TableKeeps (length at.model.now.graphs) (length at.proof.now.cuts)) (λ (t : ProofTable). IsLeastNear t.least) (λ t k. k.least) at.proof.now.tables proved.ready.keeps.tables)));
  }

  pub bound_is : bound_of (length at.spot.now.boxes.paths) at.spot.now.boxes.paths at.checked.now.leasts at.checked.now.priced.base ≡ bound_in at
  bound_is = λ i. bound_of (paths_count i) at.spot.now.boxes.paths (proved.ready.checked.leasts i) (proved.ready.checked.priced.base i)
