-- The bound of a place as it is told, and as the rules have it.
use Rattle.std.proofs.Common.{◌≡◌, ℤ, Option, None, Some, List, [], ◌∷◌, length, map, refl, sym, ◌∙◌, ap, subst}
use Rattle.std.proofs.lemmas.List.{length-map}
use Rattle.std.proofs.lemmas.List.Elements.{All-map}
use Rattle.label_rules.specs.declared.table.ProofTable.{ProofTable}
use Rattle.safe_bound.specs.declared.bounds.Bound.{Bound}
use Rattle.safe_bound.specs.declared.bounds.Bound.TheVariants.{Value}
use Rattle.safe_bound.specs.Bounds.{IsBound, bound_of}
use Rattle.safe_bound.specs.Promise.{IsLeastNear, LeastsFit}
use Rattle.proof_rules.specs.Proofs.{ClosesAgainst, Table, bound_at}
use Rattle.cert_rules.specs.Meaning.{table_of}
use Rattle.proof_check.proofs.BoundLemmas.{closes_told}
use Rattle.place_nodes.specs.declared.proof.Known.{Known}
use Rattle.place_nodes.specs.declared.task.Task.{Task}
use Rattle.place_nodes.specs.Bounds.{IsOpenValue, LeavesOpen}
use Rattle.place_nodes.specs.Proofs.{IsPlaceProof, proof_in}
use Rattle.place_nodes.specs.Tasks.{TaskFits}

abbrev pub table_leasts : List ProofTable → List (Option ℤ)
table_leasts tables = map (λ (table : ProofTable). table.least) tables

-- the leasts of a proof are those of its tables
leasts_told : (tables : List ProofTable) → table_leasts tables ≡ map (λ (t : Table). t.least) (map table_of tables)
leasts_told [] = refl
leasts_told (table ∷ tables) = ap (λ (leasts : List (Option ℤ)). table.least ∷ leasts) (leasts_told tables)

module _ (t : Task) (k : Known) (fits : TaskFits t) (is : IsPlaceProof t.model.now t.spot.now k) where
  pub leasts_fit : LeastsFit t.spot.now.boxes.paths (table_leasts k.proof.tables)
  leasts_fit = record {
    count = length-map k.proof.tables (λ (table : ProofTable). table.least) ∙ (is.fits.count ∙ sym fits.spot.boxes.paths);
    each = All-map IsLeastNear (λ (table : ProofTable). table.least) k.proof.tables is.fits.leasts;
  }

  bound_is : bound_of (length t.spot.now.boxes.paths) t.spot.now.boxes.paths (table_leasts k.proof.tables) k.priced.base ≡ bound_at t.model.now t.spot.now (proof_in t k)
  bound_is = λ i. bound_of (fits.spot.boxes.paths i) t.spot.now.boxes.paths (leasts_told k.proof.tables i) (is.parts.priced_is.base i)

  told_value : (b : ℤ) (bound : Bound) → bound ≡ Value b → IsBound t.spot.now.boxes.paths (table_leasts k.proof.tables) k.priced.base bound
      → bound_of (length t.spot.now.boxes.paths) t.spot.now.boxes.paths (table_leasts k.proof.tables) k.priced.base ≡ Some b
  told_value b bound is_value told = subst (IsBound t.spot.now.boxes.paths (table_leasts k.proof.tables) k.priced.base) is_value told

  pub leaves_open : (bound : Bound) (value : Option ℤ) → IsBound t.spot.now.boxes.paths (table_leasts k.proof.tables) k.priced.base bound → IsOpenValue bound t.z value → LeavesOpen t k value
  leaves_open bound None told closes =
      subst (ClosesAgainst t.z) bound_is ((closes_told t.spot.now.boxes.paths (table_leasts k.proof.tables) k.priced.base t.z bound told).0 closes)
  leaves_open bound (Some b) told open_at = record { is = sym bound_is ∙ told_value b bound open_at.0 told; below = open_at.1 }
