use Rattle.std.proofs.Common.{◌≡◌, ℤ, Option, List, [], ◌∷◌, map, refl, ap}
use Rattle.label_rules.specs.declared.table.ProofTable.{ProofTable}
use Rattle.proof_rules.specs.Proofs.{Table}
use Rattle.cert_rules.specs.Meaning.{table_of}
use Rattle.cert_rules.proofs.words.proofs_have_leasts.Goals as goal

told : (tables : List ProofTable) → map (λ (t : Table). t.least) (map table_of tables) ≡ map (λ (t : ProofTable). t.least) tables
told [] = refl
told (t ∷ tables) = ap (λ (rest : List (Option ℤ)). t.least ∷ rest) (told tables)

pub returns : goal.returns
returns c m p = told p.tables
