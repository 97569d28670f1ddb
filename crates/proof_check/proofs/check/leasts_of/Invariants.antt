use Rattle.std.proofs.Common.{◌≡◌, map, take}
use Rattle.label_rules.specs.declared.table.ProofTable.{ProofTable}
use Rattle.proof_check.proofs.check.leasts_of.Given as goal

abbrev pub invariant-loop-table : goal.invariant-loop-table
invariant-loop-table l = l.leasts.items ≡ map (λ (t : ProofTable). t.least) (take l.table-index l.tables)
