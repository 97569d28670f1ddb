use Rattle.std.proofs.Common.{◌+◌, ◌<◌, length, arith}
use Rattle.std.proofs.lemmas.List.{get_or-map}
use Rattle.label_rules.specs.declared.table.ProofTable.{ProofTable}
use Rattle.proof_tests.proofs.keeping.are_in_order.Goals as goal

pub returns : goal.returns
returns c h =
    let tables = c.args.tables.now in
    let there : c.args.k < length tables = omega (arith, c.requires) in
    let first = get_or-map (λ (t : ProofTable). t.graph) tables c.args.k c.index-tables-k.result 0 there in
    let second = get_or-map (λ (t : ProofTable). t.graph) tables (c.args.k + 1) c.index-tables-k-2.result 0 c.requires in
    omega (arith, first, second, c.if-tables-k.false)
