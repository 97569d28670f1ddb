use Rattle.std.proofs.Common.{below_more, arith, refl}
use Rattle.std.proofs.lemmas.List.{length-map}
use Rattle.label_rules.specs.declared.table.ProofTable.{ProofTable}
use Rattle.proof_tests.proofs.keeping.tables_ascend.Goals as goal

pub loop-k-preserved : goal.loop-k-preserved
loop-k-preserved c = below_more _ _ c.loop-k.invariant (c.if-not-are_in_order.ensures refl)

pub returns : goal.returns
returns c h j l =
    let count = length-map c.args.tables.now (λ (t : ProofTable). t.graph) in
    c.loop-k.invariant j (omega (arith, l, count))
