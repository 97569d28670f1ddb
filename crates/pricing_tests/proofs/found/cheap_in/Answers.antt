use Rattle.pricing_tests.proofs.found.cheap_in.Goals as goal

pub cheap_at-requires-clause-table : goal.cheap_at-requires-clause-table
cheap_at-requires-clause-table c = (c.requires.each_table.each c.args.graph c.in-Some.table.now c.in-Some.ensures).0.graph

pub cheap_at-requires-clause-made : goal.cheap_at-requires-clause-made
cheap_at-requires-clause-made c = c.requires.each_made.each c.args.graph c.in-Some-item_at.filled.now c.in-Some-item_at.ensures
