use Rattle.labels_tests.proofs.tables.walk_at.Goals as goal

pub walk_of-requires-clause-stands : goal.walk_of-requires-clause-stands
walk_of-requires-clause-stands g c = (c.in-Some.field-0.now, c.in-Some.ensures)
