use Rattle.bounds_tests.proofs.pricing.check_all.Goals as goal

pub check_bounds-requires : goal.check_bounds-requires
check_bounds-requires g c = c.in-Ok.ensures.range
