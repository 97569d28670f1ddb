use Rattle.path_graph.proofs.SetBitsLemmas.{has_below, has_past}
use Rattle.path_graph.proofs.set_bits.SetBits.has.Goals as goal

pub returns-then-s-lt-MAX_SETS : goal.returns-then-s-lt-MAX_SETS
returns-then-s-lt-MAX_SETS c = has_below c.args.self.now c.args.s c.if-s-lt-MAX_SETS.true

pub returns-else-s-lt-MAX_SETS : goal.returns-else-s-lt-MAX_SETS
returns-else-s-lt-MAX_SETS c = has_past c.args.self.now c.args.s c.if-s-lt-MAX_SETS.false
