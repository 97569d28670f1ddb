use Rattle.std.proofs.Common.{arith}
use Rattle.path_graph.proofs.SetBitsLemmas.{has_set-with, with-whole}
use Rattle.path_graph.proofs.set_bits.SetBits.with.Goals as goal

pub returns-clause-members : goal.returns-clause-members
returns-clause-members c = has_set-with c.args.self.now c.args.s c.requires (omega arith)

pub returns-clause-whole : goal.returns-clause-whole
returns-clause-whole c = with-whole c.args.self.now c.args.s
