use Rattle.std.proofs.Common.{pos}
use Rattle.place_nodes.proofs.CloseLemmas.{close_at}
use Rattle.place_nodes.proofs.tabled.close_node.Goals as goal

pub returns : goal.returns
returns c = close_at c.args.task.now c.args.known (pos 0) c.new.result.items c.requires.task c.requires.known c.requires.closed c.new.ensures.items
