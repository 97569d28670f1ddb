use Rattle.place_nodes.proofs.StopLemmas.{has_cut_off}
use Rattle.place_nodes.proofs.work.cut_off.Goals as goal

pub returns-in-Some : goal.returns-in-Some
returns-in-Some c = c.split_node.ensures.cut_off (has_cut_off c.args.task.now c.args.known c.args.tries c.requires.task c.requires.known c.requires.trees)
