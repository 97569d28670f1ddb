use Rattle.place_nodes.proofs.StopLemmas.{table_stops}
use Rattle.place_nodes.proofs.stops.table_wall.Goals as goal

pub returns-in-Ok : goal.returns-in-Ok
returns-in-Ok c =
    table_stops c.args.task.now c.args.basis c.args.graph c.args.is_backward c.args.table c.in-Ok.spot c.new.result c.requires.task c.requires.basis c.requires.wall c.in-Ok.ensures
