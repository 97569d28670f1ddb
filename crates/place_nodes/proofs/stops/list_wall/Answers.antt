use Rattle.std.proofs.Common.{w64, to_z, of_z, rules}
use Rattle.std.proofs.lemmas.Int.{to_z-of_z}
use Rattle.place_nodes.proofs.StopLemmas.{list_stops}
use Rattle.place_nodes.proofs.stops.list_wall.Goals as goal

pub returns-in-Ok : goal.returns-in-Ok
returns-in-Ok c =
    let t = c.args.task.now in
    list_stops t c.args.known c.args.tries c.requires.task c.requires.known c.requires.trees c.in-Ok.spot (to_z w64 (of_z w64 t.z)) c.requires.points c.in-Ok.ensures (to_z-of_z w64 t.z (search rules))
