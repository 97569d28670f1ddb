use Rattle.std.proofs.Common.{w64}
use Rattle.std.proofs.lemmas.Int.{to_z-of_z}
use Rattle.search_steps.proofs.PlainLemmas.{wall_told}
use Rattle.search_steps.proofs.plain.plain_worked.Goals as goal

pub returns-in-Wall : goal.returns-in-Wall
returns-in-Wall c =
    let at = rw c.in-Wall.is at c.requires.worked in
    wall_told c.args.model.now c.args.z _ c.args.labels c.args.nodes c.in-Wall.wall c.left_at_wall.result (to_z-of_z w64 c.args.z c.ranges.z) at c.left_at_wall.ensures
