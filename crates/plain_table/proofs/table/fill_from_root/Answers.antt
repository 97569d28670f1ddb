use Rattle.std.proofs.Common.{◌≤◌, Ok, length, ap, arith}
use Rattle.plain_table.proofs.Ending.{closed_outcome, wall_outcome}
use Rattle.plain_table.proofs.table.fill_from_root.Goals as goal

pub returns : goal.returns
returns g c =
    let f = c.loop-filling.filling in
    let over : length f.order.items ≤ f.next = let n = c.len.ensures in let h = c.loop-filling-test.false in omega arith in
    closed_outcome (g.S.Space.rules c.args.space.now) (g.met.S.Space.lawful c.args.space.now) c.args.limit f.cells.items f.order.items f.next c.loop-filling.invariant over
    c.table_of-2.result c.table_of-2.ensures

pub returns-in-Wall : goal.returns-in-Wall
returns-in-Wall g c =
    let f = c.work_on_next.new.filling in
    wall_outcome (g.S.Space.rules c.args.space.now) (g.met.S.Space.lawful c.args.space.now) c.args.limit f.cells.items
    (c.in_ok-work_on_next.ensures.wall (ap (λ s. Ok s) c.in-Wall.is)) c.table_of.result c.table_of.ensures
