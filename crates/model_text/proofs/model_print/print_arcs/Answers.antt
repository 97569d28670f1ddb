use Rattle.std.proofs.Common.{◌<◌, [], length, arith}
use Rattle.model_text.specs.ModelText.{arc_line}
use Rattle.model_text.proofs.LineLemmas.{zip_at, zip_all}
use Rattle.model_text.proofs.model_print.print_arcs.Goals as goal

pub loop-a-preserved : goal.loop-a-preserved
loop-a-preserved c =
    let g = c.args.graph.now in
    let arc : c.loop-a.a < length g.arcs = omega arith in
    let map : c.loop-a.a < length c.args.maps.now = omega arith in
    let vars = c.at.ensures [] in
    zip_at (arc_line g.ends) c.args.text.now c.loop-a.text _ _ g.arcs c.args.maps.now c.loop-a.a (record { tail = 0; head = 0; needs = [] }) [] arc map
    c.loop-a.invariant c.in_ok-print_arc.ensures cc

pub returns : goal.returns
returns c =
    let g = c.args.graph.now in
    zip_all (arc_line g.ends) c.args.text.now c.loop-a.text g.arcs c.args.maps.now c.loop-a.a (omega arith) (omega arith)
    c.loop-a.invariant
