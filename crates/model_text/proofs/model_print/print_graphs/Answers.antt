use Rattle.std.proofs.Common.{◌<◌, [], length, arith}
use Rattle.model_text.specs.ModelText.{graph_text}
use Rattle.model_text.proofs.LineLemmas.{zip_at, zip_all}
use Rattle.model_text.proofs.model_print.print_graphs.Goals as goal

pub loop-g-preserved : goal.loop-g-preserved
loop-g-preserved c =
    let graph : c.loop-g.g < length c.args.graphs.now = omega arith in
    let map : c.loop-g.g < length c.args.maps.now = omega arith in
    let vars = c.at-in-loop-g.ensures [] in
    let parts = c.at.ensures c.at.result.now in
    zip_at graph_text c.args.text.now c.loop-g.text _ _ c.args.graphs.now c.args.maps.now c.loop-g.g c.at.result.now []
    graph map c.loop-g.invariant c.in_ok-print_graph.ensures cc

pub returns : goal.returns
returns c =
    zip_all graph_text c.args.text.now c.loop-g.text c.args.graphs.now c.args.maps.now c.loop-g.g c.requires.lists
    (omega arith) c.loop-g.invariant
