use Rattle.std.proofs.Common.{length, ◌∙◌, ap, arith}
use Rattle.route_model.specs.Parts.{ModelParts}
use Rattle.listing_tests.proofs.listings.have_rests.Goals as goal

pub returns : goal.returns
returns c h =
    let view = ap (λ (m : ModelParts). length m.graphs) c.model.view_is in
    let count = c.len-graph-end.ensures ∙ view in
    record {
      count = c.if-row-len.false ∙ (c.len.ensures ∙ view);
      each = λ g l. c.loop-graph.invariant g (omega (arith, l, count, c.loop-graph-test.false));
    }
