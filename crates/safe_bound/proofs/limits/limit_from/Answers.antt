use Rattle.std.proofs.Common.{length, sym, ◌∙◌}
use Rattle.safe_bound.proofs.BoundSteps.{others_box, own_read}
use Rattle.safe_bound.proofs.limits.limit_from.Goals as goal

pub graph_term-own-requires-clause-span : goal.graph_term-own-requires-clause-span
graph_term-own-requires-clause-span c =
    others_box c.args.spans.now c.args.leasts.now c.args.g c.others.result c.requires.paths c.requires.graph (sym c.are_above.ensures ∙ c.if-are_above.false) c.others.ensures

pub less_all-requires-clause-own : goal.less_all-requires-clause-own
less_all-requires-clause-own c =
    let box = others_box c.args.spans.now c.args.leasts.now c.args.g c.others.result c.requires.paths c.requires.graph (sym c.are_above.ensures ∙ c.if-are_above.false) c.others.ensures in
    own_read c.args.leasts.now c.args.g (length c.args.spans.now) c.others.result c.graph_term-own.result c.requires.leasts.each c.requires.leasts.count c.requires.graph box c.graph_term-own.ensures
