use Rattle.ng_sets.proofs.WideningLemmas.{refused_between, walk_inside}
use Rattle.ng_sets.proofs.widening.widen.Goals as goal

pub first_return-requires : goal.first_return-requires
first_return-requires c = walk_inside c.args.graph.now c.args.arcs.now c.requires.walk

pub visit_before-from-requires-clause-there : goal.visit_before-from-requires-clause-there
visit_before-from-requires-clause-there c = walk_inside c.args.graph.now c.args.arcs.now c.requires.walk

pub widen_between-requires-clause-there : goal.widen_between-requires-clause-there
widen_between-requires-clause-there c = walk_inside c.args.graph.now c.args.arcs.now c.requires.walk

pub returns-in-Some-clause-refused : goal.returns-in-Some-clause-refused
returns-in-Some-clause-refused c =
    refused_between c.args.graph.now c.args.g c.args.arcs.now c.visit_before-from.result c.in-Some.found.to c.in-Some.found.set
    c.args.near.now c.widen_between.new.near c.visit_before-from.ensures c.widen_between.ensures.lists
