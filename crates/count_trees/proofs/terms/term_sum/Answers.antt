use Rattle.std.proofs.Common.{pos, to_z}
use Rattle.std.specs.Int.{w128}
use Rattle.route_model.specs.declared.places.Span.{Span}
use Rattle.count_trees.proofs.TermLemmas.{has_term, terms_all, terms_fit, terms_step, terms_within}
use Rattle.count_trees.proofs.terms.term_sum.Goals as goal

pub plus-total-requires : goal.plus-total-requires
plus-total-requires c =
    let none : Span = record { low = pos 0; high = pos 0 } in
    let has = has_term c.args.costs.now c.args.boxes.now c.loop-k.k none c.count_term.result c.loop-k-test.true c.requires.size c.requires.costs c.count_term.ensures.term c.count_term.ensures.small in
    terms_fit c.args.costs.now c.args.boxes.now c.loop-k.k (pos 0) none c.loop-k-test.true c.requires.size c.requires.few (to_z w128 c.loop-k.total-bits) c.count_term.result c.loop-k.invariant has

pub loop-k-preserved : goal.loop-k-preserved
loop-k-preserved c =
    let none : Span = record { low = pos 0; high = pos 0 } in
    let has = has_term c.args.costs.now c.args.boxes.now c.loop-k.k none c.count_term.result c.loop-k-test.true c.requires.size c.requires.costs c.count_term.ensures.term c.count_term.ensures.small in
    terms_step c.args.costs.now c.args.boxes.now c.loop-k.k (pos 0) none c.loop-k-test.true c.requires.size c.requires.few (to_z w128 c.loop-k.total-bits) c.count_term.result c.plus-total.result c.loop-k.invariant has c.plus-total.ensures

pub returns-clause-sum : goal.returns-clause-sum
returns-clause-sum c = terms_all c.args.costs.now c.args.boxes.now c.loop-k.k (to_z w128 c.loop-k.total-bits) c.loop-k-test.false c.requires.size c.loop-k.invariant

pub returns-clause-small : goal.returns-clause-small
returns-clause-small c = terms_within c.args.costs.now c.args.boxes.now c.loop-k.k (to_z w128 c.loop-k.total-bits) c.loop-k-test.false c.requires.few c.loop-k.invariant
