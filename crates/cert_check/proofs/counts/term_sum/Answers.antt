use Rattle.std.proofs.Common.{◌^◌, pos, to_z, get_or, subst}
use Rattle.std.specs.Int.{w128}
use Rattle.path_graph.specs.Within.{IsWithin}
use Rattle.route_model.specs.declared.places.Span.{Span}
use Rattle.proof_rules.specs.Counts.{Walk}
use Rattle.cert_check.specs.declared.stack.Listed.{Listed}
use Rattle.cert_check.specs.Costs.{HasTerm, priced_cost}
use Rattle.cert_check.specs.Frames.{walk_said}
use Rattle.cert_check.specs.Reads.{WalkFits}
use Rattle.cert_check.proofs.LoopLemmas.{each_said}
use Rattle.cert_check.proofs.TermLemmas.{terms_fit, terms_step}
use Rattle.cert_check.proofs.counts.term_sum.Goals as goal

pub walk_term-requires-clause-fits : goal.walk_term-requires-clause-fits
walk_term-requires-clause-fits c = each_said (WalkFits c.args.model.now) c.args.walks.now c.loop-k.k c.index-walks-k.result c.loop-k-test.true c.index-walks-k.is c.requires.walks

pub returns-in-None : goal.returns-in-None
returns-in-None c near =
    c.in-None.ensures (each_said (λ (w : Walk). IsWithin (2 ^ 88) (priced_cost c.args.model.now c.args.priced.now w)) c.args.walks.now c.loop-k.k c.index-walks-k.result c.loop-k-test.true c.index-walks-k.is near)

pub plus-total-requires : goal.plus-total-requires
plus-total-requires c =
    let none : Span = record { low = pos 0; high = pos 0 } in
    let has = subst (λ (w : Listed). HasTerm c.args.model.now c.args.priced.now (walk_said w) (get_or c.args.boxes.now c.loop-k.k none) c.in-Some.term) c.index-walks-k.is c.in-Some.ensures in
    terms_fit c.args.model.now c.args.priced.now c.args.walks.now c.args.boxes.now c.loop-k.k c.index-walks-k.result none c.loop-k-test.true c.requires.size c.requires.few (to_z w128 c.loop-k.total-bits) c.in-Some.term c.loop-k.invariant has

pub loop-k-preserved : goal.loop-k-preserved
loop-k-preserved c =
    let none : Span = record { low = pos 0; high = pos 0 } in
    let has = subst (λ (w : Listed). HasTerm c.args.model.now c.args.priced.now (walk_said w) (get_or c.args.boxes.now c.loop-k.k none) c.in-Some.term) c.index-walks-k.is c.in-Some.ensures in
    terms_step c.args.model.now c.args.priced.now c.args.walks.now c.args.boxes.now c.loop-k.k c.index-walks-k.result none c.loop-k-test.true c.requires.size c.requires.few (to_z w128 c.loop-k.total-bits) c.in-Some.term c.plus-total.result c.loop-k.invariant has c.plus-total.ensures
