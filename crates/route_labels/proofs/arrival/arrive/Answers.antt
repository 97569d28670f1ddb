use Rattle.std.proofs.Common.{◌≡◌, ◌+ℤ◌, pos, sym, subst, ap, ◌∙◌, arith}
use Rattle.std.proofs.lemmas.Bool.{false≢true}
use Rattle.std.proofs.lemmas.Int.{ints}
use Rattle.path_graph.specs.declared.parts.Vertex.{Vertex}
use Rattle.path_graph.specs.declared.set_bits.SetBits.{SetBits}
use Rattle.path_graph.specs.Fit.{vertex_at}
use Rattle.path_graph.specs.Walk.{GraphParts}
use Rattle.label_rules.specs.Labels.{Setting, visit_cost}
use Rattle.ng_sets.specs.Near.{sets_at}
use Rattle.route_labels.specs.Meaning.{setting_of}
use Rattle.route_labels.proofs.ArrivalLemmas.{Made, arrives, wide_is}
use Rattle.route_labels.proofs.arrival.arrive.Goals as goal

pub returns : goal.returns
returns c =
    let S : Setting = setting_of c.args.field.now in
    let l = c.args.label.now in
    let v = c.args.vertex in
    let set = c.vertex-set.result.set in
    let memory = c.in_ok-memory.memory in
    let states = c.states_after-risen.result.0 in
    let total = c.cost_after-cost.result in
    let arc = c.arc_cost.result in
    let visit = c.visit_cost-visiting.result in
    let cost_near = c.requires.cost in
    let arc_near = c.arc_cost.ensures.range in
    let visit_near = c.visit_cost-visiting.ensures.range in
    let light = c.states_after-risen.ensures.light in
    let old = wide_is l.cost (omega (arith, ints, cost_near.0), omega (arith, ints, cost_near.1)) in
    let over = wide_is arc (omega (arith, ints, arc_near.0), omega (arith, ints, arc_near.1)) in
    let told = wide_is visit (omega (arith, ints, visit_near.0), omega (arith, ints, visit_near.1)) in
    let sum : total ≡ ((l.cost +ℤ arc) +ℤ visit) +ℤ pos c.states_after-risen.result.1 =
    c.cost_after-cost.ensures ∙ (λ i. ((old i +ℤ over i) +ℤ told i) +ℤ pos c.states_after-risen.result.1) in
    let new = wide_is total (omega (arith, ints, sum, cost_near.0, arc_near.0, visit_near.0), omega (arith, ints, sum, cost_near.1, arc_near.1, visit_near.1, light)) in
    let named : total ≡ ((l.cost +ℤ S.arc_cost c.args.arc) +ℤ visit_cost S set) +ℤ pos c.states_after-risen.result.1 =
    sum ∙ (λ i. ((l.cost +ℤ c.arc_cost.ensures.cost i) +ℤ c.visit_cost-visiting.ensures.cost i) +ℤ pos c.states_after-risen.result.1) in
    let made : Made S l c.args.arc set c.near_of-near.result memory states total = record {
      accepted = λ r. false≢true (sym (c.in_ok-memory.ensures.refused.1 r));
      after = c.in_ok-memory.ensures.after;
      whole = c.in_ok-memory.ensures.whole;
      states = c.states_after-risen.ensures.states;
      weight = c.states_after-risen.result.1;
      risen = c.states_after-risen.ensures.risen;
      cost = named;
    } in
    let near = subst (λ (sets : SetBits). Made S l c.args.arc set sets memory states total) c.near_of-near.ensures made in
    let vertex = c.vertex-set.ensures.vertex ∙ ap (λ (g : GraphParts). vertex_at g.vertices v) c.graph_of.ensures in
    let there = subst (λ (x : Vertex). Made S l c.args.arc x.set (sets_at S.near v) memory states total) vertex near in
    rw new (arrives S l v c.args.values c.args.arc memory states total c.requires.agree.costs.few there)
