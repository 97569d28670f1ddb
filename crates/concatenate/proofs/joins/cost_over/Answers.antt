use Rattle.std.proofs.Common.{◌≡◌, ◌+ℤ◌, pos, sym, subst, ◌∙◌, arith}
use Rattle.std.proofs.lemmas.Int.{ints}
use Rattle.path_graph.specs.Walk.{GraphParts}
use Rattle.path_graph.specs.Rest.{Join}
use Rattle.label_rules.specs.Joins.{join_cost}
use Rattle.label_rules.specs.Labels.{Setting}
use Rattle.route_labels.specs.Meaning.{setting_of}
use Rattle.route_labels.proofs.ArrivalLemmas.{wide_is}
use Rattle.concatenate.proofs.joins.cost_over.Goals as goal

pub returns : goal.returns
returns c =
    let S : Setting = setting_of c.args.field.now in
    let f = c.args.f.now in
    let b = c.args.b.now in
    let arc = c.arc_cost.result in
    let total = c.cost_of.result in
    let front_near = c.requires.front.cost in
    let rest_near = c.requires.rest.cost in
    let arc_near = c.arc_cost.ensures.range in
    let light = c.weight_reached-reached.ensures.light in
    let front = wide_is f.cost (omega (arith, ints, front_near.0), omega (arith, ints, front_near.1)) in
    let rest = wide_is b.cost (omega (arith, ints, rest_near.0), omega (arith, ints, rest_near.1)) in
    let over = wide_is arc (omega (arith, ints, arc_near.0), omega (arith, ints, arc_near.1)) in
    let sum : total ≡ ((f.cost +ℤ b.cost) +ℤ arc) +ℤ pos c.weight_reached-reached.result =
    c.cost_of.ensures ∙ (λ i. ((front i +ℤ rest i) +ℤ over i) +ℤ pos c.weight_reached-reached.result) in
    let told = wide_is total (omega (arith, ints, sum, front_near.0, rest_near.0, arc_near.0), omega (arith, ints, sum, front_near.1, rest_near.1, arc_near.1, light)) in
    let named : total ≡ join_cost S f c.args.arc b =
    sum ∙ (λ i. ((f.cost +ℤ b.cost) +ℤ c.arc_cost.ensures.cost i) +ℤ c.weight_reached-reached.ensures.weight i) in
    record {
      joins = record {
        there = c.requires.arc;
        leaves = c.requires.tail;
        enters = c.requires.head;
        open_arc = c.requires.open_arc;
        values = subst (λ (g : GraphParts). Join g f.values c.args.arc b.values) c.requires.graph (c.joins.ensures.joins.0 c.if-not-joins.false);
        memories = c.are_disjoint.ensures.0 c.if-not-are_disjoint.false;
      };
      same = sym (told ∙ named);
    }
