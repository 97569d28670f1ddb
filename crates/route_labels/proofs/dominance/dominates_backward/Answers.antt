use Rattle.std.proofs.Common.{refl, arith}
use Rattle.std.proofs.lemmas.Bool.{false≢true}
use Rattle.std.proofs.lemmas.Int.{ints}
use Rattle.label_rules.specs.Labels.{Backward}
use Rattle.route_labels.specs.Meaning.{setting_of}
use Rattle.route_labels.proofs.DominanceLemmas.{costs_of, cost_from, costs_least}
use Rattle.route_labels.proofs.dominance.dominates_backward.Goals as goal
use Rattle.route_labels.proofs.dominance.dominates_backward.Goals.{then-a-b-via-then-a-b, then-a-b-via-else-a-b+then-a-b-2}

pub returns-then-a-b : goal.returns-then-a-b
returns-then-a-b c = (
  λ no. absurd (false≢true no),
  λ d. absurd (elim c.then-a-b.branch [
    | then-a-b-via-then-a-b w ↦ w.if-a-b.true d.vertex
    | then-a-b-via-else-a-b+then-a-b-2 w ↦
        let least = costs_least Backward (setting_of c.args.field.now) c.args.a.now c.args.b.now d in
        omega (arith, ints, least, w.if-a-b-2.true)
  ]),
)

pub returns : goal.returns
returns c = (
  λ yes.
      let costs = c.costs_no_more.ensures.0 yes in
      record {
        vertex = c.if-a-b.false;
        values = c.if-not-are_at_most.ensures.0 refl;
        memory = costs.0;
        cost = cost_from (setting_of c.args.field.now) c.args.a.now c.args.b.now costs;
      },
  λ d. c.costs_no_more.ensures.1 (costs_of Backward (setting_of c.args.field.now) c.args.a.now c.args.b.now d),
)
