use Rattle.std.proofs.Common.{Bool, subst, sym}
use Rattle.pricing.specs.Outcomes.{IsOneOutcome}
use Rattle.route_labels.specs.Meaning.{setting_of}
use Rattle.label_rules.specs.Labels.{Forward}
use Rattle.pricing.proofs.TableLemmas.{wall_is}
use Rattle.pricing.proofs.graph_table.table_of.Goals as goal

pub returns-in-Wall-clause-outcome : goal.returns-in-Wall-clause-outcome
returns-in-Wall-clause-outcome c = wall_is Forward (setting_of c.args.field) c.args.limit c.in-Wall.made.cells c.in-Wall.ensures.sound c.in-Wall.ensures.different c.in-Wall.ensures.wall

pub returns-else-both : goal.returns-else-both
returns-else-both c = record {
  outcome = subst (λ (both : Bool). IsOneOutcome (setting_of c.args.field) c.args.field.graph both c.args.limit c.table_alone.result) (sym c.if-both.false) (c.table_alone.ensures.outcome c.args.limit);
  told = c.table_alone.ensures.told c.args.limit c.in-Closed.ensures.few;
}
