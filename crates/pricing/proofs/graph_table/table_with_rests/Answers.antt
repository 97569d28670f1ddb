use Rattle.route_labels.specs.Meaning.{setting_of}
use Rattle.label_rules.specs.Labels.{Backward}
use Rattle.pricing.proofs.TableLemmas.{wall_is}
use Rattle.pricing.proofs.graph_table.table_with_rests.Goals as goal

pub returns-in-Wall-clause-outcome : goal.returns-in-Wall-clause-outcome
returns-in-Wall-clause-outcome c = wall_is Backward (setting_of c.args.field) c.args.limit c.in-Wall.rests.cells c.in-Wall.ensures.sound c.in-Wall.ensures.different c.in-Wall.ensures.wall

pub returns-in-Closed : goal.returns-in-Closed
returns-in-Closed c = record {
  outcome = c.table_of_both.ensures.outcome c.args.limit;
  told = c.table_of_both.ensures.told c.args.limit c.requires.few c.in-Closed.ensures.few;
}
