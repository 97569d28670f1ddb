use Rattle.std.proofs.Common.{Some, to_z, of_z, w32}
use Rattle.route_labels.specs.Meaning.{setting_of}
use Rattle.label_rules.specs.Labels.{Backward}
use Rattle.pricing.proofs.TableLemmas.{half_wall_is}
use Rattle.pricing.proofs.half_table.half_with_rests.Goals as goal

pub returns-in-Wall : goal.returns-in-Wall
returns-in-Wall c = half_wall_is Backward (setting_of c.args.field) (Some (to_z w32 (of_z w32 c.args.threshold))) c.args.limit c.in-Wall.back.cells c.in-Wall.ensures.sound c.in-Wall.ensures.different c.in-Wall.ensures.wall

pub returns-in-Closed : goal.returns-in-Closed
returns-in-Closed c = c.paired.ensures c.args.limit
