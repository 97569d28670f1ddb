use Rattle.std.proofs.Common.{Some, to_z, of_z, w32}
use Rattle.route_labels.specs.Meaning.{setting_of}
use Rattle.label_rules.specs.Labels.{Forward}
use Rattle.pricing.proofs.TableLemmas.{half_wall_is}
use Rattle.pricing.proofs.half_table.half_of.Goals as goal

pub returns-in-Wall : goal.returns-in-Wall
returns-in-Wall c = half_wall_is Forward (setting_of c.args.field) (Some (to_z w32 (of_z w32 c.threshold_of-threshold.result))) c.args.limit c.in-Wall.fore.cells c.in-Wall.ensures.sound c.in-Wall.ensures.different c.in-Wall.ensures.wall
