use Rattle.search_rules.proofs.ListLemmas.{list_wall_cuts_off, list_wall_passes}
use Rattle.search_rules.proofs.TableLemmas.{table_wall_passes}
use Rattle.search_rules.proofs.laws.walls_pass_limits.Goals as goal

pub returns-clause-table : goal.returns-clause-table
returns-clause-table c = table_wall_passes

pub returns-clause-list : goal.returns-clause-list
returns-clause-list c = list_wall_passes

pub returns-clause-cut_off : goal.returns-clause-cut_off
returns-clause-cut_off c = list_wall_cuts_off
