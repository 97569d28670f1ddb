use Rattle.search_tree.proofs.SearchLaws.{ended_search, search_bound, stopped_search}
use Rattle.search_tree.proofs.laws.searches_are_walls.Goals as goal

pub returns-clause-ended : goal.returns-clause-ended
returns-clause-ended c = ended_search

pub returns-clause-stopped : goal.returns-clause-stopped
returns-clause-stopped c = stopped_search

pub returns-clause-bound : goal.returns-clause-bound
returns-clause-bound c = search_bound
