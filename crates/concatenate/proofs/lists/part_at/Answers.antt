use Rattle.concatenate.proofs.ListLemmas.{in_part}
use Rattle.concatenate.proofs.lists.part_at.Goals as goal

pub returns-clause-all : goal.returns-clause-all
returns-clause-all c =
    in_part c.args.labels.now c.first_at-first.result c.end_at-end.result c.args.vertex c.end_at-end.ensures.within c.first_at-first.ensures.before c.end_at-end.ensures.behind
