use Rattle.list_check.proofs.LineLemmas.{line_put}
use Rattle.list_check.proofs.lines.put_line.Goals as goal

pub returns-clause-has : goal.returns-clause-has
returns-clause-has c = λ p a. line_put c.args.lines.now c.insert.new.self c.args.parent c.args.arc p a (c.in_ok-insert.ensures.updates.0 (p, a))
