use Rattle.std.proofs.Common.{ap, ◌∙◌}
use Rattle.rank1_cuts.specs.Visits.{coef_of}
use Rattle.rank1_cuts.proofs.JoinLemmas.{join_coef}
use Rattle.rank1_cuts.proofs.visits.coef.Goals as goal

pub returns-clause-join : goal.returns-clause-join
returns-clause-join c first rest e = c.rise_count.ensures ∙ (ap (coef_of c.args.cut.now) e ∙ join_coef c.args.cut.now first rest c.requires)
