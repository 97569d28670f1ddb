use Rattle.std.proofs.Common.{sym, subst}
use Rattle.label_core.specs.Rule.{IsRuled}
use Rattle.label_core.proofs.OpeningRule.{opening_is_ruled}
use Rattle.label_core.proofs.beginning.open_core.Goals as goal

pub returns-clause-rule : goal.returns-clause-rule
returns-clause-rule g c =
    let r = g.S.Space.rules c.args.space.now in
    subst (λ core. IsRuled r core) (sym c.in_ok-core.ensures)
    (opening_is_ruled r (g.met.S.Space.lawful c.args.space.now) c.args.limit c.args.passes c.requires.limit c.requires.passes)
