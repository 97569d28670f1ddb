use Rattle.std.proofs.Common.{sym, ◌∙◌}
use Rattle.route_labels.proofs.TestLemmas.{same_parts}
use Rattle.route_labels.proofs.backward.BackwardSpace.same.Goals as goal

pub returns : goal.returns
returns c =
    let both = same_parts c.args.a.now c.args.b.now in
    (λ h. both.0 (sym c.eq.ensures ∙ h), λ e. c.eq.ensures ∙ both.1 e)
