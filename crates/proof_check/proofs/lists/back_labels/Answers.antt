use Rattle.std.proofs.Common.{List, All, sym, ◌∙◌, ap, subst}
use Rattle.label_rules.specs.declared.label.Label.{Label}
use Rattle.concatenate.specs.Fit.{MayJoin}
use Rattle.proof_rules.specs.Proofs.{Table}
use Rattle.proof_check.specs.Checked.{setting_in}
use Rattle.proof_check.proofs.JoinLemmas.{back_may}
use Rattle.proof_check.proofs.lists.back_labels.Goals as goal

pub returns-clause-labels : goal.returns-clause-labels
returns-clause-labels c = c.as_slice.ensures ∙ ap (λ (t : Table). t.back) c.table.ensures.table

pub returns-clause-join : goal.returns-clause-join
returns-clause-join c =
    subst (λ (labels : List Label). All (MayJoin (setting_in c.args.at.now c.args.g)) labels) (sym (returns-clause-labels c))
    (back_may c.args.at.now c.args.g c.requires.proved c.requires.both c.requires.graph)
