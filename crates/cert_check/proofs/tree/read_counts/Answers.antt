use Rattle.std.proofs.Common.{ℤ, w64, ap, subst, sym, ◌∙◌, rules}
use Rattle.std.proofs.lemmas.Int.{to_z-of_z}
use Rattle.certificate.specs.declared.cert.NodeForm.{NodeForm}
use Rattle.certificate.specs.declared.cert.NodeForm.TheVariants as node
use Rattle.cert_check.specs.declared.stack.Open.TheVariants.{Counts}
use Rattle.cert_check.specs.Reads.{ReadsOn}
use Rattle.cert_check.proofs.tree.read_counts.Goals as goal

pub returns-in-CountSplit : goal.returns-in-CountSplit
returns-in-CountSplit c =
    let at = c.in-CountSplit.at in
    let form = ap (λ (d : ℤ). node.CountSplit c.in-CountSplit.walk d) (to_z-of_z w64 at (search rules)) ∙ sym c.in-CountSplit.is in
    subst (λ (f : NodeForm). ReadsOn c.args.model.now c.args.z c.args.tree.now Counts f c.read_count_split.new.tree c.read_count_split.result) form (c.read_count_split.ensures c.args.z)
