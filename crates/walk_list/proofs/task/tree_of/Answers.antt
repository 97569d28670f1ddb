use Rattle.std.proofs.Common.{List, All, sym, ◌∙◌, ap, subst, arith}
use Rattle.safe_bound.specs.Promise.{LeastsFit}
use Rattle.label_rules.specs.declared.label.Label.{Label}
use Rattle.label_rules.specs.declared.table.ProofTable.{ProofTable}
use Rattle.concatenate.specs.Fit.{MayJoin}
use Rattle.route_labels.specs.declared.field.Field.{Field}
use Rattle.route_labels.specs.Meaning.{setting_of}
use Rattle.walk_list.specs.Tasks.{setting_in}
use Rattle.walk_list.proofs.TaskLemmas.{back_read, leasts_fit, rests_may}
use Rattle.walk_list.proofs.task.tree_of.Goals as goal

pub walk_limit-limit-requires-clause-leasts : goal.walk_limit-limit-requires-clause-leasts
walk_limit-limit-requires-clause-leasts c =
    let t = c.args.task.now in
    subst (LeastsFit t.spot.now.boxes.paths) (sym c.requires.leasts) (leasts_fit t c.requires.task)

pub grow_tree-requires-clause-back : goal.grow_tree-requires-clause-back
grow_tree-requires-clause-back c =
    let t = c.args.task.now in
    let back = back_read t c.args.graph c.index-task-graph.result c.index-task-graph.is (omega (arith, c.requires.graph, c.requires.task.count)) ∙ (ap (λ (x : ProofTable). x.back) c.index-task-graph.is ∙ sym c.as_slice-back.ensures) in
    subst (λ (f : Field). All (MayJoin (setting_of f)) c.as_slice-back.result.now) (sym c.field_of-field.ensures.field)
    (subst (λ (xs : List Label). All (MayJoin (setting_in t c.args.graph)) xs) back (rests_may t c.args.graph c.requires.task c.requires.graph))
