use Rattle.std.proofs.Common.{sym}
use Rattle.std.specs.Int.{w128}
use Rattle.std.proofs.lemmas.Int.{to_z-of_z}
use Rattle.route_labels.specs.Meaning.{setting_of}
use Rattle.proof_check.specs.Checked.{setting_in, table_in}
use Rattle.proof_check.proofs.JoinLemmas.{moved_above}
use Rattle.proof_check.proofs.fix.is_above.Goals as goal

pub returns : goal.returns
returns c =
    let at = c.args.at.now in
    let S = setting_of c.field.result in
    let T = setting_in at c.args.g in
    let xs = (table_in at c.args.g).fore in
    let ys = (table_in at c.args.g).back in
    let read = to_z-of_z w128 c.args.limit c.ranges.limit in (
      λ h. moved_above S T c.fore_labels.result.now c.back_labels.result.now xs ys _ c.args.limit c.args.a c.field.ensures.setting c.fore_labels.ensures.labels c.back_labels.ensures.labels read
          (c.all_joins_above.ensures.0 h),
      λ h. c.all_joins_above.ensures.1 (moved_above T S xs ys c.fore_labels.result.now c.back_labels.result.now c.args.limit _ c.args.a
          (sym c.field.ensures.setting) (sym c.fore_labels.ensures.labels) (sym c.back_labels.ensures.labels) (sym read) h),
    )
