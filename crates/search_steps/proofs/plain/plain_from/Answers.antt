use Rattle.std.proofs.Common.{w64}
use Rattle.std.proofs.lemmas.Int.{to_z-of_z}
use Rattle.search_steps.proofs.PlainLemmas.{closed_told, split_told}
use Rattle.search_steps.proofs.plain.plain_from.Goals as goal

pub returns-in-Splits : goal.returns-in-Splits
returns-in-Splits c =
    split_told c.args.model.now c.args.z _ c.args.labels c.args.nodes c.args.made c.args.opened.items c.left.result (to_z-of_z w64 c.args.z c.ranges.z) c.requires.root c.in-Splits.ensures c.left.ensures

pub returns-in-Closes : goal.returns-in-Closes
returns-in-Closes c =
    closed_told c.args.model.now c.args.z _ c.args.labels c.args.nodes c.args.made c.args.opened.items c.one_node.result c.told-in-Closes.result (to_z-of_z w64 c.args.z c.ranges.z) c.requires.some c.requires.root c.in-Closes.ensures
    c.one_node.ensures c.told-in-Closes.ensures
