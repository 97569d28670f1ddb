use Rattle.std.proofs.Common.{w64}
use Rattle.std.proofs.lemmas.Int.{to_z-of_z}
use Rattle.search_steps.proofs.StepLemmas.{counts_stepped}
use Rattle.search_steps.proofs.stepping.grow_listed.Goals as goal

pub returns : goal.returns
returns c labels =
    counts_stepped c.args.model.now c.args.listing.now c.args.boxes.now c.args.value _ _ c.args.z labels c.args.budget c.counts_tree.result c.step_told.result
    (to_z-of_z w64 c.args.value c.ranges.value) (to_z-of_z w64 c.args.z c.ranges.z) c.requires.some c.counts_tree.ensures c.step_told.ensures
