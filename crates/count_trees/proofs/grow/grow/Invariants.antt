use Rattle.std.proofs.Common.{◌≡◌, length}
use Rattle.count_trees.specs.Growth.{IsGrown}
use Rattle.count_trees.specs.Rounds.{walks_in}
use Rattle.count_trees.proofs.grow.grow.Given as goal

abbrev pub invariant-loop-made : goal.invariant-loop-made
invariant-loop-made l = record {
  grown : IsGrown l.task.model.now l.task.spot.now (walks_in l.task) l.fn.boxes l.fn.z l.growth.nodes l.growth.rest l.growth.z l.growth.best;
  count : length l.growth.nodes ≡ l.made;
}
