use Rattle.std.proofs.Common.{lit<}
use Rattle.std.specs.Int.{w64}
use Rattle.path_graph.proofs.SumLemmas.{product_is}
use Rattle.route_model.proofs.arithmetic.product.Goals as goal

pub returns : goal.returns
returns c = product_is w64 1000000000 1000000 c.args.factor c.args.value c.ranges.factor c.ranges.value c.requires.factor c.requires.value (lit< tt)
