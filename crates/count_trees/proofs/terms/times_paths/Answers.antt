use Rattle.std.proofs.Common.{◌≡◌, ◌^◌, ◌*ℤ◌, ℤ, FitsSigned, to_z, of_z, w64, lit<, ap, ◌∙◌, arith}
use Rattle.std.specs.Int.{w128}
use Rattle.std.proofs.lemmas.Int.{ints, to_z-of_z}
use Rattle.path_graph.proofs.SumLemmas.{product_is}
use Rattle.count_trees.proofs.terms.times_paths.Goals as goal

pub returns : goal.returns
returns c =
    let cost = c.args.cost in
    let paths = c.args.paths in
    let near = c.requires.paths in
    let fits : FitsSigned w128 paths = omega (arith, ints, near.0, near.1) in
    let told : c.from.result ≡ paths = c.from.ensures ∙ to_z-of_z w64 paths c.ranges.paths in
    ap (λ (x : ℤ). to_z w128 (of_z w128 (to_z w128 (of_z w128 cost) *ℤ to_z w128 (of_z w128 x)))) told
    ∙ product_is w128 (2 ^ 88) 4096 cost paths c.ranges.cost fits c.requires.cost near (lit< tt)
