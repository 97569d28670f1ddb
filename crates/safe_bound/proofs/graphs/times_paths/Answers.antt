use Rattle.std.proofs.Common.{◌≡◌, ◌^◌, ◌*ℤ◌, ℤ, FitsSigned, to_z, of_z, w64, lit<, ap, ◌∙◌, arith}
use Rattle.std.specs.Int.{w128}
use Rattle.std.proofs.lemmas.Int.{ints, to_z-of_z}
use Rattle.path_graph.proofs.SumLemmas.{product_is}
use Rattle.safe_bound.proofs.graphs.times_paths.Goals as goal

pub returns : goal.returns
returns c =
    let least = c.args.least in
    let paths = c.args.paths in
    let near = c.requires.paths in
    let fits : FitsSigned w128 paths = omega (arith, ints, near.0, near.1) in
    let told : c.from.result ≡ paths = c.from.ensures ∙ to_z-of_z w64 paths c.ranges.paths in
    ap (λ (x : ℤ). to_z w128 (of_z w128 (to_z w128 (of_z w128 least) *ℤ to_z w128 (of_z w128 x)))) told
    ∙ product_is w128 (2 ^ 112) 4096 least paths c.ranges.least fits c.requires.least near (lit< tt)
