use Rattle.std.proofs.Common.{ℕ, List, length, arith, subst, ap}
use Rattle.path_graph.specs.Parts.{GraphParts, arcs_from}
use Rattle.path_graph.specs.Index.{IsIndexed}
use Rattle.path_graph.proofs.IndexLemmas.{index_size, index_at, few_from}
use Rattle.path_graph.proofs.graph.Graph.out_count.Goals as goal

pub at-requires : goal.at-requires
at-requires c =
    let g = c.args.self.now in
    let h = subst (λ (g : GraphParts). IsIndexed g c.self.inside.from c.self.inside.into c.self.inside.ranks) c.self.view_is c.self.invariant in
    omega (arith, index_size (arcs_from g.arcs) c.self.inside.from (length g.vertices) h.from_each, c.requires)

pub overflow_cast-result : goal.overflow_cast-result
overflow_cast-result c =
    let g = c.args.self.now in
    let h = subst (λ (g : GraphParts). IsIndexed g c.self.inside.from c.self.inside.into c.self.inside.ranks) c.self.view_is c.self.invariant in
    let e = index_at (arcs_from g.arcs) c.self.inside.from (length g.vertices) c.args.v c.at.result.now h.from_each c.requires c.at.ensures in
    omega (arith, c.len.ensures, ap (λ (xs : List ℕ). length xs) e, few_from g.arcs c.args.v, h.graph.fits.few_arcs)

pub returns : goal.returns
returns c =
    let g = c.args.self.now in
    let h = subst (λ (g : GraphParts). IsIndexed g c.self.inside.from c.self.inside.into c.self.inside.ranks) c.self.view_is c.self.invariant in
    let e = index_at (arcs_from g.arcs) c.self.inside.from (length g.vertices) c.args.v c.at.result.now h.from_each c.requires c.at.ensures in
    omega (arith, c.len.ensures, ap (λ (xs : List ℕ). length xs) e)
