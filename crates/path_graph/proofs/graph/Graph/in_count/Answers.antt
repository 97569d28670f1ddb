use Rattle.std.proofs.Common.{ℕ, List, length, arith, subst, ap}
use Rattle.path_graph.specs.Parts.{GraphParts, arcs_into}
use Rattle.path_graph.specs.Index.{IsIndexed}
use Rattle.path_graph.proofs.IndexLemmas.{index_size, index_at, few_into}
use Rattle.path_graph.proofs.graph.Graph.in_count.Goals as goal

pub at-requires : goal.at-requires
at-requires c =
    let g = c.args.self.now in
    let h = subst (λ (g : GraphParts). IsIndexed g c.self.inside.from c.self.inside.into c.self.inside.ranks) c.self.view_is c.self.invariant in
    omega (arith, index_size (arcs_into g.arcs) c.self.inside.into (length g.vertices) h.into_each, c.requires)

pub overflow_cast-result : goal.overflow_cast-result
overflow_cast-result c =
    let g = c.args.self.now in
    let h = subst (λ (g : GraphParts). IsIndexed g c.self.inside.from c.self.inside.into c.self.inside.ranks) c.self.view_is c.self.invariant in
    let e = index_at (arcs_into g.arcs) c.self.inside.into (length g.vertices) c.args.v c.at.result.now h.into_each c.requires c.at.ensures in
    omega (arith, c.len.ensures, ap (λ (xs : List ℕ). length xs) e, few_into g.arcs c.args.v, h.graph.fits.few_arcs)

pub returns : goal.returns
returns c =
    let g = c.args.self.now in
    let h = subst (λ (g : GraphParts). IsIndexed g c.self.inside.from c.self.inside.into c.self.inside.ranks) c.self.view_is c.self.invariant in
    let e = index_at (arcs_into g.arcs) c.self.inside.into (length g.vertices) c.args.v c.at.result.now h.into_each c.requires c.at.ensures in
    omega (arith, c.len.ensures, ap (λ (xs : List ℕ). length xs) e)
