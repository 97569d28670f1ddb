use Rattle.std.proofs.Common.{ℕ, length, arith, subst, sym, ap}
use Rattle.path_graph.specs.Parts.{GraphParts}
use Rattle.path_graph.specs.Free.{IsRank, rank_of}
use Rattle.path_graph.specs.Index.{IsIndexed}
use Rattle.path_graph.proofs.IndexLemmas.{index_size, index_at, rank_is, rank_below, rank_rises}
use Rattle.path_graph.proofs.graph.Graph.rank.Goals as goal

pub at-requires : goal.at-requires
at-requires c =
    let g = c.args.self.now in
    let h = subst (λ (g : GraphParts). IsIndexed g c.self.inside.from c.self.inside.into c.self.inside.ranks) c.self.view_is c.self.invariant in
    omega (arith, index_size (rank_of g) c.self.inside.ranks (length g.vertices) h.ranked, c.requires)

pub returns-clause-rank : goal.returns-clause-rank
returns-clause-rank c =
    let g = c.args.self.now in
    let h = subst (λ (g : GraphParts). IsIndexed g c.self.inside.from c.self.inside.into c.self.inside.ranks) c.self.view_is c.self.invariant in
    index_at (rank_of g) c.self.inside.ranks (length g.vertices) c.args.v c.at.result.now h.ranked c.requires c.at.ensures

pub returns-clause-longest : goal.returns-clause-longest
returns-clause-longest c =
    let g = c.args.self.now in
    let h = subst (λ (g : GraphParts). IsIndexed g c.self.inside.from c.self.inside.into c.self.inside.ranks) c.self.view_is c.self.invariant in
    let e = index_at (rank_of g) c.self.inside.ranks (length g.vertices) c.args.v c.at.result.now h.ranked c.requires c.at.ensures in
    subst (λ (x : ℕ). IsRank g.arcs c.args.v x) (sym e) (rank_is g c.args.v h.graph c.requires)

pub returns-clause-below : goal.returns-clause-below
returns-clause-below c =
    let g = c.args.self.now in
    let h = subst (λ (g : GraphParts). IsIndexed g c.self.inside.from c.self.inside.into c.self.inside.ranks) c.self.view_is c.self.invariant in
    let e = index_at (rank_of g) c.self.inside.ranks (length g.vertices) c.args.v c.at.result.now h.ranked c.requires c.at.ensures in
    omega (arith, e, rank_below g c.args.v h.graph c.requires)

pub returns-clause-rises : goal.returns-clause-rises
returns-clause-rises c a l f s =
    let g = c.args.self.now in
    let h = subst (λ (g : GraphParts). IsIndexed g c.self.inside.from c.self.inside.into c.self.inside.ranks) c.self.view_is c.self.invariant in
    let e = index_at (rank_of g) c.self.inside.ranks (length g.vertices) c.args.v c.at.result.now h.ranked c.requires c.at.ensures in
    omega (arith, e, rank_rises g a h.graph l f, ap (λ (x : ℕ). rank_of g x) s)
