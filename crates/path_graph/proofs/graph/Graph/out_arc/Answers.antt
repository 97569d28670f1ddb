use Rattle.std.proofs.Common.{◌≡◌, ◌<◌, ℕ, ◌∙◌, List, length, arith, subst, sym, ap}
use Rattle.std.specs.Prelude.{slice_index}
use Rattle.path_graph.specs.Parts.{GraphParts, arc_at, arcs_from}
use Rattle.path_graph.specs.Index.{IsIndexed}
use Rattle.path_graph.proofs.IndexLemmas.{index_size, index_at, from_at}
use Rattle.path_graph.proofs.graph.Graph.out_arc.Goals as goal

pub at-requires : goal.at-requires
at-requires c =
    let g = c.args.self.now in
    let h = subst (λ (g : GraphParts). IsIndexed g c.self.inside.from c.self.inside.into c.self.inside.ranks) c.self.view_is c.self.invariant in
    omega (arith, index_size (arcs_from g.arcs) c.self.inside.from (length g.vertices) h.from_each, c.requires.vertex)

pub at-requires-2 : goal.at-requires-2
at-requires-2 c =
    let g = c.args.self.now in
    let h = subst (λ (g : GraphParts). IsIndexed g c.self.inside.from c.self.inside.into c.self.inside.ranks) c.self.view_is c.self.invariant in
    let e = index_at (arcs_from g.arcs) c.self.inside.from (length g.vertices) c.args.v c.at.result.now h.from_each c.requires.vertex c.at.ensures in
    omega (arith, ap (λ (xs : List ℕ). length xs) e, c.requires.place)

pub returns-clause-arc : goal.returns-clause-arc
returns-clause-arc c =
    let g = c.args.self.now in
    let h = subst (λ (g : GraphParts). IsIndexed g c.self.inside.from c.self.inside.into c.self.inside.ranks) c.self.view_is c.self.invariant in
    let e = index_at (arcs_from g.arcs) c.self.inside.from (length g.vertices) c.args.v c.at.result.now h.from_each c.requires.vertex c.at.ensures in
    sym (c.at-2.ensures 0) ∙ ap (λ (xs : List ℕ). slice_index xs c.args.k) e

pub returns-clause-there : goal.returns-clause-there
returns-clause-there c =
    let g = c.args.self.now in
    let h = subst (λ (g : GraphParts). IsIndexed g c.self.inside.from c.self.inside.into c.self.inside.ranks) c.self.view_is c.self.invariant in
    let e = index_at (arcs_from g.arcs) c.self.inside.from (length g.vertices) c.args.v c.at.result.now h.from_each c.requires.vertex c.at.ensures in
    let is = sym (c.at-2.ensures 0) ∙ ap (λ (xs : List ℕ). slice_index xs c.args.k) e in
    subst (λ (x : ℕ). x < length g.arcs) (sym is) (from_at g.arcs c.args.v c.args.k c.requires.place).0

pub returns-clause-tail : goal.returns-clause-tail
returns-clause-tail c =
    let g = c.args.self.now in
    let h = subst (λ (g : GraphParts). IsIndexed g c.self.inside.from c.self.inside.into c.self.inside.ranks) c.self.view_is c.self.invariant in
    let e = index_at (arcs_from g.arcs) c.self.inside.from (length g.vertices) c.args.v c.at.result.now h.from_each c.requires.vertex c.at.ensures in
    let is = sym (c.at-2.ensures 0) ∙ ap (λ (xs : List ℕ). slice_index xs c.args.k) e in
    subst (λ (x : ℕ). (arc_at g.arcs x).tail ≡ c.args.v) (sym is) (from_at g.arcs c.args.v c.args.k c.requires.place).1
