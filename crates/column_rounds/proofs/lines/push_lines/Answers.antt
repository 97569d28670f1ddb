use Rattle.std.proofs.Common.{◌≡◌, ℕ, ◌+◌, ◌<◌, List, [], length, refl, sym, ◌∙◌, ap, subst, inl, inr, arith}
use Rattle.std.proofs.lemmas.List.{get_or-map, length-map}
use Rattle.path_graph.specs.declared.set_bits.SetBits.{SetBits}
use Rattle.path_graph.specs.Walk.{GraphParts}
use Rattle.route_model.specs.Parts.{ModelParts, graph_in}
use Rattle.certificate.specs.Sizes.{graph_at, graph_sizes, sizes_of}
use Rattle.column_rounds.specs.Lines.{AreLinesBefore}
use Rattle.column_rounds.proofs.LineLemmas.{line_more, line_none, sets_fit}
use Rattle.column_rounds.proofs.WalkLemmas.{vertex_listed}
use Rattle.column_rounds.proofs.lines.push_lines.Goals as goal

pub at-requires-in-loop-v : goal.at-requires-in-loop-v
at-requires-in-loop-v c =
    let m = c.args.model.now in
    let is : graph_in m.graphs c.args.g ≡ c.at.result.now = ap (λ (x : ModelParts). graph_in x.graphs c.args.g) (sym c.model.view_is) ∙ c.at.ensures (graph_in [] 0) in
    vertex_listed c.args.near.now c.args.near.now m.graphs c.args.g c.loop-v.v c.at.result.now c.requires.near refl c.requires.graph is
    (omega (arith, c.loop-v-test.true, c.vertex_count-v-end.ensures.count))

pub loop-v-preserved : goal.loop-v-preserved
loop-v-preserved c =
    let m = c.args.model.now in
    let g = c.args.g in
    let v = c.loop-v.v in
    let s = sizes_of m in
    let is : graph_in m.graphs g ≡ c.at.result.now = ap (λ (x : ModelParts). graph_in x.graphs g) (sym c.model.view_is) ∙ c.at.ensures (graph_in [] 0) in
    let graph : g < length s.graphs = omega (arith, c.requires.graph, length-map m.graphs graph_sizes) in
    let size : (graph_at s g).vertices ≡ length (graph_in m.graphs g).vertices =
    ap (λ (x : _). x.vertices) (get_or-map graph_sizes m.graphs g (graph_in [] 0) _ c.requires.graph) in
    let vertex : v < (graph_at s g).vertices = omega (arith, c.loop-v-test.true, c.vertex_count-v-end.ensures.count, size, ap (λ (x : GraphParts). length x.vertices) is) in
    let fit = sets_fit m.sets c.at-in-loop-v.result c.args.known.now c.meet.result c.requires.known c.meet.ensures.members c.meet.ensures.whole in
    elim c.in_ok-push_line.ensures [
      | inl same ↦ subst (λ (lines : List (ℕ × ℕ × SetBits)). AreLinesBefore s lines g (v + 1)) (sym same) (line_none s c.loop-v.lines g v c.loop-v.invariant)
      | inr more ↦ subst (λ (lines : List (ℕ × ℕ × SetBits)). AreLinesBefore s lines g (v + 1)) (sym more) (line_more s c.loop-v.lines g v c.meet.result c.loop-v.invariant graph vertex fit)
    ]
