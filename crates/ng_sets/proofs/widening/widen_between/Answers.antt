use Rattle.std.proofs.Common.{◌≡◌, ℕ, ◌+◌, ◌∙◌, Bool, true, false, not, length, refl, sym, ap, subst, arith}
use Rattle.path_graph.specs.SetBits.{has_set, IsWith}
use Rattle.ng_sets.specs.Near.{near_at, KeepsOthers}
use Rattle.ng_sets.specs.Widening.{has_grown}
use Rattle.ng_sets.proofs.WideningLemmas.{AreWidening, at_most_all, count_more, count_same, none_grown, vertex_there, widening_next, widening_starts}
use Rattle.ng_sets.proofs.widening.widen_between.Goals as goal
use Rattle.ng_sets.proofs.widening.widen_between.Goals.{then-put_near, else-put_near}

not_true : (b : Bool) → not b ≡ true → b ≡ false
not_true true e = sym e
not_true false e = refl

not_false : (b : Bool) → not b ≡ false → b ≡ true
not_false true e = refl
not_false false e = sym e

pub loop-m-init : goal.loop-m-init
loop-m-init c = record {
  past = omega arith;
  lists = widening_starts c.args.graph.now c.args.g c.args.arcs.now c.args.from c.args.found.set c.args.near.now;
  grown = none_grown (length c.args.graph.now.vertices) c.args.near.now c.args.g c.args.found.set;
}

pub put_near-requires-clause-vertex : goal.put_near-requires-clause-vertex
put_near-requires-clause-vertex c =
    vertex_there c.args.graph.now c.args.near.now c.loop-m.near c.args.g c.vertex_of.result c.requires.lists c.loop-m.invariant.lists.lists.shape c.vertex_of.ensures.inside

pub overflow_add-grown : goal.overflow_add-grown
overflow_add-grown c =
    let graph = c.args.graph.now in
    let n = length graph.vertices in
    let lacks = not_true (has_set (near_at c.loop-m.near c.args.g c.vertex_of.result) c.args.found.set) (sym c.put_near.ensures.grew ∙ c.if-put_near.true) in
    let more = count_more graph c.args.g c.args.arcs.now c.args.from c.loop-m.m c.args.found.set c.vertex_of.result c.args.near.now c.loop-m.near c.put_near.new.near
    c.loop-m.invariant.lists c.put_near.ensures.near c.put_near.ensures.others c.vertex_of.ensures.inside lacks in
    let most = at_most_all n (has_grown c.args.near.now c.put_near.new.near c.args.g c.args.found.set) in
    omega (arith, c.loop-m.invariant.grown, more, most, c.vertex_of.ensures.graph.fits.few_vertices)

pub loop-m-preserved : goal.loop-m-preserved
loop-m-preserved c =
    let graph = c.args.graph.now in
    let n = length graph.vertices in
    let old = c.args.near.now in
    let mid = c.loop-m.near in
    let new = c.put_near.new.near in
    let g = c.args.g in
    let s = c.args.found.set in
    let v = c.vertex_of.result in
    record {
      past = omega (arith, c.loop-m.invariant.past);
      lists = subst (λ (w : ℕ). IsWith (near_at mid g w) s (near_at new g w) → KeepsOthers mid new g w → AreWidening graph g c.args.arcs.now c.args.from (c.loop-m.m + 1) s old new)
          (sym c.vertex_of.ensures.vertex)
          (λ with keeps. widening_next graph g c.args.arcs.now c.args.from c.loop-m.m s old mid new c.loop-m.invariant.past c.loop-m.invariant.lists with keeps c.put_near.ensures.shape)
          c.put_near.ensures.near c.put_near.ensures.others;
      grown = elim c.if-put_near.branch [
        | then-put_near w ↦
            let lacks = not_true (has_set (near_at mid g v) s) (sym c.put_near.ensures.grew ∙ w.if-put_near.true) in
            let more = count_more graph g c.args.arcs.now c.args.from c.loop-m.m s v old mid new
            c.loop-m.invariant.lists c.put_near.ensures.near c.put_near.ensures.others c.vertex_of.ensures.inside lacks in
            w.grown-is ∙ (ap (λ (k : ℕ). k + 1) c.loop-m.invariant.grown ∙ sym more)
        | else-put_near w ↦
            let has = not_false (has_set (near_at mid g v) s) (sym c.put_near.ensures.grew ∙ w.if-put_near.false) in
            w.grown-is ∙ (c.loop-m.invariant.grown ∙ sym (count_same n g s v old mid new c.put_near.ensures.near c.put_near.ensures.others has))
      ];
    }
