-- Lemmas on rests and their backward values, up to the law of joins.
use Rattle.std.proofs.Common.{◌≡◌, ◌↔◌, ℕ, ◌<◌, ℤ, ◌≤ℤ◌, ◌+ℤ◌, ◌-ℤ◌, List, [], ◌∷◌, ◌++◌, length, map, sym, ◌∙◌, ap, subst, refl, arith}
use Rattle.std.proofs.lemmas.Int.{ints, clamps}
use Rattle.std.specs.Int.{int_min, int_max}
use Rattle.path_graph.specs.declared.parts.Window.{Window}
use Rattle.path_graph.specs.declared.parts.Vertex.{Vertex}
use Rattle.path_graph.specs.declared.parts.GraphArc.{GraphArc}
use Rattle.path_graph.specs.declared.parts.Values.{Values}
use Rattle.path_graph.specs.Fit.{int_at, window_at, vertex_at, VertexFits}
use Rattle.path_graph.specs.Walk.{GraphParts, IsGraph, arc_at, positions, Leads, Passes, Takes, over_of, root_of, IsFeasibleWalk, values_at_end}
use Rattle.path_graph.specs.Rest.{end_of, moved_back, back_of, AreAbove, TakesBack, HasBackward, IsPartial, IsRest, HasNoBackward, Join}
use Rattle.path_graph.specs.Within.{AreWithin}
use Rattle.path_graph.proofs.WalkLemmas.{at_each, windows_small, moved_is_within, leads_join, leads_split, passes_join, passes_split, pair_same}

abbrev pub high_ends_of : Vertex → Values
high_ends_of v = record { at = map (λ k. (window_at v.windows k).high) positions }

pub end_is_within : (g : GraphParts) → IsGraph g → AreWithin (vertex_at g.vertices g.ends.sink).windows (end_of g)
end_is_within g graph =
    let vertex = vertex_at g.vertices g.ends.sink in
    let fits : VertexFits g.ends vertex = graph.fits.each_vertex g.ends.sink _ graph.fits.ends_fit.sink in
    let small = λ (k : ℕ). windows_small g.ends vertex.windows k fits.windows in
    at_each _ ((small 0).2, omega (arith, ints)) ((small 1).2, omega (arith, ints)) ((small 2).2, omega (arith, ints)) ((small 3).2, omega (arith, ints)) ((small 4).2, omega (arith, ints)) ((small 5).2, omega (arith, ints))

-- the lesser of two is no greater than the first
min_below : (x y : ℤ) → (int_min x y) ≤ℤ x
min_below x y = omega (arith, ints, clamps)

pub back_is_within : (values needs : List ℤ) (ws : List Window) → AreAbove (moved_back values needs ws) ws → AreWithin ws (record { at = moved_back values needs ws })
back_is_within values needs ws above =
    let below = λ (k : ℕ). min_below (window_at ws k).high (int_at values k -ℤ int_at needs k) in
    at_each _ (above 0 (omega arith), below 0) (above 1 (omega arith), below 1) (above 2 (omega arith), below 2) (above 3 (omega arith), below 3) (above 4 (omega arith), below 4) (above 5 (omega arith), below 5)

-- values at most others, resource by resource
abbrev pub AreAtMost : Values → Values → Type 0
AreAtMost s b = (k : ℕ) → k < 6 → (int_at s.at k) ≤ℤ (int_at b.at k)

-- the values over an arc are at most others in the window exactly where the values and the needs are
over_at_most : (x q low c : ℤ) → low ≤ℤ c → (((int_max low (x +ℤ q)) ≤ℤ c) ↔ ((x +ℤ q) ≤ℤ c))
over_at_most x q low c l = (λ h. omega (arith, ints, clamps, h), λ h. omega (arith, ints, clamps, h, l))

-- and exactly where the values are at most those back over the arc
back_at_most : (x q high c : ℤ) → x ≤ℤ high → (((x +ℤ q) ≤ℤ c) ↔ (x ≤ℤ (int_min high (c -ℤ q))))
back_at_most x q high c l = (λ h. omega (arith, ints, clamps, h, l), λ h. omega (arith, ints, clamps, h))

-- the same of all resources
over_each : (g : GraphParts) (s c : Values) (a : ℕ) → AreWithin (vertex_at g.vertices (arc_at g.arcs a).tail).windows s → AreWithin (vertex_at g.vertices (arc_at g.arcs a).head).windows c → AreAtMost (over_of g s a) c → AreAtMost s (back_of g c a)
over_each g s c a ws wc h =
    let arc = arc_at g.arcs a in
    let one = λ (k : ℕ) (l : k < 6) (e : (int_max (window_at (vertex_at g.vertices arc.head).windows k).low (int_at s.at k +ℤ int_at arc.needs k)) ≤ℤ (int_at c.at k)).
    (back_at_most (int_at s.at k) (int_at arc.needs k) (window_at (vertex_at g.vertices arc.tail).windows k).high (int_at c.at k) (ws k l).1).0
    ((over_at_most (int_at s.at k) (int_at arc.needs k) (window_at (vertex_at g.vertices arc.head).windows k).low (int_at c.at k) (wc k l).0).0 e) in
    at_each _ (one 0 (omega arith) (h 0 (omega arith))) (one 1 (omega arith) (h 1 (omega arith))) (one 2 (omega arith) (h 2 (omega arith))) (one 3 (omega arith) (h 3 (omega arith))) (one 4 (omega arith) (h 4 (omega arith))) (one 5 (omega arith) (h 5 (omega arith)))

back_each : (g : GraphParts) (s c : Values) (a : ℕ) → AreWithin (vertex_at g.vertices (arc_at g.arcs a).tail).windows s → AreAtMost s (back_of g c a) → Join g s a c
back_each g s c a ws h =
    let arc = arc_at g.arcs a in
    let one = λ (k : ℕ) (l : k < 6) (e : (int_at s.at k) ≤ℤ (int_min (window_at (vertex_at g.vertices arc.tail).windows k).high (int_at c.at k -ℤ int_at arc.needs k))).
    (back_at_most (int_at s.at k) (int_at arc.needs k) (window_at (vertex_at g.vertices arc.tail).windows k).high (int_at c.at k) (ws k l).1).1 e in
    at_each _ (one 0 (omega arith) (h 0 (omega arith))) (one 1 (omega arith) (h 1 (omega arith))) (one 2 (omega arith) (h 2 (omega arith))) (one 3 (omega arith) (h 3 (omega arith))) (one 4 (omega arith) (h 4 (omega arith))) (one 5 (omega arith) (h 5 (omega arith)))

join_over : (g : GraphParts) (s c : Values) (a : ℕ) → AreWithin (vertex_at g.vertices (arc_at g.arcs a).head).windows c → Join g s a c → AreAtMost (over_of g s a) c
join_over g s c a wc h =
    let arc = arc_at g.arcs a in
    let one = λ (k : ℕ) (l : k < 6) (e : (int_at s.at k +ℤ int_at arc.needs k) ≤ℤ (int_at c.at k)).
    (over_at_most (int_at s.at k) (int_at arc.needs k) (window_at (vertex_at g.vertices arc.head).windows k).low (int_at c.at k) (wc k l).0).1 e in
    at_each _ (one 0 (omega arith) (h 0 (omega arith))) (one 1 (omega arith) (h 1 (omega arith))) (one 2 (omega arith) (h 2 (omega arith))) (one 3 (omega arith) (h 3 (omega arith))) (one 4 (omega arith) (h 4 (omega arith))) (one 5 (omega arith) (h 5 (omega arith)))

over_join : (g : GraphParts) (s c : Values) (a : ℕ) → AreWithin (vertex_at g.vertices (arc_at g.arcs a).head).windows c → AreAtMost (over_of g s a) c → Join g s a c
over_join g s c a wc h =
    let arc = arc_at g.arcs a in
    let one = λ (k : ℕ) (l : k < 6) (e : (int_max (window_at (vertex_at g.vertices arc.head).windows k).low (int_at s.at k +ℤ int_at arc.needs k)) ≤ℤ (int_at c.at k)).
    (over_at_most (int_at s.at k) (int_at arc.needs k) (window_at (vertex_at g.vertices arc.head).windows k).low (int_at c.at k) (wc k l).0).0 e in
    at_each _ (one 0 (omega arith) (h 0 (omega arith))) (one 1 (omega arith) (h 1 (omega arith))) (one 2 (omega arith) (h 2 (omega arith))) (one 3 (omega arith) (h 3 (omega arith))) (one 4 (omega arith) (h 4 (omega arith))) (one 5 (omega arith) (h 5 (omega arith)))

pub backward_within : (g : GraphParts) (xs : List ℕ) (v : ℕ) (b : Values) → IsGraph g → Leads g v xs g.ends.sink → HasBackward g xs b → AreWithin (vertex_at g.vertices v).windows b
backward_within g [] v b graph h k =
    subst (λ (w : ℕ). AreWithin (vertex_at g.vertices w).windows b) (sym h)
    (subst (λ (x : Values). AreWithin (vertex_at g.vertices g.ends.sink).windows x) (sym k) (end_is_within g graph))
backward_within g (a ∷ xs) v b graph h k =
    let arc = arc_at g.arcs a in
    subst (λ (w : ℕ). AreWithin (vertex_at g.vertices w).windows b) h.1
    (subst (λ (x : Values). AreWithin (vertex_at g.vertices arc.tail).windows x) (sym k.3) (back_is_within k.0.at arc.needs (vertex_at g.vertices arc.tail).windows k.2))

pub backward_unique : (g : GraphParts) (xs : List ℕ) (b c : Values) → HasBackward g xs b → HasBackward g xs c → b ≡ c
backward_unique g [] b c h k = h ∙ sym k
backward_unique g (a ∷ xs) b c h k = h.3 ∙ (ap (λ (x : Values). back_of g x a) (backward_unique g xs h.0 k.0 h.1 k.1) ∙ sym k.3)

-- values that are not above others in the window are taken by it
takes_at_most : (g : GraphParts) (s c : Values) (a : ℕ) → AreWithin (vertex_at g.vertices (arc_at g.arcs a).head).windows c → AreAtMost (over_of g s a) c → Takes g s a
takes_at_most g s c a wc h k l = omega (arith, ints, h k l, (wc k l).1)

over_within : (g : GraphParts) (s : Values) (a : ℕ) → Takes g s a → AreWithin (vertex_at g.vertices (arc_at g.arcs a).head).windows (over_of g s a)
over_within g s a t = moved_is_within s.at (arc_at g.arcs a).needs (vertex_at g.vertices (arc_at g.arcs a).head).windows t

-- a rest that is feasible from some values has backward values, which are not below them
pub rest_has : (g : GraphParts) (xs : List ℕ) (v : ℕ) (s : Values) → IsGraph g → Leads g v xs g.ends.sink → AreWithin (vertex_at g.vertices v).windows s → Passes g s xs → (b : Values) × HasBackward g xs b × AreAtMost s b
rest_has g [] v s graph h ws p =
    let high = λ (k : ℕ) (l : k < 6). subst (λ (w : ℕ). (int_at s.at k) ≤ℤ (window_at (vertex_at g.vertices w).windows k).high) h (ws k l).1 in
    (end_of g, refl, at_each _ (high 0 (omega arith)) (high 1 (omega arith)) (high 2 (omega arith)) (high 3 (omega arith)) (high 4 (omega arith)) (high 5 (omega arith)))
rest_has g (a ∷ xs) v s graph h ws p =
    let arc = arc_at g.arcs a in
    let here : AreWithin (vertex_at g.vertices arc.tail).windows s = subst (λ (w : ℕ). AreWithin (vertex_at g.vertices w).windows s) (sym h.1) ws in
    let rest = rest_has g xs arc.head (over_of g s a) graph h.2 (over_within g s a p.0) p.1 in
    let most = over_each g s rest.0 a here (backward_within g xs arc.head rest.0 graph h.2 rest.1) rest.2 in
    (back_of g rest.0 a, (rest.0, rest.1, λ k l. omega (arith, ints, most k l, (here k l).0), refl), most)

-- and a rest is feasible from values that are not above its backward ones
pub rest_passes : (g : GraphParts) (xs : List ℕ) (v : ℕ) (s b : Values) → IsGraph g → Leads g v xs g.ends.sink → AreWithin (vertex_at g.vertices v).windows s → HasBackward g xs b → AreAtMost s b → Passes g s xs
rest_passes g [] v s b graph h ws k most = tt
rest_passes g (a ∷ xs) v s b graph h ws k most =
    let arc = arc_at g.arcs a in
    let here : AreWithin (vertex_at g.vertices arc.tail).windows s = subst (λ (w : ℕ). AreWithin (vertex_at g.vertices w).windows s) (sym h.1) ws in
    let next = backward_within g xs arc.head k.0 graph h.2 k.1 in
    let on = join_over g s k.0 a next (back_each g s k.0 a here (subst (λ (x : Values). AreAtMost s x) k.3 most)) in
    let takes = takes_at_most g s k.0 a next on in
    (takes, rest_passes g xs arc.head (over_of g s a) k.0 graph h.2 (over_within g s a takes) k.1 on)

-- a partial walk and a rest join over an arc exactly where the walk through it is feasible
pub join_law : (g : GraphParts) (a : ℕ) (s b : Values) (first rest : List ℕ) → IsGraph g → a < length g.arcs → AreWithin (vertex_at g.vertices (arc_at g.arcs a).tail).windows s → AreWithin (vertex_at g.vertices (arc_at g.arcs a).head).windows b → IsPartial g first (arc_at g.arcs a).tail s → IsRest g rest (arc_at g.arcs a).head b → Join g s a b ↔ IsFeasibleWalk g (first ++ a ∷ rest)
join_law g a s b first rest graph l ws wb p r = (through, joined)
  where
    through : Join g s a b → IsFeasibleWalk g (first ++ a ∷ rest)
    through h =
        let on = join_over g s b a wb h in
        let takes = takes_at_most g s b a wb on in
        let passes = rest_passes g rest (arc_at g.arcs a).head (over_of g s a) b graph r.leads (over_within g s a takes) r.values on in
        record {
          walk = leads_join g g.ends.source first (arc_at g.arcs a).tail (a ∷ rest) g.ends.sink p.leads (l, refl, r.leads);
          passes = passes_join g (root_of g) first (a ∷ rest) p.passes (subst (λ (x : Values). Passes g x (a ∷ rest)) p.values (takes, passes));
        }

    joined : IsFeasibleWalk g (first ++ a ∷ rest) → Join g s a b
    joined h =
        let split = passes_split g (root_of g) first (a ∷ rest) h.passes in
        let passes : Passes g s (a ∷ rest) = subst (λ (x : Values). Passes g x (a ∷ rest)) (sym p.values) split.1 in
        let has = rest_has g rest (arc_at g.arcs a).head (over_of g s a) graph r.leads (over_within g s a passes.0) passes.1 in
        let same = backward_unique g rest has.0 b has.1 r.values in
        over_join g s b a wb (subst (λ (x : Values). AreAtMost (over_of g s a) x) same has.2)

-- a rest without backward values is on no feasible walk
pub joined_alone : (g : GraphParts) (a : ℕ) (first rest : List ℕ) → IsGraph g → HasNoBackward g rest → IsFeasibleWalk g (first ++ a ∷ rest) → ⊥
joined_alone g a first rest graph none h =
    let leads = leads_split g g.ends.source first (a ∷ rest) g.ends.sink h.walk in
    let passes = passes_split g (root_of g) first (a ∷ rest) h.passes in
    let has = rest_has g rest (arc_at g.arcs a).head (over_of g (values_at_end g (root_of g) first) a) graph leads.2.2 (over_within g (values_at_end g (root_of g) first) a passes.1.0) passes.1.1 in
    none has.0 has.1

-- what `before` computes, by the arc and the vertex that it reads
pub before_is : (g : GraphParts) (value : Values) (a : ℕ) (arc : GraphArc) (vertex : Vertex) (next : Values) → arc ≡ arc_at g.arcs a → vertex ≡ vertex_at g.vertices arc.tail → next ≡ record { at = moved_back value.at arc.needs vertex.windows } → (next ≡ back_of g value a) × (vertex ≡ vertex_at g.vertices (arc_at g.arcs a).tail)
before_is g value a arc vertex next p q r =
    let at : vertex ≡ vertex_at g.vertices (arc_at g.arcs a).tail = q ∙ ap (λ (x : GraphArc). vertex_at g.vertices x.tail) p in
    (r ∙ ap (λ (x : GraphArc × Vertex). let n : Values = record { at = moved_back value.at x.0.needs x.1.windows } in n) (pair_same p at), at)

pub takes_back_from : (g : GraphParts) (value : Values) (a : ℕ) (vertex : Vertex) (next : Values) → (next ≡ back_of g value a) × (vertex ≡ vertex_at g.vertices (arc_at g.arcs a).tail) → AreAbove next.at vertex.windows → TakesBack g value a
takes_back_from g value a vertex next e h = subst (λ (v : Vertex). AreAbove (back_of g value a).at v.windows) e.1 (subst (λ (n : Values). AreAbove n.at vertex.windows) e.0 h)

pub takes_back_to : (g : GraphParts) (value : Values) (a : ℕ) (vertex : Vertex) (next : Values) → (next ≡ back_of g value a) × (vertex ≡ vertex_at g.vertices (arc_at g.arcs a).tail) → TakesBack g value a → AreAbove next.at vertex.windows
takes_back_to g value a vertex next e h = subst (λ (n : Values). AreAbove n.at vertex.windows) (sym e.0) (subst (λ (v : Vertex). AreAbove (back_of g value a).at v.windows) (sym e.1) h)
