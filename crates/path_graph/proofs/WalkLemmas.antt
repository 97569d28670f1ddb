use Rattle.std.proofs.Common.{◌≡◌, ℕ, ◌<◌, ◌+◌, inl, inr, ℤ, pos, ◌≤ℤ◌, ◌+ℤ◌, List, [], ◌∷◌, ◌++◌, length, get_or, drop, refl, sym, ◌∙◌, ap, subst, arith, suc, zero, Bool, true, false}
use Rattle.std.proofs.lemmas.Int.{ints, clamps}
use Rattle.std.proofs.lemmas.Bool.{cases_lt}
use Rattle.std.proofs.lemmas.List.{get_or_past, drop_more}
use Rattle.std.specs.Int.{int_max}
use Rattle.path_graph.specs.declared.parts.Window.{Window}
use Rattle.path_graph.specs.declared.parts.Vertex.{Vertex}
use Rattle.path_graph.specs.declared.parts.GraphArc.{GraphArc}
use Rattle.path_graph.specs.declared.parts.Ends.{Ends}
use Rattle.path_graph.specs.declared.parts.Values.{Values}
use Rattle.path_graph.specs.Fit.{int_at, window_at, vertex_at, VertexFits, WindowFits, NeedFits, WindowsFit, is_used_at}
use Rattle.path_graph.specs.Walk.{GraphParts, IsGraph, arc_at, Leads, Passes, Takes, over_of, moved, AreBelow, root_of, values_at_end, IsFeasibleWalk}
use Rattle.path_graph.specs.Within.{AreWithin, IsInLimits, AreInLimits}

-- what holds at each position holds below 6
pub at_each : (P : ℕ → Type 0) → P 0 → P 1 → P 2 → P 3 → P 4 → P 5 → (k : ℕ) → k < 6 → P k
at_each P a b c d e f zero h = a
at_each P a b c d e f (suc zero) h = b
at_each P a b c d e f (suc (suc zero)) h = c
at_each P a b c d e f (suc (suc (suc zero))) h = d
at_each P a b c d e f (suc (suc (suc (suc zero)))) h = e
at_each P a b c d e f (suc (suc (suc (suc (suc zero))))) h = f
at_each P a b c d e f (suc (suc (suc (suc (suc (suc k)))))) h = absurd (omega arith)

-- the walk goes on at a vertex with these values: the whole is feasible where the rest is
pub record StandsAt (g : GraphParts) (v : ℕ) (value : Values) (arcs rest : List ℕ) : Type 0 where
  pub vertex : v < length g.vertices
  pub held : AreWithin (vertex_at g.vertices v).windows value
  pub only : IsFeasibleWalk g arcs → Leads g v rest g.ends.sink × Passes g value rest
  pub whole : Leads g v rest g.ends.sink → Passes g value rest → IsFeasibleWalk g arcs

window_small : (used : Bool) (w : Window) → WindowFits used w → IsInLimits w.low × IsInLimits w.high × (w.low ≤ℤ w.high)
window_small true w h = ((h.0, omega (arith, ints)), (omega (arith, ints), h.2), h.1)
window_small false w h = ((omega (arith, ints), omega (arith, ints)), (omega (arith, ints), omega (arith, ints)), omega (arith, ints))

need_small : (used main : Bool) (q : ℤ) → NeedFits used main q → IsInLimits q
need_small true true q h = (omega (arith, ints), h.1)
need_small true false q h = h
need_small false main q h = (omega (arith, ints), omega (arith, ints))

pub windows_small : (ends : Ends) (ws : List Window) (k : ℕ) → WindowsFit ends ws → IsInLimits (window_at ws k).low × IsInLimits (window_at ws k).high × ((window_at ws k).low ≤ℤ (window_at ws k).high)
windows_small ends ws k h =
    elim (cases_lt k (length ws)) [
      | inl l ↦ window_small (is_used_at ends k) (window_at ws k) (h k l)
      | inr l ↦ let past : window_at ws k ≡ record { low = pos 0; high = pos 0 } = get_or_past ws k (record { low = pos 0; high = pos 0 }) l in
          rw past ((omega (arith, ints), omega (arith, ints)), (omega (arith, ints), omega (arith, ints)), omega (arith, ints))
    ]

pub small_values : (g : GraphParts) (v : ℕ) (value : Values) → IsGraph g → v < length g.vertices → AreWithin (vertex_at g.vertices v).windows value → AreInLimits value.at
small_values g v value fit within held k below =
    let vertex = vertex_at g.vertices v in
    let fits : VertexFits g.ends vertex = fit.fits.each_vertex v _ within in
    let small = windows_small g.ends vertex.windows k fits.windows in
    let at = held k below in
    (omega (arith, ints, small.0.0, small.0.1, small.1.0, small.1.1, at.0, at.1), omega (arith, ints, small.0.0, small.0.1, small.1.0, small.1.1, at.0, at.1))

pub root_is_within : (g : GraphParts) → IsGraph g → AreWithin (vertex_at g.vertices g.ends.source).windows (root_of g)
root_is_within g fit =
    let vertex = vertex_at g.vertices g.ends.source in
    let fits : VertexFits g.ends vertex = fit.fits.each_vertex g.ends.source _ fit.fits.ends_fit.source in
    let small = λ (k : ℕ). windows_small g.ends vertex.windows k fits.windows in
    at_each _ (omega (arith, ints), (small 0).2) (omega (arith, ints), (small 1).2) (omega (arith, ints), (small 2).2) (omega (arith, ints), (small 3).2) (omega (arith, ints), (small 4).2) (omega (arith, ints), (small 5).2)

-- the greater of two is no less than the first
max_above : (x y : ℤ) → x ≤ℤ (int_max x y)
max_above x y = omega (arith, ints, clamps)

pub moved_is_within : (values needs : List ℤ) (ws : List Window) → AreBelow (moved values needs ws) ws → AreWithin ws (record { at = moved values needs ws })
moved_is_within values needs ws below =
    let above = λ (k : ℕ). max_above (window_at ws k).low (int_at values k +ℤ int_at needs k) in
    at_each _ (above 0, below 0 (omega arith)) (above 1, below 1 (omega arith)) (above 2, below 2 (omega arith)) (above 3, below 3 (omega arith)) (above 4, below 4 (omega arith)) (above 5, below 5 (omega arith))

pub pair_same : {A B : Type 0} {a b : A} {c d : B} → a ≡ b → c ≡ d → ◌≡◌ {A = A × B} (a, c) (b, d)
pair_same p q = cc

-- what `after` computes, by the arc and the vertex that it reads
pub next_is : (g : GraphParts) (value : Values) (a : ℕ) (arc : GraphArc) (vertex : Vertex) (next : Values) → arc ≡ arc_at g.arcs a → vertex ≡ vertex_at g.vertices arc.head → next ≡ record { at = moved value.at arc.needs vertex.windows } → (next ≡ over_of g value a) × (vertex ≡ vertex_at g.vertices (arc_at g.arcs a).head)
next_is g value a arc vertex next p q r =
    let at : vertex ≡ vertex_at g.vertices (arc_at g.arcs a).head = q ∙ ap (λ (x : GraphArc). vertex_at g.vertices x.head) p in
    (r ∙ ap (λ (x : GraphArc × Vertex). let n : Values = record { at = moved value.at x.0.needs x.1.windows } in n) (pair_same p at), at)

pub takes_from : (g : GraphParts) (value : Values) (a : ℕ) (vertex : Vertex) (next : Values) → (next ≡ over_of g value a) × (vertex ≡ vertex_at g.vertices (arc_at g.arcs a).head) → AreBelow next.at vertex.windows → Takes g value a
takes_from g value a vertex next e h = subst (λ (v : Vertex). AreBelow (over_of g value a).at v.windows) e.1 (subst (λ (n : Values). AreBelow n.at vertex.windows) e.0 h)

pub takes_to : (g : GraphParts) (value : Values) (a : ℕ) (vertex : Vertex) (next : Values) → (next ≡ over_of g value a) × (vertex ≡ vertex_at g.vertices (arc_at g.arcs a).head) → Takes g value a → AreBelow next.at vertex.windows
takes_to g value a vertex next e h = subst (λ (n : Values). AreBelow n.at vertex.windows) (sym e.0) (subst (λ (v : Vertex). AreBelow (over_of g value a).at v.windows) (sym e.1) h)

stands_step : (g : GraphParts) (v : ℕ) (value : Values) (arcs : List ℕ) (a : ℕ) (rest : List ℕ) → IsGraph g → StandsAt g v value arcs (a ∷ rest) → a < length g.arcs → (arc_at g.arcs a).tail ≡ v → Takes g value a → AreWithin (vertex_at g.vertices (arc_at g.arcs a).head).windows (over_of g value a) → StandsAt g (arc_at g.arcs a).head (over_of g value a) arcs rest
stands_step g v value arcs a rest fit h below tail takes held = record {
  vertex = (fit.fits.each_arc a _ below).head;
  held = held;
  only = λ w. ((h.only w).0.2, (h.only w).1.1);
  whole = λ walk passes. h.whole (below, tail, walk) (takes, passes);
}

-- one arc further
pub stands_next : (g : GraphParts) (v : ℕ) (value : Values) (arcs : List ℕ) (i a : ℕ) (arc : GraphArc) (next : Values) → IsGraph g → i < length arcs → a ≡ get_or arcs i 0 → StandsAt g v value arcs (drop i arcs) → arc ≡ arc_at g.arcs a → a < length g.arcs → arc.tail ≡ v → Takes g value a → next ≡ over_of g value a → AreWithin (vertex_at g.vertices (arc_at g.arcs a).head).windows next → StandsAt g arc.head next arcs (drop (i + 1) arcs)
stands_next g v value arcs i a arc next fit within is h p below tail takes e held =
    let more : drop i arcs ≡ a ∷ drop (i + 1) arcs = drop_more arcs i 0 within ∙ ap (λ (x : ℕ). x ∷ drop (i + 1) arcs) (sym is) in
    let here = subst (λ (xs : List ℕ). StandsAt g v value arcs xs) more h in
    let step = stands_step g v value arcs a (drop (i + 1) arcs) fit here below (ap (λ (x : GraphArc). x.tail) (sym p) ∙ tail) takes in
    subst (λ (x : GraphArc). StandsAt g x.head next arcs (drop (i + 1) arcs)) (sym p)
    (subst (λ (n : Values). StandsAt g (arc_at g.arcs a).head n arcs (drop (i + 1) arcs)) (sym e) (step (subst (λ (n : Values). AreWithin (vertex_at g.vertices (arc_at g.arcs a).head).windows n) e held)))

-- walks taken apart and put together
pub leads_join : (g : GraphParts) (u : ℕ) (xs : List ℕ) (v : ℕ) (ys : List ℕ) (w : ℕ) → Leads g u xs v → Leads g v ys w → Leads g u (xs ++ ys) w
leads_join g u [] v ys w h k = subst (λ (x : ℕ). Leads g x ys w) (sym h) k
leads_join g u (a ∷ xs) v ys w h k = (h.0, h.1, leads_join g (arc_at g.arcs a).head xs v ys w h.2 k)

pub leads_split : (g : GraphParts) (u : ℕ) (xs ys : List ℕ) (w : ℕ) → Leads g u (xs ++ ys) w → (v : ℕ) × Leads g u xs v × Leads g v ys w
leads_split g u [] ys w h = (u, refl, h)
leads_split g u (a ∷ xs) ys w h =
    let more = leads_split g (arc_at g.arcs a).head xs ys w h.2 in
    (more.0, (h.0, h.1, more.1), more.2)

pub passes_join : (g : GraphParts) (value : Values) (xs ys : List ℕ) → Passes g value xs → Passes g (values_at_end g value xs) ys → Passes g value (xs ++ ys)
passes_join g value [] ys h k = k
passes_join g value (a ∷ xs) ys h k = (h.0, passes_join g (over_of g value a) xs ys h.1 k)

pub passes_split : (g : GraphParts) (value : Values) (xs ys : List ℕ) → Passes g value (xs ++ ys) → Passes g value xs × Passes g (values_at_end g value xs) ys
passes_split g value [] ys h = (tt, h)
passes_split g value (a ∷ xs) ys h =
    let more = passes_split g (over_of g value a) xs ys h.1 in
    ((h.0, more.0), more.1)

-- the values at the end of a partial walk lie in the windows there
pub within_at_end : (g : GraphParts) (v : ℕ) (value : Values) (xs : List ℕ) (w : ℕ) → Leads g v xs w → Passes g value xs → AreWithin (vertex_at g.vertices v).windows value → AreWithin (vertex_at g.vertices w).windows (values_at_end g value xs)
within_at_end g v value [] w h p k = subst (λ (u : ℕ). AreWithin (vertex_at g.vertices u).windows value) h k
within_at_end g v value (a ∷ xs) w h p k =
    within_at_end g (arc_at g.arcs a).head (over_of g value a) xs w h.2 p.1
    (moved_is_within value.at (arc_at g.arcs a).needs (vertex_at g.vertices (arc_at g.arcs a).head).windows p.0)

pub end_within : (g : GraphParts) (v : ℕ) (xs : List ℕ) (w : ℕ) → IsGraph g → v < length g.vertices → Leads g v xs w → w < length g.vertices
end_within g v [] w fit l h = subst (λ (u : ℕ). u < length g.vertices) h l
end_within g v (a ∷ xs) w fit l h = end_within g (arc_at g.arcs a).head xs w fit (fit.fits.each_arc a _ h.0).head h.2
